-- What is behind a pointer that may be null: what a handle owns, and what a caller lends a call, also as a row.
use Rattle.std.specs.Prelude.{◌≡◌, Option, Some, None, ℕ, ◌<◌, List, length, get_or, Bool, true, false}
use Rattle.std.specs.Borrow.{MutBor}
use base.Fml.{Share, Fml, ftrue, fex, fsep, ffalse}
use base.Fraction.{full_share}
use denote.Memory.{lone}
use denote.RattleType.{RattleType}
use denote.RawPtr.{Ptr, null_ptr, lies_at, Testable, block_ptr}
use mir.Raw.{raw}
use mir.Syntax.{Ty}
use Rattle.std_heap.specs.contracts.GlobalAllocator.TheImpl.{ghosts}
use denote.Index.{row}
use denote.Slice.{Room}

-- the pointer is null
abbrev pub is_null : Ptr → Fml
is_null p = fex (p ≡ null_ptr) (λ _. ftrue)

-- it is null, or that share of a value lies there, and something more is had
abbrev pub may_lie_at : (Ptr → Fml) → (R : RattleType) → Share → Ptr → Option R.Denot → Fml
may_lie_at more R q p None = is_null p
may_lie_at more R q p (Some x) = fsep (lies_at R q p x) (more p)

-- Handles

-- the right to free a block of the C library's heap
abbrev pub token : Ty → Ptr → Fml
token = ghosts.dealloc_token (record { memory = record { seal = tt } })

-- an empty handle is null, and else it owns what a box would
abbrev pub holds : (R : RattleType) → Ptr → Option R.Denot → Fml
holds R = may_lie_at (token (raw (lone R.mir))) R full_share

-- What a caller lends

-- the pointer may be compared with null: it lies less than 2^63 bytes into its block
abbrev pub is_testable : Ptr → Fml
is_testable p = fex (Testable p) (λ _. ftrue)

-- a share of a value is lent, or nothing is
abbrev pub lends : (R : RattleType) → Share → Ptr → Option R.Denot → Fml
lends = may_lie_at is_testable

-- What a handle lends.

-- the reference is to what is held, if anything is
abbrev pub IsLent : {X : Type 0} → Option X → Option (MutBor X) → Type 0
IsLent held None = held ≡ None
IsLent held (Some r) = held ≡ Some r.now

-- A row of values behind a pointer that may be null, as a caller lends one.

-- that share of these values lies there, one beside the other
abbrev pub row_lies_at : (R : RattleType) → Share → Ptr → List R.Denot → Fml
row_lies_at R q (block_ptr b o) xs = row R q xs b o
row_lies_at R q null_ptr xs = ffalse

-- they are as few as a slice may have
abbrev pub is_roomy : (R : RattleType) → List R.Denot → Fml
is_roomy R xs = fex (Room R (length xs)) (λ _. ftrue)

-- a share of a row is lent, or nothing is
abbrev pub lends_row : (R : RattleType) → Share → Ptr → Option (List R.Denot) → Fml
lends_row R q p None = is_null p
lends_row R q p (Some xs) = fsep (row_lies_at R q p xs) (fsep (is_roomy R xs) (is_testable p))

-- a row is as long as is said beside it; of none nothing is said
abbrev pub IsLong : {X : Type 0} → Option (List X) → ℕ → Type 0
IsLong None n = Unit {0}
IsLong (Some xs) n = length xs ≡ n

-- there is one, as long as that
abbrev pub IsThere : {X : Type 0} → Option (List X) → ℕ → Type 0
IsThere None n = ⊥
IsThere (Some xs) n = length xs ≡ n

-- there is none
abbrev pub is_nothing : {X : Type 0} → Option (List X) → Bool
is_nothing None = true
is_nothing (Some xs) = false

-- there is one, and it has that place
abbrev pub IsWithin : {X : Type 0} → Option (List X) → ℕ → Type 0
IsWithin None k = ⊥
IsWithin (Some xs) k = k < length xs

-- the number at that place
abbrev pub number_at : Option (List ℕ) → ℕ → ℕ
number_at None k = 0
number_at (Some xs) k = get_or xs k 0
