-- What is taken out of a local reference's handle.
use Rattle.std.specs.Prelude.{◌≡◌, ◌⊎◌, Bool, true, false, Option, None, Some}
use Rattle.c_handles.specs.declared.taken.LocalTaken.{LocalTaken}
use Rattle.c_handles.specs.declared.taken.LocalTaken.TheVariants.{Nothing, Share, Reference}
use Rattle.c_handles.specs.Bodies.{OnLocal, OnLocalBody, as_copied}

-- nothing of an empty one; of a copied one a share, unless it was the last; else the reference
abbrev pub IsTaken : Option OnLocal → LocalTaken → Type 0
IsTaken l Nothing = l ≡ None
IsTaken l Share = (v : OnLocal) × (l ≡ Some v) × (v.copied ≡ true)
IsTaken l (Reference b room) = (v : OnLocal) × (l ≡ Some v) × (b ≡ v.held)

-- the reference of one that has a block of its own; else the handle is as before
abbrev pub IsTakenOwn : {X : Type 0} → Option OnLocal → Option OnLocal → Option (OnLocalBody × X) → Type 0
IsTakenOwn l l' None = l' ≡ l
IsTakenOwn l l' (Some taken) = (v : OnLocal) × (l ≡ Some v) × (taken.0 ≡ v.held) × (l' ≡ None)

-- of a share
abbrev pub IsTakenShare : Option OnLocalBody → LocalTaken → Type 0
IsTakenShare shared Nothing = ⊥
IsTakenShare shared Share = (b : OnLocalBody) × (shared ≡ Some b)
IsTakenShare shared (Reference b room) = shared ≡ Some b

-- A copy is made, or memory runs out. Then the first one may count as copied all the same.
abbrev pub CopiesTo : Option OnLocal → Option OnLocal → Option OnLocal → Bool → Type 0
CopiesTo l l' copy true = (v : OnLocal) × (l ≡ Some v) × (l' ≡ Some (as_copied v)) × (copy ≡ Some (as_copied v))
CopiesTo l l' copy false = (v : OnLocal) × (l ≡ Some v) × ((l' ≡ l) ⊎ (l' ≡ Some (as_copied v))) × (copy ≡ None)
