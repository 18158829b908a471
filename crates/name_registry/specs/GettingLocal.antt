-- What a get of a local reference answers and leaves: a find, and a count for what it found, in the open section or in one of its own.
use Rattle.std.specs.Prelude.{◌≡◌, ◌≢◌, Option, None, Some, Result, Ok, Err}
use Rattle.name_registry.specs.Types.{Entry, Key, Refusal, NotFound, ReferenceView, Seen}
use Rattle.passive_list.specs.Common.{AnswersEnter, FindsInside, HasExitedOn, OnCpu}
use Rattle.local_count.specs.{AnswersAcquireLocal}
use Rattle.local_count.specs.References.{OnPlainRef}

-- The reference of a result

abbrev pub reference_of : Result OnPlainRef Refusal → Result ReferenceView Refusal
reference_of (Ok r) = Ok r.reference
reference_of (Err refusal) = Err refusal

-- that has the words of its entry beside it
abbrev pub got_of : Result (Seen × OnPlainRef) Refusal → Result ReferenceView Refusal
got_of (Ok got) = Ok got.1.reference
got_of (Err refusal) = Err refusal

-- what there is, or else the refusal beside it
abbrev pub answer_of : {X : Type 0} → Option X → Refusal → Result X Refusal
answer_of (Some x) refusal = Ok x
answer_of None refusal = Err refusal

-- or the entry
abbrev pub got_with : Result (Entry × ReferenceView) Refusal → Result ReferenceView Refusal
got_with (Ok got) = Ok got.1
got_with (Err refusal) = Err refusal

-- A find, and an acquire of what it found, whose result is a reference. What is refused is the result, and nothing is acquired.
pub record FindsAndCounts (key : Key) (a b : OnCpu) (r : Result ReferenceView Refusal) : Type 0 where
  pub found : Option Seen
  pub middle : OnCpu
  pub finds : FindsInside key a middle found
  pub none : found ≡ None → (r ≡ Err NotFound) × (b ≡ middle)
  pub some : found ≢ None → AnswersAcquireLocal middle b r (λ v. v)

-- The same between an enter and an exit. An enter that is refused is the result, and nothing else is done.
pub record CountsInSection (key : Key) (a b : OnCpu) (r : Result ReferenceView Refusal) : Type 0 where
  pub first : OnCpu
  pub entered : Result (Unit {0}) Refusal
  pub enters : AnswersEnter a first entered
  pub refused : (f : Refusal) → entered ≡ Err f → (r ≡ Err f) × (b ≡ first)
  pub inside : entered ≡ Ok tt → (last : OnCpu) × FindsAndCounts key first last r × HasExitedOn last b

-- in the open section, or in one of the call's own
pub record GetsLocal (key : Key) (a b : OnCpu) (r : Result ReferenceView Refusal) : Type 0 where
  pub inside : a.view.begin ≢ None → FindsAndCounts key a b r
  pub outside : a.view.begin ≡ None → CountsInSection key a b r
