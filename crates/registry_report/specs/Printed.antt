-- What each command may print, on any registry, and what a run has written.
use Rattle.std.specs.Prelude.{◌≡◌, ℕ, List, ◌++◌, Option, [], ◌∷◌, true, ◌⊎◌, Result, IfErr}
use Rattle.std.specs.Io.KnownBytes.{Appends}
use Rattle.registry_report.specs.Types.{RunFault, Refusal, NoMemory, NameTaken, NoSlot, HistoryFull, NotFound, Inside, SectionsSpent, NothingFound, PassiveFull, WrongCpu, NotHeld, LocalFull, NotRetired, StillHeld, Waiting, TooDeep, NeedsDriver, Command, Domain, Limits, Plug, Enter, Exit, Find, Reference, Copy, Held, Read, Release, Count, Peek, Uncount, Advance, Destroy, Perform, Audit}
use Rattle.registry_values.specs.Common.{Tally, IsObstacle}
use Rattle.registry_language.specs.declared.fault.RunFault.TheVariants as run
use Rattle.registry_language.specs.declared.command.Command.TheVariants.{Attach, Detach}
use Rattle.registry_report.specs.declared.hitch.Hitch.{Hitch}
use Rattle.registry_report.specs.declared.hitch.Hitch.TheVariants.{NoLabel, LabelTaken, NotInside, Refused}
use Rattle.registry_report.specs.declared.session.Reading.{Reading}
use Rattle.registry_report.specs.Lines.{domain_line, limits_line, attached_line, retired_line, section_line, found_line, reference_line, held_line, read_line, released_line, counted_line, peek_line, uncounted_line, stage_line, destroyed_line, performed_line, audit_text}
use Rattle.registry_report.specs.Report.{answer_line}

-- What was written, and the faults of a run whose script has none.

-- a front of the whole was written, and the rest is left
pub record Written (old new : Option (List ℕ)) (whole rest : List ℕ) : Type 0 where
  pub done : List ℕ
  pub split : whole ≡ done ++ rest
  pub written : Appends old new done

-- a front of the text was written, and nothing else
abbrev pub AppendsPrefix : Option (List ℕ) → Option (List ℕ) → List ℕ → Type 0
AppendsPrefix old new text = (rest : List ℕ) × Written old new text rest

-- the faults of a run whose script has none
abbrev pub IsWhileRunning : RunFault → Type 0
IsWhileRunning run.Write = Unit {0}
IsWhileRunning run.Memory = Unit {0}
IsWhileRunning _ = ⊥

-- What each command may print, on any registry: its line, with some values, or why it has no answer.

-- The refusals of the calls, except out of memory, which has no line

-- of attach and of attach_iface
abbrev pub IsOfAttach : Refusal → Type 0
IsOfAttach Inside = Unit {0}
IsOfAttach NeedsDriver = Unit {0}
IsOfAttach NameTaken = Unit {0}
IsOfAttach NoSlot = Unit {0}
IsOfAttach HistoryFull = Unit {0}
IsOfAttach _ = ⊥

abbrev pub IsOfDetach : Refusal → Type 0
IsOfDetach Inside = Unit {0}
IsOfDetach NotFound = Unit {0}
IsOfDetach _ = ⊥

abbrev pub IsOfEnter : Refusal → Type 0
IsOfEnter TooDeep = Unit {0}
IsOfEnter SectionsSpent = Unit {0}
IsOfEnter _ = ⊥

abbrev pub IsOfAcquire : Refusal → Type 0
IsOfAcquire NothingFound = Unit {0}
IsOfAcquire PassiveFull = Unit {0}
IsOfAcquire _ = ⊥

-- why a CPU may not use a passive reference: of read and of release
abbrev pub IsMisuse : Refusal → Type 0
IsMisuse WrongCpu = Unit {0}
IsMisuse NotHeld = Unit {0}
IsMisuse _ = ⊥

abbrev pub IsOfCopy : Refusal → Type 0
IsOfCopy WrongCpu = Unit {0}
IsOfCopy NotHeld = Unit {0}
IsOfCopy PassiveFull = Unit {0}
IsOfCopy _ = ⊥

abbrev pub IsOfAcquireLocal : Refusal → Type 0
IsOfAcquireLocal NothingFound = Unit {0}
IsOfAcquireLocal LocalFull = Unit {0}
IsOfAcquireLocal _ = ⊥

abbrev pub IsOfAdvance : Refusal → Type 0
IsOfAdvance NotRetired = Unit {0}
IsOfAdvance _ = ⊥

abbrev pub IsOfDestroy : Refusal → Type 0
IsOfDestroy Inside = Unit {0}
IsOfDestroy NotRetired = Unit {0}
IsOfDestroy (StillHeld stage) = IsObstacle stage
IsOfDestroy _ = ⊥

abbrev pub IsOfPerform : Refusal → Type 0
IsOfPerform Inside = Unit {0}
IsOfPerform (Waiting cpu) = Unit {0}
IsOfPerform _ = ⊥

-- why a command may have no answer, and says so
abbrev pub IsHitchOf : Command → Hitch → Type 0
IsHitchOf (Attach c rec) (Refused f) = IsOfAttach f
IsHitchOf (Plug c rec x) NoLabel = Unit {0}
IsHitchOf (Plug c rec x) (Refused f) = IsOfAttach f
IsHitchOf (Detach c kind name) (Refused f) = IsOfDetach f
IsHitchOf (Enter c) (Refused f) = IsOfEnter f
IsHitchOf (Exit c) NotInside = Unit {0}
IsHitchOf (Find c kind name) NotInside = Unit {0}
IsHitchOf (Reference c a) LabelTaken = Unit {0}
IsHitchOf (Reference c a) (Refused f) = IsOfAcquire f
IsHitchOf (Copy c a b) NoLabel = Unit {0}
IsHitchOf (Copy c a b) LabelTaken = Unit {0}
IsHitchOf (Copy c a b) (Refused f) = IsOfCopy f
IsHitchOf (Held c a) NoLabel = Unit {0}
IsHitchOf (Read c a) NoLabel = Unit {0}
IsHitchOf (Read c a) (Refused f) = IsMisuse f
IsHitchOf (Release c a) NoLabel = Unit {0}
IsHitchOf (Release c a) (Refused f) = IsMisuse f
IsHitchOf (Count c x) LabelTaken = Unit {0}
IsHitchOf (Count c x) (Refused f) = IsOfAcquireLocal f
IsHitchOf (Peek x) NoLabel = Unit {0}
IsHitchOf (Uncount c x) NoLabel = Unit {0}
IsHitchOf (Advance n) (Refused f) = IsOfAdvance f
IsHitchOf (Destroy c n turns) (Refused f) = IsOfDestroy f
IsHitchOf (Perform c turns) (Refused f) = IsOfPerform f
IsHitchOf _ _ = ⊥

-- the commands that may run out of memory: those that change the history, and the one that makes a local reference
abbrev pub MayWantMemory : Command → Type 0
MayWantMemory (Attach c rec) = Unit {0}
MayWantMemory (Plug c rec x) = Unit {0}
MayWantMemory (Detach c kind name) = Unit {0}
MayWantMemory (Count c x) = Unit {0}
MayWantMemory _ = ⊥

-- so it is, or memory was refused to a command that may take some
abbrev pub MayHitch : Command → Hitch → Type 0
MayHitch command hitch = (MayWantMemory command × (hitch ≡ Refused NoMemory)) ⊎ IsHitchOf command hitch

-- the line of some answer, or of why there is none
abbrev pub IsAnswered : {X : Type 0} → (X → List ℕ) → Command → List ℕ → Type 0
IsAnswered {X} line command text = (answer : Result X Hitch) × IfErr answer (IsHitchOf command) × (text ≡ answer_line line answer)

-- what a command may print
abbrev pub IsLineOf : Command → List ℕ → Type 0
IsLineOf (Domain cpus slots) text = text ≡ domain_line cpus slots
IsLineOf (Limits changes sections passive count) text = text ≡ limits_line changes sections passive count
IsLineOf (Attach c rec) text = IsAnswered attached_line (Attach c rec) text
IsLineOf (Plug c rec x) text = IsAnswered attached_line (Plug c rec x) text
IsLineOf (Detach c kind name) text = IsAnswered retired_line (Detach c kind name) text
IsLineOf (Enter c) text = IsAnswered {X = Unit {0}} (λ done. section_line true) (Enter c) text
IsLineOf (Exit c) text = IsAnswered section_line (Exit c) text
IsLineOf (Find c kind name) text = IsAnswered found_line (Find c kind name) text
IsLineOf (Reference c a) text = IsAnswered (reference_line a.place) (Reference c a) text
IsLineOf (Copy c a b) text = IsAnswered (reference_line b.place) (Copy c a b) text
IsLineOf (Held c a) text = IsAnswered held_line (Held c a) text
IsLineOf (Read c a) text = IsAnswered (λ (x : Reading). read_line x.number x.value) (Read c a) text
IsLineOf (Release c a) text = IsAnswered (released_line a.place) (Release c a) text
IsLineOf (Count c x) text = IsAnswered (counted_line x.place) (Count c x) text
IsLineOf (Peek x) text = IsAnswered (λ (y : Reading). peek_line y.number y.value) (Peek x) text
IsLineOf (Uncount c x) text = IsAnswered (uncounted_line x.place) (Uncount c x) text
IsLineOf (Advance n) text = IsAnswered stage_line (Advance n) text
IsLineOf (Destroy c n turns) text = IsAnswered destroyed_line (Destroy c n turns) text
IsLineOf (Perform c turns) text = IsAnswered {X = Unit {0}} (λ done. performed_line) (Perform c turns) text
IsLineOf Audit text = (tallies : List Tally) × (text ≡ audit_text tallies)

-- what commands may print, one after the other
abbrev pub IsRunOf : List Command → List ℕ → Type 0
IsRunOf [] text = text ≡ []
IsRunOf (command ∷ commands) text = (first rest : List ℕ) × IsLineOf command first × IsRunOf commands rest × (text ≡ first ++ rest)

-- exactly that was written
abbrev pub WritesRun : Option (List ℕ) → Option (List ℕ) → List Command → Type 0
WritesRun old new commands = (text : List ℕ) × IsRunOf commands text × Appends old new text

-- a front of that was written, and nothing else
abbrev pub WritesFront : Option (List ℕ) → Option (List ℕ) → List Command → Type 0
WritesFront old new commands = (text : List ℕ) × IsRunOf commands text × AppendsPrefix old new text
