-- The program: what its arguments ask for, what it did of that, what it prints, and how it ends.
use Rattle.std.specs.Prelude.{ℕ, ◌&&◌, nat_le, List, [], ◌∷◌, Option, Some, None, if◌then◌else◌, codes, ◌≡◌, ℤ, ◌≤◌, ⊤, ◌++◌, Result, Ok, Err}
use Rattle.std.specs.Str.{bytes_eq}
use Rattle.std.specs.Fmt.{decimal, signed_decimal}
use Rattle.std.specs.Io.KnownBytes.{Appends, Keeps}
use Rattle.registry_values.specs.declared.limits.TheConstants.{USUAL_CPUS}
use Rattle.registry_language.specs.Words.{number_of}
use Rattle.registry_language.specs.declared.fault.RunFault.{RunFault}
use Rattle.registry_language.specs.declared.fault.RunFault.TheVariants as run
use Rattle.registry_report.specs.Common.{AppendsPrefix}
use Rattle.registry_storm.specs.{IsSumOf}
use Rattle.registry_storm.specs.declared.sum.StormSum.{StormSum}
use Rattle.registry_script.specs.declared.engine.Engine.{Engine}
use Rattle.registry_script.specs.declared.engine.Engine.TheVariants.{Core, Live}
use Rattle.registry_script.specs.{Ran}
use Rattle.registry_run.specs.declared.task.Task.{Task}
use Rattle.registry_run.specs.declared.task.Task.TheVariants.{Script, Storm}
use Rattle.registry_run.specs.declared.task.StormSize.{StormSize}
use Rattle.registry_run.specs.declared.failure.Failure.{Failure}
use Rattle.registry_run.specs.declared.failure.Failure.TheVariants as failure

-- What the arguments ask for, from the words after the program's name.

-- the engine that a word names
abbrev pub engine_named : List ℕ → Option Engine
engine_named word = if bytes_eq word (codes "core") then Some Core else if bytes_eq word (codes "live") then Some Live else None

-- a number of a script, from 1 to the most
abbrev pub within_one_to : ℕ → Option ℕ → Option ℕ
within_one_to most None = None
within_one_to most (Some n) = if nat_le 1 n && nat_le n most then Some n else None

abbrev pub storm_of : Option ℕ → Option ℕ → Option Task
storm_of (Some cpus) (Some turns) = Some (Storm (record { cpus = cpus; turns = turns }))
storm_of _ _ = None

abbrev pub storm_asked : List ℕ → List ℕ → List ℕ → Option Task
storm_asked word cpus turns = if bytes_eq word (codes "storm") then storm_of (within_one_to USUAL_CPUS (number_of cpus)) (within_one_to 100000 (number_of turns)) else None

abbrev pub script_of : Option Engine → Option Task
script_of None = None
script_of (Some engine) = Some (Script engine)

-- `core` and `live` stand alone; `storm` stands before a number of CPUs, 1 to 8, and one of turns, 1 to 100,000
abbrev pub task_of : List (List ℕ) → Option Task
task_of (word ∷ []) = script_of (engine_named word)
task_of (word ∷ cpus ∷ turns ∷ []) = storm_asked word cpus turns
task_of _ = None

-- What the program did of what was asked for, and what it prints of a storm.

-- a line: a name, its numbers, each after a space, and the end; then what follows
abbrev pub line : List ℕ → List (List ℕ) → List ℕ → List ℕ
line name [] next = name ++ 10 ∷ next
line name (n ∷ numbers) next = name ++ 32 ∷ line n numbers next

-- references, wrong answers, and references that are held
abbrev pub count_lines : ℕ → ℕ → ℤ → List ℕ
count_lines references wrong held =
    line (codes "references") (decimal references ∷ [])
    (line (codes "wrong") (decimal wrong ∷ [])
    (line (codes "held") (signed_decimal held ∷ []) []))

-- what is printed of a storm: five lines
abbrev pub storm_text : StormSum → List ℕ
storm_text sum =
    line (codes "storm") (decimal sum.cpus ∷ decimal sum.turns ∷ [])
    (line (codes "lookups") (decimal sum.lookups ∷ [])
    (count_lines sum.references sum.wrong sum.held))

-- there is such a storm
abbrev pub IsStorm : StormSize → Type 0
IsStorm size = (1 ≤ size.cpus) × (size.cpus ≤ USUAL_CPUS) × (1 ≤ size.turns) × (size.turns ≤ 100000)

abbrev pub IsPossible : Task → Type 0
IsPossible (Script engine) = ⊤
IsPossible (Storm size) = IsStorm size

module _ {X : Type 0} (made : X → StormSize → Result StormSum RunFault → X → Type 0) where
  -- one storm of this size was made, and of its sum this was written
  abbrev pub TellsStorm : StormSize → X → X → (StormSum → Type 0) → Type 0
  TellsStorm size before after was_written = (sum : StormSum) × made before size (Ok sum) after × IsSumOf size.cpus size.turns sum × was_written sum

  -- What a storm wrote: its five lines; if the writer failed, a front of them; else nothing, as memory ran out or no thread came. One storm
  -- was made, or begun
  abbrev pub Stormed : StormSize → X → X → Option (List ℕ) → Option (List ℕ) → Result (Unit {0}) RunFault → Type 0
  Stormed size before after old new (Ok u) = TellsStorm size before after (λ sum. Appends old new (storm_text sum))
  Stormed size before after old new (Err run.Write) = TellsStorm size before after (λ sum. AppendsPrefix old new (storm_text sum))
  Stormed size before after old new (Err run.Memory) = ((found : Result StormSum RunFault) × made before size found after) × Keeps old new
  Stormed size before after old new (Err run.NoThread) = made before size (Err run.NoThread) after × Keeps old new
  Stormed size before after old new (Err _) = ⊥

  -- What was done of a task, from what the reader has left before and after, and what the writer holds before and after. A script makes no storm, and a
  -- storm reads nothing
  abbrev pub Did : Task → X → X → Option (List ℕ) → Option (List ℕ) → Option (List ℕ) → Option (List ℕ) → Result (Unit {0}) RunFault → Type 0
  Did (Script engine) before after left rest old new result = (after ≡ before) × Ran engine left rest old new result
  Did (Storm size) before after left rest old new result = (rest ≡ left) × Stormed size before after old new result

-- How the program ends.

-- the exit status of a failure
abbrev pub status_of : Failure → ℕ
-- whoever called made a mistake, in the arguments or in the script
status_of failure.Usage = 2
status_of (failure.Run (run.Script fault)) = 2
-- a stream failed
status_of (failure.Run run.Read) = 3
status_of (failure.Run run.Write) = 3
-- the machine had too little
status_of (failure.Run run.Memory) = 4
status_of (failure.Run run.NoThread) = 4

-- the exit status: 0 where all was done
abbrev pub status_after : Result (Unit {0}) Failure → ℕ
status_after (Ok u) = 0
status_after (Err fault) = status_of fault
