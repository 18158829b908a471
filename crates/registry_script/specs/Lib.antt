-- What was read of a script, and what a run of it did.
use Rattle.std.specs.Prelude.{ℕ, ◌≤◌, List, length, Option, ◌≡◌, Result, Ok, Err, ◌⊎◌}
use Rattle.std.specs.Io.KnownBytes.{Consumes, IsAtEnd, Appends, Keeps}
use Rattle.registry_language.specs.declared.fault.RunFault.{RunFault}
use Rattle.registry_language.specs.declared.fault.RunFault.TheVariants as run
use Rattle.registry_language.specs.Grammar.{program_of_bytes}
use Rattle.registry_language.specs.Program.{Program}
use Rattle.registry_report.specs.Common.{WritesFront, WritesRun, report, AppendsPrefix}
use Rattle.registry_script.specs.declared.engine.Engine.{Engine}
use Rattle.registry_script.specs.declared.engine.Engine.TheVariants.{Core, Live}

-- What was read, and the faults of a reading.

-- the reader gave these bytes: all there were, or more than a script may have
pub record WasRead (old new : Option (List ℕ)) (text : List ℕ) : Type 0 where
  pub given : Consumes old new text
  pub bound : length text ≤ 65537
  pub whole : length text ≤ 65536 → IsAtEnd new

-- the faults of a reading that has no text
abbrev pub IsWhileReading : RunFault → Type 0
IsWhileReading run.Read = Unit {0}
IsWhileReading run.Memory = Unit {0}
IsWhileReading _ = ⊥

-- What a run did: from what the reader has left before and after, and what the writer holds before and after, to how it ended.

-- what the engine writes of a script, and nothing else: over the core its report, over a registry that is running a line for each command
abbrev pub WritesWhole : Engine → Option (List ℕ) → Option (List ℕ) → Program → Type 0
WritesWhole Core old new program = Appends old new (report program)
WritesWhole Live old new program = WritesRun old new program.commands

-- a prefix of that
abbrev pub WritesPrefix : Engine → Option (List ℕ) → Option (List ℕ) → Program → Type 0
WritesPrefix Core old new program = AppendsPrefix old new (report program)
WritesPrefix Live old new program = WritesFront old new program.commands

-- this is so of the script that was read
abbrev pub OfRead : Option (List ℕ) → Option (List ℕ) → (Program → Type 0) → Type 0
OfRead left rest does = (text : List ℕ) × WasRead left rest text × (program : Program) × (program_of_bytes text ≡ Ok program) × does program

abbrev pub Ran : Engine → Option (List ℕ) → Option (List ℕ) → Option (List ℕ) → Option (List ℕ) → Result (Unit {0}) RunFault → Type 0
-- all that is due was written
Ran engine left rest old new (Ok u) = OfRead left rest (WritesWhole engine old new)
-- nothing was written, and this is the first fault of what was read
Ran engine left rest old new (Err (run.Script fault)) = (text : List ℕ) × WasRead left rest text × (program_of_bytes text ≡ Err fault) × Keeps old new
Ran engine left rest old new (Err run.Read) = Keeps old new
-- a prefix was written
Ran engine left rest old new (Err run.Write) = OfRead left rest (WritesPrefix engine old new)
-- so it is where memory ran out, unless that came before the first line
Ran engine left rest old new (Err run.Memory) = Keeps old new ⊎ OfRead left rest (WritesPrefix engine old new)
-- no run of a script starts a thread
Ran engine left rest old new (Err run.NoThread) = ⊥

-- the same against all that the reader had left, where that is known

abbrev pub OfInput : List ℕ → (Program → Type 0) → Type 0
OfInput input does = (program : Program) × (program_of_bytes input ≡ Ok program) × does program

abbrev pub RanOn : Engine → List ℕ → Option (List ℕ) → Option (List ℕ) → Result (Unit {0}) RunFault → Type 0
RanOn engine input old new (Ok u) = OfInput input (WritesWhole engine old new)
RanOn engine input old new (Err (run.Script fault)) = (program_of_bytes input ≡ Err fault) × Keeps old new
RanOn engine input old new (Err run.Read) = Keeps old new
RanOn engine input old new (Err run.Write) = OfInput input (WritesPrefix engine old new)
RanOn engine input old new (Err run.Memory) = Keeps old new ⊎ OfInput input (WritesPrefix engine old new)
RanOn engine input old new (Err run.NoThread) = ⊥
