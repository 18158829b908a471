use Rattle.cpu_words.specs.Types.{Done}
use Rattle.cpu_words.specs.Common.{Cpu, Makes, HasExited, did}
use Rattle.cpu_words.proofs.steps.sections.exit.Given as goal

abbrev pub ghosts-add : goal.ghosts-add
ghosts-add a = record { does = λ x n. did a.event Done; tells = λ x n y. Makes a.event Done (Cpu x) (Cpu y) × HasExited x y }
