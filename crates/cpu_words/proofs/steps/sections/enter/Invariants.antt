use Rattle.cpu_words.specs.Types.{Done}
use Rattle.cpu_words.specs.Common.{Cpu, Makes, HasEntered, did}
use Rattle.cpu_words.proofs.steps.sections.enter.Given as goal

abbrev pub ghosts-add : goal.ghosts-add
ghosts-add a = record { does = λ x n. did a.event Done; tells = λ x n y. Makes a.event Done (Cpu x) (Cpu y) × HasEntered x y }
