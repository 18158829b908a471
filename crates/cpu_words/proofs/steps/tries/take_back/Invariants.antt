use Rattle.cpu_words.specs.Types.{Word}
use Rattle.cpu_words.specs.Common.{Cpu, Makes, HasTakenBack, did}
use Rattle.cpu_words.proofs.steps.tries.take_back.Given as goal

abbrev pub ghosts-subtract : goal.ghosts-subtract
ghosts-subtract a = record { does = λ x n. did a.event (Word n); tells = λ x n y. Makes a.event (Word n) (Cpu x) (Cpu y) × HasTakenBack x y }
