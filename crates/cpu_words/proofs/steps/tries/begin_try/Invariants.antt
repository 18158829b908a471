use Rattle.cpu_words.specs.Types.{Word}
use Rattle.cpu_words.specs.Common.{Cpu, Makes, TriedTold, did}
use Rattle.cpu_words.proofs.steps.tries.begin_try.Given as goal

abbrev pub ghosts-add : goal.ghosts-add
ghosts-add a = record { does = λ x n. did a.event (Word n); tells = λ x n y. Makes a.event (Word n) (Cpu x) (Cpu y) × TriedTold a.event x y }
