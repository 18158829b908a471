use Rattle.cpu_words.specs.Types.{Word}
use Rattle.cpu_words.specs.Common.{Cpu, Makes, RecalledTold, did}
use Rattle.cpu_words.proofs.steps.recalls.recall.Given as goal

abbrev pub ghosts-load : goal.ghosts-load
ghosts-load a = record { does = λ x n. did a.event (Word n); tells = λ x n y. Makes a.event (Word n) (Cpu x) (Cpu y) × RecalledTold a.event x n y }
