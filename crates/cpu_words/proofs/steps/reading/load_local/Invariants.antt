use Rattle.cpu_words.specs.Types.{Word}
use Rattle.cpu_words.specs.Common.{loads_by, tells_local, did}
use Rattle.cpu_words.proofs.steps.reading.load_local.Given as goal

abbrev pub ghosts-load : goal.ghosts-load
ghosts-load a = record { does = λ x n. did (loads_by a.event x) (Word n); tells = tells_local a.event }
