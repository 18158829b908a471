use Rattle.cpu_words.specs.Types.{Word}
use Rattle.cpu_words.specs.Common.{tells_passive, did}
use Rattle.cpu_words.proofs.steps.passive.load_passive.Given as goal

abbrev pub ghosts-load : goal.ghosts-load
ghosts-load a = record { does = λ x n. did a.event (Word n); tells = tells_passive a.event a.word }
