use Rattle.cpu_words.specs.Types.{Word}
use Rattle.cpu_words.specs.Common.{tells_compared, did}
use Rattle.cpu_words.proofs.steps.search.load_compared.Given as goal

abbrev pub ghosts-load : goal.ghosts-load
ghosts-load a = record { does = λ x n. did a.event (Word n); tells = tells_compared a.event a.word }
