use Rattle.cpu_words.specs.Types.{Word}
use Rattle.cpu_words.specs.Common.{tells_added, did}
use Rattle.cpu_words.proofs.steps.passive.passive_add.Given as goal

abbrev pub ghosts-add : goal.ghosts-add
ghosts-add a = record { does = λ x n. did a.event (Word n); tells = tells_added a.words.now.settings a.event a.word }
