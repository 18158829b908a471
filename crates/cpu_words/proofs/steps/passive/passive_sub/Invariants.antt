use Rattle.cpu_words.specs.Types.{Word}
use Rattle.cpu_words.specs.Common.{tells_subtracted, did}
use Rattle.cpu_words.proofs.steps.passive.passive_sub.Given as goal

abbrev pub ghosts-subtract : goal.ghosts-subtract
ghosts-subtract a = record { does = λ x n. did a.event (Word n); tells = tells_subtracted a.words.now.settings a.event a.word }
