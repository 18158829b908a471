use Rattle.cpu_words.specs.Types.{Word}
use Rattle.cpu_words.specs.Common.{EndTold, did, event_by}
use Rattle.cpu_words.proofs.steps.tries.end_try.Given as goal

abbrev pub ghosts-load_either : goal.ghosts-load_either
ghosts-load_either a = record { does = λ x m. did (event_by a.number a.same a.other m) (Word m); tells = EndTold a.number a.same a.other }
