use Rattle.cpu_words.specs.Types.{Word}
use Rattle.cpu_words.specs.Common.{RefindTold, did, event_by}
use Rattle.cpu_words.proofs.steps.recalls.refind.Given as goal

abbrev pub ghosts-load_either : goal.ghosts-load_either
ghosts-load_either a = record { does = λ x m. did (event_by a.number a.same a.other m) (Word m); tells = RefindTold a.number a.same a.other }
