use Rattle.cpu_words.specs.Common.{down_reply, DownTold, did}
use Rattle.cpu_words.proofs.steps.locals.count_down.Given as goal

abbrev pub ghosts-compare_exchange : goal.ghosts-compare_exchange
ghosts-compare_exchange a = record { does = λ x n. did a.event (down_reply a.old n); tells = DownTold a.event a.old }
