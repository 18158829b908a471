use Rattle.cpu_words.proofs.by_keeper.Totals.{total_sub_may}
use Rattle.cpu_words.proofs.steps.drain.total_sub.Goals as goal

pub subtract-requires-clause-may : goal.subtract-requires-clause-may
subtract-requires-clause-may c = rw c.total_place.ensures.place (total_sub_may _ _ _ c.requires.may)
