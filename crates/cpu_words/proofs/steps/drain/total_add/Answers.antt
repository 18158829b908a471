use Rattle.cpu_words.proofs.by_keeper.Totals.{total_add_may}
use Rattle.cpu_words.proofs.steps.drain.total_add.Goals as goal

pub store-requires-clause-may : goal.store-requires-clause-may
store-requires-clause-may c = rw c.total_place.ensures.place (total_add_may _ _ _ _ _ c.requires.may.1)
