use Rattle.cpu_words.proofs.by_keeper.Draining.{collect_may}
use Rattle.cpu_words.proofs.steps.drain.collect.Goals as goal

pub swap-requires-clause-may : goal.swap-requires-clause-may
swap-requires-clause-may c = rw c.count_place.ensures.place (collect_may _ _ _ _ c.requires.may)
