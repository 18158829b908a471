use Rattle.cpu_words.proofs.by_keeper.Draining.{passive_look_may}
use Rattle.cpu_words.proofs.steps.drain.passive_look.Goals as goal

pub load-requires-clause-may : goal.load-requires-clause-may
load-requires-clause-may c = rw c.passive_place.ensures.place (passive_look_may _ _ _ _ c.requires.may)
