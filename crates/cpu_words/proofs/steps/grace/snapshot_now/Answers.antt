use Rattle.cpu_words.proofs.by_keeper.Draining.{snapshot_now_may}
use Rattle.cpu_words.proofs.steps.grace.snapshot_now.Goals as goal

pub load-requires-clause-may : goal.load-requires-clause-may
load-requires-clause-may c = rw c.section_place.ensures.place (snapshot_now_may _ _ _ c.requires.may)
