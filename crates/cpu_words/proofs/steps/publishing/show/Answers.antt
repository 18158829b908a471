use Rattle.cpu_words.proofs.by_keeper.Storing.{show_may}
use Rattle.cpu_words.proofs.steps.publishing.show.Goals as goal

pub store-requires-clause-may : goal.store-requires-clause-may
store-requires-clause-may c = rw c.live_place.ensures.place (show_may _ _ _ _ c.requires.may)
