use Rattle.cpu_words.proofs.by_keeper.Storing.{hide_may}
use Rattle.cpu_words.proofs.steps.publishing.hide.Goals as goal

pub store-requires-clause-may : goal.store-requires-clause-may
store-requires-clause-may c = rw c.live_place.ensures.place (hide_may _ _ _ c.requires.may)
