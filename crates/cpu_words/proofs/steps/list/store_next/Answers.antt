use Rattle.cpu_words.proofs.by_keeper.Storing.{store_next_may}
use Rattle.cpu_words.proofs.steps.list.store_next.Goals as goal

pub store-requires-clause-may : goal.store-requires-clause-may
store-requires-clause-may c = rw c.next_place-place.ensures.place (store_next_may _ _ _ _ c.requires.link c.requires.may)
