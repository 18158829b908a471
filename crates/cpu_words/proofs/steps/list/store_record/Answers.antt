use Rattle.cpu_words.proofs.by_keeper.Storing.{store_record_may}
use Rattle.cpu_words.proofs.steps.list.store_record.Goals as goal

pub store-requires-clause-may : goal.store-requires-clause-may
store-requires-clause-may c = rw c.record_place-place.ensures.place (store_record_may _ _ _ _ _ c.requires.place.1 c.requires.may)
