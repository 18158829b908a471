use Rattle.cpu_words.proofs.by_keeper.Publishing.{unpublish_may}
use Rattle.cpu_words.proofs.steps.publishing.unpublish.Goals as goal

pub store-requires-clause-may : goal.store-requires-clause-may
store-requires-clause-may c = unpublish_may _ _ _ _ _ _ c.link_place.ensures.place c.requires.may
