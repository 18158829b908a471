use Rattle.std.proofs.Common.{inr, refl}
use Rattle.cpu_words.proofs.by_keeper.Republishing.{republish_may}
use Rattle.cpu_words.proofs.logs.Known.{attached_by}
use Rattle.cpu_words.proofs.steps.publishing.republish.Goals as goal

pub store-requires-clause-may : goal.store-requires-clause-may
store-requires-clause-may c = republish_may _ _ _ _ _ _ c.link_place.ensures.place c.requires.may

pub returns-clause-attached : goal.returns-clause-attached
returns-clause-attached c d keeps = attached_by c.args.slot c.args.keeper.now.log _ c.args.keeper.now.view d _ _ c.store.ensures.own_log keeps (inr (c.args.old, refl)) c.store.ensures.step.log
