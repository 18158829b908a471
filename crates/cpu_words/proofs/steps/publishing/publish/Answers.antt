use Rattle.std.proofs.Common.{inl, refl}
use Rattle.cpu_words.proofs.by_keeper.Publishing.{publish_may}
use Rattle.cpu_words.proofs.logs.Known.{attached_by}
use Rattle.cpu_words.proofs.steps.publishing.publish.Goals as goal

pub store-requires-clause-may : goal.store-requires-clause-may
store-requires-clause-may c = publish_may _ _ _ c.requires.may.0 c.requires.may.1

pub returns-clause-attached : goal.returns-clause-attached
returns-clause-attached c d keeps = attached_by c.args.slot c.args.keeper.now.log _ c.args.keeper.now.view d _ _ c.store.ensures.own_log keeps (inl refl) c.store.ensures.step.log
