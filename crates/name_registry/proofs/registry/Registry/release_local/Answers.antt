use Rattle.std.proofs.Common.{inl, ap, ◌∙◌}
use Rattle.name_registry.specs.Types.{ReferenceView}
use Rattle.name_registry.proofs.registry.Registry.release_local.Goals as goal

pub release_under-requires-clause-collected : goal.release_under-requires-clause-collected
release_under-requires-clause-collected g c = inl (c.args.cpu.now.view.id, ap (λ (v : ReferenceView). v.collected) (c.back.view_is ∙ c.in-Err.ensures.back.is))
