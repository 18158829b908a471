-- A reference that came back shows that its count was collected.
use Rattle.std.proofs.Common.{ap, inl}
use Rattle.name_registry.specs.Types.{ReferenceView}
use Rattle.name_registry.proofs.with_driver.let_go.Goals as goal

pub release_under-requires-clause-collected : goal.release_under-requires-clause-collected
release_under-requires-clause-collected c = inl (c.args.cpu.now.cpu.view.id, ap (λ (v : ReferenceView). v.collected) c.in-Err.ensures.back.is)
