-- What came back shows whose count was collected.
use Rattle.std.proofs.Common.{ap, inl}
use Rattle.c_calls.specs.Types.{ReferenceView}
use Rattle.c_calls.proofs.locals.release_both.Goals as goal

pub release_under-requires-clause-collected : goal.release_under-requires-clause-collected
release_under-requires-clause-collected c = inl (_, ap (λ (r : ReferenceView). r.collected) c.in-Err.ensures.back.is)
