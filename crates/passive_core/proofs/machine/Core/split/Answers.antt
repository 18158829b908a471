use Rattle.passive_core.specs.Types.{SplitRef}
use Rattle.passive_core.proofs.Entering.{step_left}
use Rattle.passive_core.proofs.machine.Core.split.Goals as goal

pub invariant_of-self-2 : goal.invariant_of-self-2
invariant_of-self-2 c = step_left (SplitRef c.args.c) c.self.view_is c.self.invariant (rw (c.requires, c.in_ok-put_local.ensures.ok, c.least_id-id.ensures.value, ← c.self.view_is))
