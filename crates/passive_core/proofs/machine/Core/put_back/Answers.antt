use Rattle.passive_core.specs.Types.{SplitBack}
use Rattle.passive_core.proofs.Entering.{step_left}
use Rattle.passive_core.proofs.machine.Core.put_back.Goals as goal

pub invariant_of-self : goal.invariant_of-self
invariant_of-self c = step_left (SplitBack c.args.c) c.self.view_is c.self.invariant (rw (c.requires, ← c.self.view_is))
