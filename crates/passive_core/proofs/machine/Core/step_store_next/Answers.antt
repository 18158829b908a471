use Rattle.std.proofs.Common.{sym, ◌∙◌}
use Rattle.passive_core.specs.Types.{StoreNext}
use Rattle.passive_core.proofs.Entering.{step_left}
use Rattle.passive_core.proofs.machine.Core.step_store_next.Goals as goal

pub invariant_of-self : goal.invariant_of-self
invariant_of-self c = step_left (StoreNext c.args.t c.args.v) c.self.view_is c.self.invariant (rw (sym c.may_write.ensures.value ∙ c.if-not-may_write.false, ← c.self.view_is))
