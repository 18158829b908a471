use Rattle.std.proofs.Common.{sym, ◌∙◌}
use Rattle.passive_core.specs.Types.{Vacate}
use Rattle.passive_core.proofs.Entering.{step_left}
use Rattle.passive_core.proofs.machine.Core.step_vacate.Goals as goal

pub invariant_of-self : goal.invariant_of-self
invariant_of-self c = step_left (Vacate c.args.t) c.self.view_is c.self.invariant (rw (sym c.may_vacate.ensures.value ∙ c.if-not-may_vacate.false, ← c.self.view_is))
