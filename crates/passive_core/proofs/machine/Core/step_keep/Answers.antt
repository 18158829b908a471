use Rattle.std.proofs.Common.{sym, ◌∙◌}
use Rattle.passive_core.specs.Types.{Keep}
use Rattle.passive_core.proofs.Entering.{step_left}
use Rattle.passive_core.proofs.machine.Core.step_keep.Goals as goal

pub invariant_of-self : goal.invariant_of-self
invariant_of-self c =
    step_left (Keep c.args.t c.args.id) c.self.view_is c.self.invariant
    (rw (sym c.in-Some.ensures.value, sym c.in-Some-slot_of.ensures.value, sym c.may_keep.ensures.value ∙ c.if-not-may_keep.false, ← c.self.view_is))
