use Rattle.std.proofs.Common.{sym, ◌∙◌}
use Rattle.passive_core.specs.Types.{JoinKeeper}
use Rattle.passive_core.proofs.Entering.{step_left}
use Rattle.passive_core.proofs.machine.Core.step_join_keeper.Goals as goal

pub invariant_of-self : goal.invariant_of-self
invariant_of-self c =
    step_left (JoinKeeper c.args.id) c.self.view_is c.self.invariant
    (rw (sym c.in-Some.ensures.value, sym c.in-Some-slot_of.ensures.value, sym c.may_join_keeper.ensures ∙ c.if-not-may_join_keeper.false, ← c.self.view_is))
