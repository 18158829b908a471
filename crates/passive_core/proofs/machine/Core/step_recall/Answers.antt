use Rattle.std.proofs.Common.{sym, ◌∙◌}
use Rattle.passive_core.specs.Types.{Recall}
use Rattle.passive_core.proofs.Entering.{step_left}
use Rattle.passive_core.proofs.machine.Core.step_recall.Goals as goal

pub invariant_of-self : goal.invariant_of-self
invariant_of-self c =
    step_left (Recall c.args.c c.args.t) c.self.view_is c.self.invariant
    (rw (sym c.may_recall.ensures.value ∙ c.if-not-may_recall.false, c.changes-now.ensures.value, ← c.self.view_is))
