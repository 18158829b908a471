use Rattle.std.proofs.Common.{sym, ◌∙◌}
use Rattle.passive_core.specs.Types.{RecallHead}
use Rattle.passive_core.proofs.Entering.{step_left}
use Rattle.passive_core.proofs.machine.Core.step_recall_head.Goals as goal

pub invariant_of-self : goal.invariant_of-self
invariant_of-self c =
    step_left (RecallHead c.args.c) c.self.view_is c.self.invariant (rw (sym c.may_recall_head.ensures.value ∙ c.if-not-may_recall_head.false, c.changes-changes.ensures.value, ← c.self.view_is))
