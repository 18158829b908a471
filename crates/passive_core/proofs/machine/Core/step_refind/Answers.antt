use Rattle.std.proofs.Common.{sym, ◌∙◌}
use Rattle.passive_core.specs.Types.{Refind}
use Rattle.passive_core.proofs.Entering.{step_left}
use Rattle.passive_core.proofs.machine.Core.step_refind.Goals as goal

pub invariant_of-self : goal.invariant_of-self
invariant_of-self c =
    step_left (Refind c.args.c c.args.t c.args.number) c.self.view_is c.self.invariant
    (rw (sym c.slot_at.ensures.value ∙ c.in-Live.is, sym c.may_refind.ensures.value ∙ c.if-not-may_refind.false, c.changes-seen.ensures.value, ← c.self.view_is))
