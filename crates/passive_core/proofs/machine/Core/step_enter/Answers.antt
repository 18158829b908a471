use Rattle.std.proofs.Common.{sym, ◌∙◌}
use Rattle.passive_core.specs.Types.{Enter}
use Rattle.passive_core.proofs.Entering.{step_left}
use Rattle.passive_core.proofs.machine.Core.step_enter.Goals as goal

pub invariant_of-self : goal.invariant_of-self
invariant_of-self c =
    step_left (Enter c.args.c) c.self.view_is c.self.invariant
    (rw (sym c.may_enter.ensures.value ∙ c.if-not-may_enter.false, c.section_at-word.ensures.value, c.changes-now.ensures.value, ← c.self.view_is))
