use Rattle.std.proofs.Common.{Some, sym, ◌∙◌}
use Rattle.passive_core.specs.Types.{Hear}
use Rattle.passive_core.proofs.Entering.{step_left}
use Rattle.passive_core.proofs.machine.Core.see.Goals as goal

pub invariant_of-self : goal.invariant_of-self
invariant_of-self c = step_left (Hear (Some c.args.c)) c.self.view_is c.self.invariant (rw (sym c.is_idle.ensures.value ∙ c.if-not-is_idle.false, c.changes-now.ensures.value, ← c.self.view_is))
