use Rattle.std.proofs.Common.{sym, ◌∙◌}
use Rattle.passive_core.specs.Types.{JoinRef}
use Rattle.passive_core.proofs.Entering.{step_left}
use Rattle.passive_core.proofs.machine.Core.step_join_ref.Goals as goal

pub invariant_of-self : goal.invariant_of-self
invariant_of-self c = step_left (JoinRef c.args.c c.args.id) c.self.view_is c.self.invariant (rw (sym c.in-Some.ensures.value, sym c.is_idle.ensures.value ∙ c.if-not-is_idle.false, ← c.self.view_is))
