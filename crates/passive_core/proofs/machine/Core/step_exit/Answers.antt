use Rattle.std.proofs.Common.{sym, ◌∙◌}
use Rattle.passive_core.specs.Types.{Exit}
use Rattle.passive_core.proofs.Entering.{step_left}
use Rattle.passive_core.proofs.machine.Core.step_exit.Goals as goal

pub invariant_of-self : goal.invariant_of-self
invariant_of-self c = step_left (Exit c.args.c) c.self.view_is c.self.invariant (rw (sym c.may_exit.ensures.value ∙ c.if-not-may_exit.false, c.section_at-word.ensures.value, ← c.self.view_is))
