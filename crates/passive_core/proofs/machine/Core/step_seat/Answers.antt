use Rattle.std.proofs.Common.{sym, ◌∙◌}
use Rattle.passive_core.specs.Types.{Seat}
use Rattle.passive_core.proofs.Entering.{step_left}
use Rattle.passive_core.proofs.machine.Core.step_seat.Goals as goal

pub invariant_of-self : goal.invariant_of-self
invariant_of-self c = step_left (Seat c.args.c) c.self.view_is c.self.invariant (rw (sym c.may_seat.ensures ∙ c.if-not-may_seat.false, ← c.self.view_is))
