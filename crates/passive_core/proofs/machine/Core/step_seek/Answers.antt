use Rattle.std.proofs.Common.{sym, ◌∙◌}
use Rattle.passive_core.specs.Types.{Seek}
use Rattle.passive_core.proofs.Entering.{step_left}
use Rattle.passive_core.proofs.machine.Core.step_seek.Goals as goal

pub invariant_of-self : goal.invariant_of-self
invariant_of-self c =
    step_left (Seek c.args.c c.args.kind c.args.name) c.self.view_is c.self.invariant (rw (sym c.may_seek.ensures.value ∙ c.if-not-may_seek.false, c.seen_at-start.ensures, ← c.self.view_is))
