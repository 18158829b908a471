use Rattle.std.proofs.Common.{◌<◌, sym, ap, subst, ◌∙◌, arith}
use Rattle.passive_core.specs.Common.{state_shown}
use Rattle.protocol.specs.Common.{State, is_inside}
use Rattle.passive_core.proofs.Entering.{depth_keeps}
use Rattle.passive_core.proofs.machine.Core.set_depth.Goals as goal

pub invariant_of-self : goal.invariant_of-self
invariant_of-self c =
    let inside = ap (λ (x : State). is_inside x c.args.c) c.self.view_is ∙ c.requires.inside in
    let known : c.args.c < c.self.inside.settings.cpus = subst (λ (x : State). c.args.c < x.settings.cpus) (sym c.self.view_is) c.requires.known in
    depth_keeps (state_shown c.self.inside) c.args.c c.args.depth c.self.invariant known inside c.requires.deep (omega (arith, c.ranges.depth))
