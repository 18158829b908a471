use Rattle.std.proofs.Common.{◌-◌, ap, subst, ◌∙◌, arith}
use Rattle.protocol.specs.Common.{Holds, passive_in}
use Rattle.passive_core.proofs.machine.Core.passive_of.Goals as goal

pub overflow_sub-result : goal.overflow_sub-result
overflow_sub-result c =
    let on = subst Holds c.self.view_is c.self.invariant in
    omega (arith, on.passive.counted c.args.c c.in-Some.t, c.passive_at.ensures, c.trying_at.ensures)

pub returns-in-Some : goal.returns-in-Some
returns-in-Some c =
    let s = c.args.self.now in
    (λ i. c.passive_at.ensures i - c.trying_at.ensures i) ∙ ap (passive_in s.passive s.hands c.args.c) c.in-Some.ensures.value
