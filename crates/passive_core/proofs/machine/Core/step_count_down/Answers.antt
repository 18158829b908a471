use Rattle.std.proofs.Common.{◌<◌, length, sym, subst, ◌∙◌, arith}
use Rattle.std.proofs.lemmas.List.{get_or_read}
use Rattle.protocol.specs.Common.{State}
use Rattle.passive_core.specs.Common.{state_shown}
use Rattle.passive_core.proofs.machine.Core.step_count_down.Goals as goal
use Rattle.protocol.proofs.counts.Bounds.{giving_within}
use Rattle.passive_core.specs.Types.{Empty}

pub exchange-requires-clause-place : goal.exchange-requires-clause-place
exchange-requires-clause-place c =
    let low : c.args.c < length c.self.inside.hands.items = omega (arith, c.if-c-self.false, c.self.invariant.shape.hands) in
    let hand = sym (get_or_read c.self.inside.hands.items c.args.c c.index.result.now low c.index.ensures Empty) ∙ c.in-Giving.is in
    let given = giving_within (state_shown c.self.inside) c.args.c c.in-Giving.number c.in-Giving.id c.self.invariant hand in
    subst (λ (x : State). c.in-Giving.id < length x.locals) c.self.view_is given.1
