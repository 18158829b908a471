use Rattle.std.proofs.Common.{refl, sym, ap, ◌∙◌}
use Rattle.protocol.specs.Common.{State, at_rest}
use Rattle.registry_values.specs.Common.{slot_at}
use Rattle.passive_core.specs.Common.{state_shown}
use Rattle.passive_core.specs.Types.{Show, Done}
use Rattle.protocol.proofs.keeps.Keeping.{step_holds}
use Rattle.passive_core.proofs.machine.Core.step_show.Goals as goal

pub invariant_of-self : goal.invariant_of-self
invariant_of-self c =
    let live = ap (λ (x : State). slot_at x.slots c.args.t) c.self.view_is ∙ (sym c.slot_at.ensures.value ∙ c.in-Live.is) in
    let rest = ap (λ (x : State). at_rest x.due) c.self.view_is ∙ (sym c.at_rest.ensures.value ∙ c.if-not-at_rest.false) in
    step_holds (state_shown c.self.inside) _ (Show c.args.t) Done c.self.invariant (rw (live, rest) refl)
