use Rattle.std.proofs.Common.{refl, sym, ap, ◌∙◌}
use Rattle.protocol.specs.Common.{State, may_hide}
use Rattle.passive_core.specs.Common.{state_shown}
use Rattle.passive_core.specs.Types.{Hide, Done}
use Rattle.protocol.proofs.keeps.Keeping.{step_holds}
use Rattle.passive_core.proofs.machine.Core.step_hide.Goals as goal

pub invariant_of-self : goal.invariant_of-self
invariant_of-self c =
    let test = ap (λ (x : State). may_hide x c.args.t) c.self.view_is ∙ (sym c.may_hide.ensures.value ∙ c.if-not-may_hide.false) in
    step_holds (state_shown c.self.inside) _ (Hide c.args.t) Done c.self.invariant (rw (test) refl)
