use Rattle.std.proofs.Common.{◌≡◌, true, refl, sym, ap, ◌∙◌, arith, nat_eq, eq-eqb}
use Rattle.protocol.specs.Common.{State, total_at}
use Rattle.passive_core.specs.Common.{state_shown}
use Rattle.passive_core.specs.Types.{TotalAdd, Done}
use Rattle.protocol.proofs.keeps.Keeping.{step_holds}
use Rattle.passive_core.proofs.machine.Core.add_to_total.Goals as goal
use Rattle.protocol.proofs.counts.Bounds.{adding_range}

pub overflow_add-total : goal.overflow_add-total
overflow_add-total c =
    let due = ap (λ (x : State). x.due) c.self.view_is ∙ c.requires in
    let total = c.total_at-total.ensures ∙ ap (λ (x : State). total_at x.totals c.args.t) (sym c.self.view_is) in
    omega (arith, adding_range (state_shown c.self.inside) c.args.t c.args.word c.self.invariant due, total)

pub overflow_sub-total : goal.overflow_sub-total
overflow_sub-total c =
    let due = ap (λ (x : State). x.due) c.self.view_is ∙ c.requires in
    let total = c.total_at-total.ensures ∙ ap (λ (x : State). total_at x.totals c.args.t) (sym c.self.view_is) in
    omega (arith, adding_range (state_shown c.self.inside) c.args.t c.args.word c.self.invariant due, total)

pub invariant_of-self : goal.invariant_of-self
invariant_of-self c =
    let due = ap (λ (x : State). x.due) c.self.view_is ∙ c.requires in
    let same : nat_eq c.args.t c.args.t ≡ true = eq-eqb c.args.t c.args.t refl in
    let total = c.total_at-total.ensures ∙ ap (λ (x : State). total_at x.totals c.args.t) (sym c.self.view_is) in
    step_holds (state_shown c.self.inside) _ (TotalAdd c.args.t) Done c.self.invariant (rw (due, same, total) refl)
