use Rattle.std.proofs.Common.{◌≡◌, ◌∙◌, ◌<◌, ◌≤◌, ◌^◌, ◌≤ℤ◌, ℕ, ℤ, List, ap, arith, get_or, length, neg_ℤ, pos, subst, sym}
use Rattle.std.proofs.lemmas.Int.{ints}
use Rattle.protocol.specs.Common.{total_at, Holds}
use Rattle.passive_core.specs.Types.{MOST_CPUS}
use Rattle.registry_values.specs.Common.{less_bias, sum_of}
use Rattle.passive_core.specs.Common.{locals_at}
use Rattle.passive_core.proofs.Audits.{few_locals, locals_range, slot_within, tally_is, total_range}
use Rattle.passive_core.proofs.machine.Core.balance.Goals as goal

pub total_at-requires : goal.total_at-requires
total_at-requires c = slot_within c.args.self.now c.args.t c.requires.occupied.0 (subst Holds c.self.view_is c.self.invariant) c.requires.occupied.1

pub less_bias-total-requires : goal.less_bias-total-requires
less_bias-total-requires c =
    let range = total_range c.args.self.now c.args.t c.requires.occupied.0 (subst Holds c.self.view_is c.self.invariant) c.requires.rest c.requires.occupied.1 in
    omega (arith, c.total_at.ensures, range.1)

pub sum-requires-clause-few : goal.sum-requires-clause-few
sum-requires-clause-few c =
    subst (λ (xs : List ℤ). length xs ≤ MOST_CPUS) (sym (c.deref.ensures.value ∙ c.in_ok-locals.ensures.value)) (few_locals c.args.self.now c.args.t (subst Holds c.self.view_is c.self.invariant))

pub sum-requires-clause-low : goal.sum-requires-clause-low
sum-requires-clause-low c = subst (λ (xs : List ℤ). (k : ℕ) → k < length xs → neg_ℤ (pos (2 ^ 50)) ≤ℤ get_or xs k (pos 0)) (sym (c.deref.ensures.value ∙ c.in_ok-locals.ensures.value))
    (λ k lt. (locals_range c.args.self.now c.args.t c.requires.occupied.0 (subst Holds c.self.view_is c.self.invariant) c.requires.occupied.1 k lt).0)

pub sum-requires-clause-high : goal.sum-requires-clause-high
sum-requires-clause-high c = subst (λ (xs : List ℤ). (k : ℕ) → k < length xs → get_or xs k (pos 0) ≤ℤ pos (2 ^ 50)) (sym (c.deref.ensures.value ∙ c.in_ok-locals.ensures.value))
    (λ k lt. (locals_range c.args.self.now c.args.t c.requires.occupied.0 (subst Holds c.self.view_is c.self.invariant) c.requires.occupied.1 k lt).1)

pub overflow_add-held : goal.overflow_add-held
overflow_add-held c =
    let range = total_range c.args.self.now c.args.t c.requires.occupied.0 (subst Holds c.self.view_is c.self.invariant) c.requires.rest c.requires.occupied.1 in
    let total : c.less_bias-total.result ≡ less_bias (total_at c.args.self.now.totals c.args.t) = c.less_bias-total.ensures ∙ ap less_bias c.total_at.ensures in
    omega (arith, ints, c.sum.ensures.least, c.sum.ensures.most, total, range)

pub returns : goal.returns
returns c =
    let range = total_range c.args.self.now c.args.t c.requires.occupied.0 (subst Holds c.self.view_is c.self.invariant) c.requires.rest c.requires.occupied.1 in
    let total : c.less_bias-total.result ≡ less_bias (total_at c.args.self.now.totals c.args.t) = c.less_bias-total.ensures ∙ ap less_bias c.total_at.ensures in
    let sum : c.sum.result ≡ sum_of (locals_at c.args.self.now c.args.t) = c.sum.ensures.value ∙ ap sum_of (c.deref.ensures.value ∙ c.in_ok-locals.ensures.value) in
    tally_is c.args.self.now c.args.number c.args.t _ _ c.in_ok-locals.locals.items c.in_ok-locals.ensures.value (omega (arith, ints, total, range))
    (omega (arith, ints, c.sum.ensures.least, c.sum.ensures.most, sum, total, range))
