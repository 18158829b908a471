use Rattle.std.proofs.Common.{◌≡◌, ℕ, ◌-◌, suc, length, sym, ap, subst, ◌∙◌, arith}
use Rattle.protocol.specs.Common.{State, link_loaded, with_search_at, after_seeing, some_outcome, Keeps}
use Rattle.passive_core.specs.Common.{state_shown}
use Rattle.passive_core.specs.Types.{Word, AtNumber}
use Rattle.passive_core.proofs.machine.Core.follow.Goals as goal

pub invariant_of-self-else-link-eq0 : goal.invariant_of-self-else-link-eq0
invariant_of-self-else-link-eq0 c =
    let now = c.changes-now.ensures.value ∙ ap (λ (x : State). length x.history) (sym c.self.view_is) in
    let one : c.args.link ≡ suc (c.args.link - 1) = omega (arith, c.if-link-eq0.false) in
    let kept = subst (λ (x : State). Keeps (link_loaded x c.args.c c.args.search (suc (c.args.link - 1)))) (sym c.self.view_is)
    (subst (λ (k : ℕ). Keeps (link_loaded c.args.self.now c.args.c c.args.search k)) one c.requires.holds) in
    rw now kept

pub returns-else-link-eq0 : goal.returns-else-link-eq0
returns-else-link-eq0 c =
    let now = c.changes-now.ensures.value ∙ ap (λ (x : State). length x.history) (sym c.self.view_is) in
    let one : c.args.link ≡ suc (c.args.link - 1) = omega (arith, c.if-link-eq0.false) in
    let eq = ap (link_loaded (state_shown c.self.inside) c.args.c c.args.search) one
    ∙ ap (λ (k : ℕ). some_outcome (with_search_at (after_seeing (state_shown c.self.inside) c.args.c) c.args.c c.args.search (AtNumber (c.args.link - 1))) (Word k)) (sym one) in
    ap (λ (x : State). link_loaded x c.args.c c.args.search c.args.link) (sym c.self.view_is) ∙ rw now eq
