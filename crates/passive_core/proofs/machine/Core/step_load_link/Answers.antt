use Rattle.std.proofs.Common.{ℕ, ◌<◌, length, get_or, Option, sym, ap, subst, ◌∙◌, arith, rules}
use Rattle.std.proofs.lemmas.List.{get_or_read}
use Rattle.protocol.specs.Common.{State, search_at, link_loaded, load_link, with_some, Keeps}
use Rattle.passive_core.specs.Common.{state_shown}
use Rattle.passive_core.proofs.machine.Core.step_load_link.Goals as goal
use Rattle.protocol.proofs.keeps.SearchKeeps.{head_keeps, next_keeps, head_bound, next_bound}
use Rattle.passive_core.specs.Types.{Search}

pub follow-requires-clause-slot : goal.follow-requires-clause-slot
follow-requires-clause-slot c =
    let is = ap (λ (x : State). search_at x c.args.c) c.self.view_is ∙ sym c.in-Some.ensures.value in
    omega (arith, head_bound (state_shown c.self.inside) c.args.c c.in-Some.search c.self.invariant is, ap (λ (x : State). x.settings.slots) c.self.view_is)

pub follow-requires-clause-holds : goal.follow-requires-clause-holds
follow-requires-clause-holds c =
    let is = ap (λ (x : State). search_at x c.args.c) c.self.view_is ∙ sym c.in-Some.ensures.value in
    subst (λ (x : State). Keeps (link_loaded x c.args.c c.in-Some.search c.self.inside.head)) c.self.view_is
    (head_keeps (state_shown c.self.inside) c.args.c c.in-Some.search c.self.invariant is c.in-AtHead.is)

pub index-link-requires : goal.index-link-requires
index-link-requires c =
    let is = ap (λ (x : State). search_at x c.args.c) c.self.view_is ∙ sym c.in-Some.ensures.value in
    let bound = next_bound (state_shown c.self.inside) c.args.c c.in-AtNext.t c.in-Some.search c.self.invariant is c.in-AtNext.is in
    let low : c.in-AtNext.t < length c.self.inside.next.items = omega (arith, bound.0, c.self.invariant.shape.links) in
    search (rules, low)

pub follow-requires-in-AtNext-clause-slot : goal.follow-requires-in-AtNext-clause-slot
follow-requires-in-AtNext-clause-slot c =
    let is = ap (λ (x : State). search_at x c.args.c) c.self.view_is ∙ sym c.in-Some.ensures.value in
    let bound = next_bound (state_shown c.self.inside) c.args.c c.in-AtNext.t c.in-Some.search c.self.invariant is c.in-AtNext.is in
    let low : c.in-AtNext.t < length c.self.inside.next.items = omega (arith, bound.0, c.self.invariant.shape.links) in
    omega (arith, bound.1, get_or_read c.self.inside.next.items c.in-AtNext.t c.index-link.result.now low c.index-link.ensures 0, ap (λ (x : State). x.settings.slots) c.self.view_is)

pub follow-requires-in-AtNext-clause-holds : goal.follow-requires-in-AtNext-clause-holds
follow-requires-in-AtNext-clause-holds c =
    let is = ap (λ (x : State). search_at x c.args.c) c.self.view_is ∙ sym c.in-Some.ensures.value in
    let bound = next_bound (state_shown c.self.inside) c.args.c c.in-AtNext.t c.in-Some.search c.self.invariant is c.in-AtNext.is in
    let low : c.in-AtNext.t < length c.self.inside.next.items = omega (arith, bound.0, c.self.invariant.shape.links) in
    let word = get_or_read c.self.inside.next.items c.in-AtNext.t c.index-link.result.now low c.index-link.ensures 0 in
    subst (λ (x : State). Keeps (link_loaded x c.args.c c.in-Some.search c.index-link.result.now)) c.self.view_is
    (subst (λ (k : ℕ). Keeps (link_loaded (state_shown c.self.inside) c.args.c c.in-Some.search k)) (sym word)
    (next_keeps (state_shown c.self.inside) c.args.c c.in-AtNext.t c.in-Some.search c.self.invariant is c.in-AtNext.is))

pub returns-in-AtNext : goal.returns-in-AtNext
returns-in-AtNext c =
    let is = ap (λ (x : State). search_at x c.args.c) c.self.view_is ∙ sym c.in-Some.ensures.value in
    let bound = next_bound (state_shown c.self.inside) c.args.c c.in-AtNext.t c.in-Some.search c.self.invariant is c.in-AtNext.is in
    let low : c.in-AtNext.t < length c.self.inside.next.items = omega (arith, bound.0, c.self.invariant.shape.links) in
    let word = get_or_read c.self.inside.next.items c.in-AtNext.t c.index-link.result.now low c.index-link.ensures 0 ∙ ap (λ (x : State). get_or x.next c.in-AtNext.t 0) c.self.view_is in
    ap (λ (o : Option Search). with_some o (λ (q : Search). load_link c.args.self.now c.args.c q q.place)) (sym c.in-Some.ensures.value)
    ∙ (ap (load_link c.args.self.now c.args.c c.in-Some.search) c.in-AtNext.is ∙ (ap (link_loaded c.args.self.now c.args.c c.in-Some.search) (sym word) ∙ c.follow-in-AtNext.ensures))
