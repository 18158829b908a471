use Rattle.std.proofs.Common.{◌≡◌, ◌<◌, length, [], true, false, refl, sym, ap, ◌∙◌, arith, rules, nat_eq, eq-eqb, ne_eqb}
use Rattle.std.proofs.lemmas.List.{get_or_read}
use Rattle.protocol.specs.Common.{State, hand_at, count_at}
use Rattle.passive_core.specs.Common.{state_shown}
use Rattle.registry_values.specs.Common.{slot_of}
use Rattle.passive_core.specs.Types.{CountDown, Word, Collected}
use Rattle.protocol.proofs.keeps.Keeping.{step_holds}
use Rattle.passive_core.proofs.machine.Core.exchange.Goals as goal
use Rattle.protocol.proofs.counts.Bounds.{counting_positive}

pub overflow_sub-word : goal.overflow_sub-word
overflow_sub-word c =
    let hand = ap (λ (x : State). hand_at x c.args.c) c.self.view_is ∙ c.requires.hand in
    let place = ap (λ (x : State). slot_of x.slots c.args.number) c.self.view_is ∙ c.requires.slot in
    let word = c.count_at-word.ensures ∙ ap (λ (x : State). count_at x.counts c.args.c c.args.t) (sym c.self.view_is) in
    let net = c.net_at-net.ensures ∙ ap (λ (x : State). count_at x.nets c.args.c c.args.t) (sym c.self.view_is) in
    let same : count_at (state_shown c.self.inside).counts c.args.c c.args.t ≡ count_at (state_shown c.self.inside).nets c.args.c c.args.t = sym word ∙ (c.if-word-net.true ∙ net) in
    omega (arith, counting_positive (state_shown c.self.inside) c.args.c c.args.number c.args.id c.args.t c.self.invariant hand place same, word, net, same)

pub overflow_sub-net : goal.overflow_sub-net
overflow_sub-net c =
    let hand = ap (λ (x : State). hand_at x c.args.c) c.self.view_is ∙ c.requires.hand in
    let place = ap (λ (x : State). slot_of x.slots c.args.number) c.self.view_is ∙ c.requires.slot in
    let word = c.count_at-word.ensures ∙ ap (λ (x : State). count_at x.counts c.args.c c.args.t) (sym c.self.view_is) in
    let net = c.net_at-net.ensures ∙ ap (λ (x : State). count_at x.nets c.args.c c.args.t) (sym c.self.view_is) in
    let same : count_at (state_shown c.self.inside).counts c.args.c c.args.t ≡ count_at (state_shown c.self.inside).nets c.args.c c.args.t = sym word ∙ (c.if-word-net.true ∙ net) in
    omega (arith, counting_positive (state_shown c.self.inside) c.args.c c.args.number c.args.id c.args.t c.self.invariant hand place same, word, net, same)

pub invariant_of-self : goal.invariant_of-self
invariant_of-self c =
    let hand = ap (λ (x : State). hand_at x c.args.c) c.self.view_is ∙ c.requires.hand in
    let place = ap (λ (x : State). slot_of x.slots c.args.number) c.self.view_is ∙ c.requires.slot in
    let word = c.count_at-word.ensures ∙ ap (λ (x : State). count_at x.counts c.args.c c.args.t) (sym c.self.view_is) in
    let net = c.net_at-net.ensures ∙ ap (λ (x : State). count_at x.nets c.args.c c.args.t) (sym c.self.view_is) in
    let same : count_at (state_shown c.self.inside).counts c.args.c c.args.t ≡ count_at (state_shown c.self.inside).nets c.args.c c.args.t = sym word ∙ (c.if-word-net.true ∙ net) in
    let test : nat_eq (count_at (state_shown c.self.inside).counts c.args.c c.args.t) (count_at (state_shown c.self.inside).nets c.args.c c.args.t) ≡ true = eq-eqb _ _ same in
    let low : c.args.t < length c.self.inside.counts.items = search rules in
    let row = get_or_read c.self.inside.counts.items c.args.t c.index_mut.result.now low c.index_mut.ensures.value [] in
    let low2 : c.args.t < length c.self.inside.nets.items = search rules in
    let row2 = get_or_read c.self.inside.nets.items c.args.t c.index_mut-then-word-net.result.now low2 c.index_mut-then-word-net.ensures.value [] in
    step_holds (state_shown c.self.inside) _ (CountDown c.args.c) (Word c.count_at-word.result) c.self.invariant (rw (hand, place, test, word, net, row, row2) refl)

pub invariant_of-self-else-word-net : goal.invariant_of-self-else-word-net
invariant_of-self-else-word-net c =
    let hand = ap (λ (x : State). hand_at x c.args.c) c.self.view_is ∙ c.requires.hand in
    let place = ap (λ (x : State). slot_of x.slots c.args.number) c.self.view_is ∙ c.requires.slot in
    let word = c.count_at-word.ensures ∙ ap (λ (x : State). count_at x.counts c.args.c c.args.t) (sym c.self.view_is) in
    let net = c.net_at-net.ensures ∙ ap (λ (x : State). count_at x.nets c.args.c c.args.t) (sym c.self.view_is) in
    let test : nat_eq (count_at (state_shown c.self.inside).counts c.args.c c.args.t) (count_at (state_shown c.self.inside).nets c.args.c c.args.t) ≡ false =
    ne_eqb _ _ (λ e. c.if-word-net.false (word ∙ (e ∙ sym net))) in
    step_holds (state_shown c.self.inside) _ (CountDown c.args.c) Collected c.self.invariant (rw (hand, place, test) refl)
