-- Each handle is given its box, from the last.
use Rattle.std.proofs.Common.{◌≡◌, ◌+◌, ◌-◌, length, take, suc, subst, sym, ap, ◌∙◌, arith}
use Rattle.std.proofs.lemmas.List.{length-map, take_all}
use mathlib.Core.Option.{some}
use lib.ListN.{get_elem?}
use Rattle.c_calls.specs.Opening.{AreGiven, bodies_of, boxed}
use Rattle.c_calls.proofs.Handles.{body_is, boxed_last, given_more, others_stay, taken}
use Rattle.c_calls.proofs.opening.give_cpus.Goals as goal

pub loop-c-init : goal.loop-c-init
loop-c-init c = (sym (take_all _ _ (omega (arith, c.requires.count, length-map c.args.bodies.items (λ b. b.value)))), (λ k lt. absurd (omega (arith, lt))), λ k _. c.requires.empty k)

pub give_box-requires : goal.give_box-requires
give_box-requires c = sym (body_is c.loop-c.cpus c.loop-c.c c.index-cpus-c.result (omega (arith, c.loop-c-test.true, c.loop-c.auto.cpus))) ∙ c.loop-c.invariant.2 c.loop-c.c (omega arith)

pub loop-c-preserved : goal.loop-c-preserved
loop-c-preserved c =
    let i = c.loop-c.invariant in
    let all = boxed c.args.bodies.items in
    let n = length c.args.cpus.now in
    let k = c.loop-c.c in
    let hs = c.loop-c.cpus in
    let h = c.give_box.new.self in
    let b = c.in-Some.body in
    let one = taken all (boxed c.pop.new.self.items) b.value (n - k) (sym (boxed_last _ b) ∙ (ap boxed (sym c.in-Some.ensures.items) ∙ i.0))
    (omega (arith, c.requires.count, length-map c.args.bodies.items (λ x. x.value))) in
    let left : one.left ≡ n - (k + 1) = omega (arith, one.more) in
    let at : get_elem? all (n - suc k) ≡ some b.value = ap (get_elem? all) (omega (arith, one.more)) ∙ one.is in (
      one.rest ∙ ap (λ m. take m all) left,
      given_more all n k hs h b.value (omega (arith, c.loop-c-test.true, c.loop-c.auto.cpus)) c.give_box.ensures at i.1,
      λ j past. others_stay hs k j h (omega (arith, past)) ∙ i.2 j (omega (arith, past)),
    )

pub returns : goal.returns
returns c = subst (AreGiven (boxed c.args.bodies.items) (length c.args.cpus.now) (bodies_of c.loop-c.cpus)) (omega (arith, c.loop-c-test.false, c.loop-c.auto.c-end)) c.loop-c.invariant.1
