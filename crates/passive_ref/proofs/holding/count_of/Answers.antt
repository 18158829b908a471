-- A place of another number counts nothing of this one.
use Rattle.std.proofs.Common.{◌≡◌, ◌∙◌, ℕ, ap, arith, sym, subst}
use Rattle.passive_list.specs.declared.place.NumberedCount.{NumberedCount}
use Rattle.passive_list.specs.Common.{OnPlainCpu}
use Rattle.passive_list.proofs.Agreeing.{place_is}
use Rattle.cpu_words.specs.Common.{references_to}
use Rattle.passive_ref.specs.{MayRefer}
use Rattle.passive_ref.proofs.Changing.{known_attached, uncounted_here}
use Rattle.passive_ref.proofs.holding.count_of.Goals as goal

pub returns-then-place-number : goal.returns-then-place-number
returns-then-place-number c =
    let known = subst (λ (o : OnPlainCpu). MayRefer o.cpu.view c.args.slot c.args.number) (sym c.cpu.view_is) c.requires in
    let agree = c.cpu.invariant.passive in
    let here = place_is _ c.args.slot _ c.index-place.ensures (omega (arith, known.few, agree.size)) in
    let number = ap (λ (p : NumberedCount). p.number) (sym here) ∙ c.if-place-number.true in
    subst (λ (o : OnPlainCpu). c.index-place.result.now.count ≡ references_to c.args.number o.cpu.view.references) c.cpu.view_is
    (ap (λ (p : NumberedCount). p.count) here ∙ agree.counts c.args.slot ∙ ap (λ (n : ℕ). references_to n c.cpu.inside.seat.view.references) number)

pub returns-else-place-number : goal.returns-else-place-number
returns-else-place-number c =
    let known = subst (λ (o : OnPlainCpu). MayRefer o.cpu.view c.args.slot c.args.number) (sym c.cpu.view_is) c.requires in
    let our = c.cpu.invariant in
    let here = place_is _ c.args.slot _ c.index-place.ensures (omega (arith, known.few, our.passive.size)) in
    let attached = known_attached _ _ known.entry our.passive our.is_shown.shown.found known.known in
    subst (λ (o : OnPlainCpu). 0 ≡ references_to c.args.number o.cpu.view.references) c.cpu.view_is (sym (uncounted_here _ _ _ _ known.entry our.passive known.at attached
    (λ same. c.if-place-number.false (ap (λ (p : NumberedCount). p.number) here ∙ same))))
