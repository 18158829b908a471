-- The first place that counts for a number is its entry's.
use Rattle.std.proofs.Common.{◌≡◌, ◌∙◌, ap, sym, subst}
use Rattle.std.specs.Prelude.{position}
use Rattle.passive_list.specs.Common.{OnPlainCpu}
use Rattle.passive_ref.specs.{IsHeldAt, counts_for}
use Rattle.cpu_words.specs.Common.{references_to}
use Rattle.passive_ref.proofs.Changing.{held_here, none_here}
use Rattle.passive_ref.proofs.holding.slot_of.Goals as goal

pub returns-in-Some-clause-some : goal.returns-in-Some-clause-some
returns-in-Some-clause-some c =
    subst (λ (o : OnPlainCpu). IsHeldAt o.cpu.view c.in-Some.slot c.args.number) c.cpu.view_is (held_here _ _ _ _ c.cpu.invariant.passive (ap (position (counts_for c.args.number)) (sym c.as_slice.ensures.value) ∙ sym c.place_for.ensures.value ∙ c.in-Some.is))

pub returns-in-None-clause-none : goal.returns-in-None-clause-none
returns-in-None-clause-none c =
    λ _. subst (λ (o : OnPlainCpu). references_to c.args.number o.cpu.view.references ≡ 0) c.cpu.view_is (none_here _ _ _ c.cpu.invariant.passive (ap (position (counts_for c.args.number)) (sym c.as_slice.ensures.value) ∙ sym c.place_for.ensures.value ∙ c.in-None.is))
