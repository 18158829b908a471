-- Past the table's slots nothing is retired.
use Rattle.std.proofs.Common.{◌≡◌, ◌≤◌, ◌<◌, ⊎_elim, ℕ, Option, refl, sym, ap, ◌∙◌, arith, length-set}
use Rattle.std.specs.Option.{unwrap_or}
use Rattle.std.proofs.lemmas.Bool.{cases_eq, cases_lt}
use Rattle.std.proofs.lemmas.List.{get_or-set_other, get_or-set_same}
use Rattle.protocol.proofs.Cells.{get_or_all}
use Rattle.name_registry.specs.Types.{MOST_SLOTS, Settings, Slot}
use Rattle.registry_values.specs.Common.{retired_number}
use Rattle.registry_values.proofs.Fit.{ranges}
use Rattle.name_registry.proofs.Passed.{none_retired}
use Rattle.name_registry.proofs.glancing.write_retired.Goals as goal

pub loop-slot-init : goal.loop-slot-init
loop-slot-init c = record { size = refl; there = λ t lt. absurd (omega (arith, lt)); later = λ t ge. get_or_all MOST_SLOTS 0 t }

pub loop-slot-preserved : goal.loop-slot-preserved
loop-slot-preserved c =
    let l = c.loop-slot in
    let slots = ap (λ (z : Settings). z.slots) c.settings-slot-end.ensures.value in
    let few = (ranges c.args.keeper.now.words.settings c.settings-slot-end.ensures.own.1.agree.view.fit).slots in
    let number = c.unwrap_or.result in
    let put = c.unwrap_or.ensures ∙ ap (λ (o : Option ℕ). unwrap_or o 0) (c.retired_number.ensures ∙ ap retired_number c.slot.ensures) in
    record {
      size = length-set l.retired l.slot number ∙ l.invariant.size;
      there = λ t lt. ⊎_elim
          (λ (here : t ≡ l.slot). rw here (get_or-set_same l.retired l.slot number 0 (omega (arith, l.invariant.size, c.loop-slot-test.true, slots, few)) ∙ put))
          (λ off. get_or-set_other l.retired l.slot t number 0 off ∙ l.invariant.there t (omega (arith, lt, off)))
          (cases_eq t l.slot);
      later = λ t ge. get_or-set_other l.retired l.slot t number 0 (λ e. absurd (omega (arith, ge, e))) ∙ l.invariant.later t (omega (arith, ge));
    }

pub returns : goal.returns
returns c = λ t lt. ⊎_elim
    (λ (low : t < c.loop-slot.slot). c.loop-slot.invariant.there t low)
    (λ (past : c.loop-slot.slot ≤ t).
    let own = c.settings-slot-end.ensures.own in
    let slots = ap (λ (z : Settings). z.slots) c.settings-slot-end.ensures.value in
    let none = none_retired c.args.keeper.now own.0 t own.1 (omega (arith, past, c.loop-slot-test.false, slots)) in
    c.loop-slot.invariant.later t past ∙ sym (ap (λ (o : Option ℕ). unwrap_or o 0) none))
    (cases_lt t c.loop-slot.slot)
