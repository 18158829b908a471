-- The data agree with the view as a reference is taken away.
use Rattle.std.proofs.Common.{◌∙◌, ◌-◌, ap, arith, inr, set, subst, sym}
use Rattle.passive_list.specs.declared.place.NumberedCount.{NumberedCount}
use Rattle.passive_list.specs.Common.{IsOurCpu, OnPlainCpu}
use Rattle.passive_ref.specs.{IsHeldAt}
use Rattle.cpu_words.proofs.seats.Seating.{step_is_shown}
use Rattle.passive_list.proofs.Agreeing.{own_agrees, place_is}
use Rattle.passive_ref.proofs.Changing.{less_agrees, held_counts, within}
use Rattle.passive_ref.proofs.acquiring.subtract.Goals as goal

pub passive_sub-requires-clause-place : goal.passive_sub-requires-clause-place
passive_sub-requires-clause-place c =
    let held = subst (λ (o : OnPlainCpu). IsHeldAt o.cpu.view c.args.slot c.args.number) (sym c.cpu.view_is) c.requires.held in
    within _ _ _ _ held.entry c.cpu.invariant.is_shown (ap (λ (o : OnPlainCpu). o.words.settings) c.cpu.view_is ∙ sym c.requires.words.1) held.at (inr held.held)

pub invariant_of-cpu : goal.invariant_of-cpu
invariant_of-cpu c =
    let held = subst (λ (o : OnPlainCpu). IsHeldAt o.cpu.view c.args.slot c.args.number) (sym c.cpu.view_is) c.requires.held in
    let i = c.cpu.inside in
    let agree = c.cpu.invariant.passive in
    let here = place_is i.passive.items c.args.slot _ c.index_mut.ensures.value (omega (arith, held.few, agree.size)) in
    let seat = c.passive_sub.new.seat in
    subst (λ (p : NumberedCount). IsOurCpu seat.table seat.view.settings seat.table seat.view i.row i.ended i.depth i.found (set i.passive.items c.args.slot (record { number = p.number; count = p.count - 1 })) i.net.items i.memory) (sym here)
    (own_agrees _ _ _ _ _ _ _ _ _ _ _ (less_agrees _ _ _ _ _ _ _ _ _ _ _ _ _ held.entry _ _ c.cpu.invariant c.passive_sub.ensures.step.table
    (step_is_shown c.passive_sub.ensures.step.event) held.at held.held c.passive_sub.ensures.change))

pub overflow_sub-index_mut : goal.overflow_sub-index_mut
overflow_sub-index_mut c =
    let held = subst (λ (o : OnPlainCpu). IsHeldAt o.cpu.view c.args.slot c.args.number) (sym c.cpu.view_is) c.requires.held in
    let agree = c.cpu.invariant.passive in
    let here = place_is c.cpu.inside.passive.items c.args.slot _ c.index_mut.ensures.value (omega (arith, held.few, agree.size)) in
    let some = held_counts _ _ _ c.args.slot agree held in
    omega (arith, ap (λ (p : NumberedCount). p.count) here, some)
