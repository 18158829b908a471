-- The data agree with the view, whether the CPU has its reference or not.
use Rattle.std.proofs.Common.{◌<◌, ◌∙◌, arith, inr, rules, refl, set, sym, ap, subst}
use Rattle.passive_list.specs.Types.{Settings}
use Rattle.passive_list.specs.declared.place.NumberedCount.{NumberedCount}
use Rattle.passive_list.specs.Common.{IsOurCpu, OnPlainCpu}
use Rattle.passive_list.proofs.Agreeing.{place_is}
use Rattle.passive_ref.specs.{HasSeen, HasTriedOnSeat, counted_for}
use Rattle.passive_ref.proofs.Gets.{given_on, got_on, may_try, taken_agrees, vain_agrees}
use Rattle.passive_ref.proofs.getting.get_on.Goals as goal

pub try_on_seat-done-requires-clause-may : goal.try_on_seat-done-requires-clause-may
try_on_seat-done-requires-clause-may c =
    let seen = subst (λ (o : OnPlainCpu). HasSeen o.cpu.view c.args.slot c.args.number) (sym c.cpu.view_is) c.requires.seen in
    let agree = c.cpu.invariant.passive in
    let here = place_is _ c.args.slot _ c.index.ensures (omega (arith, seen.slots, agree.size)) in
    may_try _ _ _ _ seen c.cpu.invariant.idle agree (subst (λ (p : NumberedCount). p.count < c.cpu.inside.seat.view.settings.passive_limit) here (search rules))

pub try_on_seat-done-requires-clause-slot : goal.try_on_seat-done-requires-clause-slot
try_on_seat-done-requires-clause-slot c =
    let seen = subst (λ (o : OnPlainCpu). HasSeen o.cpu.view c.args.slot c.args.number) (sym c.cpu.view_is) c.requires.seen in
    subst (λ (z : Settings). c.args.slot < z.slots) (ap (λ (o : OnPlainCpu). o.words.settings) c.cpu.view_is ∙ sym c.requires.words.1) seen.slots

pub invariant_of-cpu : goal.invariant_of-cpu
invariant_of-cpu c =
    let had = subst (HasTriedOnSeat c.args.slot c.args.number _ _ _ _) c.if-done.true c.try_on_seat-done.ensures.tried in
    let seen = subst (λ (o : OnPlainCpu). HasSeen o.cpu.view c.args.slot c.args.number) (sym c.cpu.view_is) c.requires.seen in
    let i = c.cpu.inside in
    let seat = c.try_on_seat-done.new.seat in
    let here = place_is i.passive.items c.args.slot _ c.index_mut.ensures.value (omega (arith, seen.slots, c.cpu.invariant.passive.size)) in
    subst (λ (p : NumberedCount). IsOurCpu seat.table seat.view.settings seat.table seat.view i.row i.ended i.depth i.found (set i.passive.items c.args.slot p) i.net.items i.memory) (sym c.count_one.ensures)
    (taken_agrees _ _ _ _ _ _ _ _ _ _ _ _ _ _ _ _ c.cpu.invariant c.try_on_seat-done.ensures.is_shown c.try_on_seat-done.ensures.table seen.slots had.0 (ap (counted_for c.args.number) here))

pub invariant_of-cpu-else-done : goal.invariant_of-cpu-else-done
invariant_of-cpu-else-done c =
    let had = subst (HasTriedOnSeat c.args.slot c.args.number _ _ _ _) c.if-done.false c.try_on_seat-done.ensures.tried in
    vain_agrees _ _ _ _ _ _ _ _ _ _ _ _ _ c.cpu.invariant c.try_on_seat-done.ensures.is_shown c.try_on_seat-done.ensures.table had.0

pub returns-then-done-clause-got : goal.returns-then-done-clause-got
returns-then-done-clause-got c =
    let had = subst (HasTriedOnSeat c.args.slot c.args.number _ _ _ _) c.if-done.true c.try_on_seat-done.ensures.tried in
    got_on _ _ _ _ _ _ _ _ _ _ _ _ _ c.cpu.view_is had.0 had.1 c.try_on_seat-done.ensures.known_log (sym c.cpu.invariant.id) refl

pub returns-clause-got : goal.returns-clause-got
returns-clause-got c =
    let had = subst (HasTriedOnSeat c.args.slot c.args.number _ _ _ _) c.if-done.false c.try_on_seat-done.ensures.tried in
    inr (given_on _ _ _ _ _ _ _ _ _ _ _ _ c.cpu.view_is had.0 had.1 c.try_on_seat-done.ensures.known_log)
