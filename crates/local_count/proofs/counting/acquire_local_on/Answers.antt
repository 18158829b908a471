-- A CPU's data agree with its view over an acquire, and so do the reference's.
use Rattle.std.proofs.Common.{◌<◌, ap, sym, subst, arith, ◌∙◌}
use Rattle.passive_list.specs.Types.{Settings}
use Rattle.passive_list.specs.Common.{OnPlainCpu}
use Rattle.cpu_words.proofs.seats.Seating.{step_is_shown, cut_is_shown}
use Rattle.passive_list.proofs.Agreeing.{own_agrees}
use Rattle.local_count.proofs.References.{stored_agrees, may_acquire, may_count, acquired_reference, acquired_agrees}
use Rattle.local_count.proofs.counting.acquire_local_on.Goals as goal

pub count_add-word-requires-clause-place : goal.count_add-word-requires-clause-place
count_add-word-requires-clause-place c =
    let may = may_acquire _ _ _ _ c.cpu.invariant.is_shown c.cpu.invariant.found (ap (λ (o : OnPlainCpu). o.cpu.view) c.cpu.view_is) c.why_not_acquired_local.ensures c.in_default.not-Some in
    let same = ap (λ (o : OnPlainCpu). o.words.settings) c.cpu.view_is ∙ sym c.requires.words.1 in
    (subst (λ (z : Settings). c.cpu.inside.row.cpu < z.cpus) same c.cpu.invariant.few, subst (λ (z : Settings). c.cpu.inside.found.slot < z.slots) same may.kept.within)

pub count_add-word-requires-clause-may : goal.count_add-word-requires-clause-may
count_add-word-requires-clause-may c =
    may_count _ _ _ _ _ _ _ _ _ _ _ c.cpu.invariant (may_acquire _ _ _ _ c.cpu.invariant.is_shown c.cpu.invariant.found
    (ap (λ (o : OnPlainCpu). o.cpu.view) c.cpu.view_is) c.why_not_acquired_local.ensures c.in_default.not-Some)

pub index_mut-requires : goal.index_mut-requires
index_mut-requires c =
    let may = may_acquire _ _ _ _ c.cpu.invariant.is_shown c.cpu.invariant.found (ap (λ (o : OnPlainCpu). o.cpu.view) c.cpu.view_is) c.why_not_acquired_local.ensures c.in_default.not-Some in
    omega (arith, may.kept.within, c.cpu.invariant.net.size, c.cpu.inside.net.ok.0)

pub invariant_of-result : goal.invariant_of-result
invariant_of-result c =
    let may = may_acquire _ _ _ _ c.cpu.invariant.is_shown c.cpu.invariant.found (ap (λ (o : OnPlainCpu). o.cpu.view) c.cpu.view_is) c.why_not_acquired_local.ensures c.in_default.not-Some in
    acquired_reference _ _ _ _ _ _ _ _ _ _ _ _ _ _ c.cpu.invariant may.kept c.count_add-word.ensures.change c.split_ref-seat.ensures.change

pub invariant_of-cpu : goal.invariant_of-cpu
invariant_of-cpu c =
    let may = may_acquire _ _ _ _ c.cpu.invariant.is_shown c.cpu.invariant.found (ap (λ (o : OnPlainCpu). o.cpu.view) c.cpu.view_is) c.why_not_acquired_local.ensures c.in_default.not-Some in
    stored_agrees _ _ _ _ _ _ _ _ _ _ _ _ _ _ c.set_net.ensures (own_agrees _ _ _ _ _ _ _ _ _ _ _
    (acquired_agrees _ _ _ _ _ _ _ _ _ _ _ _ _ _ _ _ c.cpu.invariant (cut_is_shown c.split_ref-seat.ensures.event (step_is_shown c.count_add-word.ensures.step.event)) may.kept
    (c.split_ref-seat.ensures.step.table ∙ c.count_add-word.ensures.step.table) c.count_add-word.ensures.change c.split_ref-seat.ensures.change c.count_add-word.ensures.word
    c.count_add-word.ensures.room c.count_add-word.ensures.alone))

pub returns-clause-slot : goal.returns-clause-slot
returns-clause-slot c =
    let may = may_acquire _ _ _ _ c.cpu.invariant.is_shown c.cpu.invariant.found (ap (λ (o : OnPlainCpu). o.cpu.view) c.cpu.view_is) c.why_not_acquired_local.ensures c.in_default.not-Some in
    let its = acquired_reference _ _ _ _ _ _ _ _ _ _ _ _ _ _ c.cpu.invariant may.kept c.count_add-word.ensures.change c.split_ref-seat.ensures.change in
    subst (λ (z : Settings). c.split_ref-seat.result.view.entry.slot < z.slots) (ap (λ (o : OnPlainCpu). o.words.settings) c.cpu.view_is) (omega (arith, its.slot, may.kept.within))
