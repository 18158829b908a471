-- A CPU's data agree with its view over a release, and so do those of a reference that comes back.
use Rattle.std.proofs.Common.{◌<◌, ◌∙◌, ap, sym, subst, arith}
use Rattle.cpu_words.proofs.seats.Seating.{step_is_shown}
use Rattle.passive_list.specs.Types.{Settings}
use Rattle.passive_list.specs.declared.place.NumberedCount.{NumberedCount}
use Rattle.passive_list.specs.Common.{OnPlainCpu}
use Rattle.passive_list.proofs.Agreeing.{cpu_at, own_agrees, place_is}
use Rattle.local_count.specs.{net_by, HasComeBack, HasReleased}
use Rattle.local_count.specs.References.{OnPlainRef}
use Rattle.local_count.proofs.References.{same_agrees, stored_agrees, released_agrees, come_back, has_come_back, has_released, may_count_down}
use Rattle.local_count.proofs.counting.try_release_on.Goals as goal

pub count_down-word-requires-clause-may : goal.count_down-word-requires-clause-may
count_down-word-requires-clause-may c =
    let slot : c.reference.inside.slot < c.args.cpu.now.words.settings.slots =
    omega (arith, c.requires.reference.1, c.reference.invariant.slot, ap (λ (o : OnPlainRef). o.reference.entry.slot) c.reference.view_is) in
    let within = subst (λ (z : Settings). c.reference.inside.slot < z.slots) (ap (λ (o : OnPlainCpu). o.words.settings) (sym c.cpu.view_is)) slot in
    may_count_down _ _ _ _ _ _ _ _ c.cpu.invariant.net c.reference.invariant
    (c.net_count-count.ensures ∙ ap (λ (p : NumberedCount). net_by p c.reference.inside.number) (place_is _ c.reference.inside.slot _ c.index.ensures (omega (arith, within, c.cpu.invariant.net.size))))
    c.join_ref.ensures.change

pub invariant_of-cpu : goal.invariant_of-cpu
invariant_of-cpu c =
    let back = come_back _ _ _ _ _ _ _ c.cpu.invariant.idle.hand c.join_ref.ensures.change (c.count_down-word.ensures.collected c.if-word-count.true).1 c.split_back-seat.ensures.change in
    own_agrees _ _ _ _ _ _ _ _ _ _ _ (same_agrees _ _ _ _ _ _ _ _ _ _ _ _ _ c.cpu.invariant
    (c.split_back-seat.ensures.step.table ∙ c.count_down-word.ensures.step.table ∙ c.join_ref.ensures.step.table) back.cpu)

pub invariant_of-cpu-2 : goal.invariant_of-cpu-2
invariant_of-cpu-2 c =
    let counted = c.count_down-word.ensures.counted c.if-word-count.false in
    let slot : c.reference.inside.slot < c.args.cpu.now.words.settings.slots =
    omega (arith, c.requires.reference.1, c.reference.invariant.slot, ap (λ (o : OnPlainRef). o.reference.entry.slot) c.reference.view_is) in
    let within = subst (λ (z : Settings). c.reference.inside.slot < z.slots) (ap (λ (o : OnPlainCpu). o.words.settings) (sym c.cpu.view_is)) slot in
    stored_agrees _ _ _ _ _ _ _ _ _ _ _ _ _ _ c.set_net.ensures (own_agrees _ _ _ _ _ _ _ _ _ _ _
    (released_agrees _ _ _ _ _ _ _ _ _ _ _ _ _ _ _ _ _ _ _ c.cpu.invariant (step_is_shown counted.0) c.reference.invariant within
    (c.count_down-word.ensures.step.table ∙ c.join_ref.ensures.step.table) c.join_ref.ensures.change counted.1 c.count_down-word.ensures.floor
    (c.net_count-count.ensures ∙ ap (λ (p : NumberedCount). net_by p c.reference.inside.number) (place_is _ c.reference.inside.slot _ c.index.ensures (omega (arith, within, c.cpu.invariant.net.size))))
    c.count_down-word.ensures.net c.count_down-word.ensures.alone))

pub returns-then-word-count-clause-back : goal.returns-then-word-count-clause-back
returns-then-word-count-clause-back c =
    subst (λ (o : OnPlainCpu × OnPlainRef). HasComeBack o.0.cpu o.1.reference (cpu_at c.split_back-seat.new.seat c.cpu.inside.depth c.cpu.inside.memory) c.split_back-seat.result.view)
    (λ k. (c.cpu.view_is k, c.reference.view_is k))
    (has_come_back c.cpu.inside.seat c.join_ref.new.seat c.count_down-word.new.seat c.split_back-seat.new.seat _ _ _ _ c.count_down-word.result c.net_count-count.result _ _ c.cpu.invariant.id c.cpu.invariant.idle.hand c.join_ref.ensures.change c.if-word-count.true
    (c.count_down-word.ensures.collected c.if-word-count.true) c.split_back-seat.ensures.change c.join_ref.ensures.step.log c.count_down-word.ensures.step.log c.split_back-seat.ensures.step.log
    c.join_ref.ensures.step.known_log c.count_down-word.ensures.step.known_log c.split_back-seat.ensures.step.known_log)

pub returns-clause-ok : goal.returns-clause-ok
returns-clause-ok c =
    subst (λ (o : OnPlainCpu × OnPlainRef). HasReleased o.0.cpu o.1.reference (cpu_at c.count_down-word.new.seat c.cpu.inside.depth c.cpu.inside.memory))
    (λ k. (c.cpu.view_is k, c.reference.view_is k))
    (has_released c.cpu.inside.seat c.join_ref.new.seat c.count_down-word.new.seat _ _ _ _ c.count_down-word.result _ _ _ _ c.cpu.invariant.id c.cpu.invariant.idle.hand c.reference.invariant c.join_ref.ensures.change
    (c.count_down-word.ensures.counted c.if-word-count.false).1 c.count_down-word.ensures.net c.if-word-count.false c.join_ref.ensures.step.log c.count_down-word.ensures.step.log
    c.join_ref.ensures.step.known_log c.count_down-word.ensures.step.known_log)
