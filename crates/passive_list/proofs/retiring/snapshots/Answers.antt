use Rattle.std.proofs.Common.{◌≡◌, ◌+◌, ◌*◌, ℕ, suc, set, sym, ◌∙◌, subst, arith}
use Rattle.protocol.specs.Common.{snapshot_mark}
use Rattle.passive_list.specs.Common.{AreWritten, LogsSnapshots}
use Rattle.cpu_words.proofs.seats.Seating.{step_is_shown}
use Rattle.passive_list.proofs.Marks.{one_written, one_taken, taking_next}
use Rattle.passive_list.proofs.retiring.snapshots.Goals as goal

pub loop-c-preserved : goal.loop-c-preserved
loop-c-preserved c =
    let lt = c.loop-c-test.true in
    let few = c.requires.fit.2 in
    let i = c.loop-c.invariant in
    let row = i.1.0 in
    let w = c.snapshot-word.result in
    let size = i.1.2.size in
    let next : suc c.loop-c.c ≡ c.loop-c.c + 1 = omega arith in (
      c.snapshot-word.ensures.step.table ∙ i.0,
      (
        set row c.loop-c.c (snapshot_mark w),
        taking_next c.args.seat.now.view c.loop-c.seat.view c.snapshot-word.new.keeper.view c.args.slot c.args.cpus c.loop-c.c w row c.requires.fresh c.requires.fit.0 i.1.1
            c.snapshot-word.ensures.change,
        one_taken c.loop-c.c w row (omega (arith, lt, few)) i.1.2,
        subst (λ (p : ℕ). AreWritten (c.args.slot * c.args.cpus) (c.loop-c.c + 1) (set row c.loop-c.c (snapshot_mark w)) c.args.marks.now (set c.loop-c.marks p (snapshot_mark w))) (sym c.mark_place.ensures)
            (one_written (c.args.slot * c.args.cpus) c.loop-c.c row c.args.marks.now c.loop-c.marks (snapshot_mark w) (omega (arith, c.requires.room, lt)) (omega (arith, size, lt, few)) i.1.3),
      ),
      step_is_shown c.snapshot-word.ensures.step.event,
      subst (λ (n : ℕ). LogsSnapshots c.args.slot n c.args.seat.now.log c.snapshot-word.new.keeper.log) next (c.loop-c.seat.log, w, i.3, c.snapshot-word.ensures.step.log),
    )
