use Rattle.std.proofs.Common.{◌≤◌, ◌+◌, List, ap, ◌∙◌, sym, subst}
use Rattle.cpu_words.specs.Common.{CpuView, Seated, AreSeats, cpu_seat, one_seated}
use Rattle.cpu_words.proofs.seats.Seating.{more_seats}
use Rattle.cpu_words.proofs.open.seat_all.Goals as goal

pub loop-preserved : goal.loop-preserved
loop-preserved c =
    let i = c.loop.invariant in
    let table = c.args.words.now.table in
    let z = c.args.words.now.settings in
    let n = c.loop.counter in (
      c.seat.ensures.step.table ∙ i.0,
      c.seat.ensures.keeper ∙ ap one_seated i.1,
      subst (λ (l : List (Seated CpuView)). AreSeats table z (n + 1) l) (sym c.push_reserved.ensures.items)
          (more_seats table z n c.loop.seats.items c.seat.result i.2 (c.seat.ensures.new ∙ (λ j. cpu_seat (i.0 j) (i.1 j).settings (i.1 j).seated))),
      c.push_reserved.ensures.len ∙ ap (λ k. k + 1) i.3,
      subst (λ k. z.cpus ≤ k) (sym c.push_reserved.ensures.capacity) i.4,
    )
