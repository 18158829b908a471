use Rattle.std.proofs.Common.{rules, arith, ap, ℕ, sym}
use Rattle.atomic_table.specs.Table.{Me}
use Rattle.cpu_words.specs.Common.{CpuView, Logged, Seated, the_cpu}
use Rattle.cpu_words.proofs.by_cpu.Hands.{seat_splits, does_split_ref, seat_splits_by, split_ref_leaves}
use Rattle.cpu_words.proofs.steps.locals.split_ref.Goals as goal

pub split_seat-requires : goal.split_seat-requires
split_seat-requires c = (
  search rules,
  let w = c.words.invariant.1 in omega arith,
  seat_splits _ _ _ c.args.seat.now.view _ (ap (λ (m : Me ℕ Logged). m.0) c.seat.invariant.0) c.seat.invariant.1 (ap (λ (s : Seated CpuView). s.view) c.seat.view_is) (ap the_cpu (sym c.requires.cpu))
      (does_split_ref c.args.seat.now.view _ c.requires.cpu c.requires.may) (split_ref_leaves _ _ c.requires.cpu c.requires.may),
)

pub returns-clause-event : goal.returns-clause-event
returns-clause-event c = seat_splits_by c.seat.inside.token.me.0.view _ _ c.args.seat.now.view _ (ap (λ (s : Seated CpuView). s.view) c.seat.view_is)
    (ap (λ (m : Me ℕ Logged). m.0.view) c.split_seat.ensures.2) (ap (λ (m : Me ℕ Logged). m.0.view) c.split_seat.ensures.4) (split_ref_leaves _ _ c.requires.cpu c.requires.may)
