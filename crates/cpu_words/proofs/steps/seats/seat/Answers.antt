use Rattle.std.proofs.Common.{ap, ℕ}
use Rattle.atomic_table.specs.Table.{Me}
use Rattle.cpu_words.specs.Common.{KeeperView, Logged, Seated}
use Rattle.cpu_words.proofs.seats.Seating.{seat_splits_by}
use Rattle.cpu_words.proofs.steps.seats.seat.Goals as goal

pub returns-clause-event : goal.returns-clause-event
returns-clause-event c = seat_splits_by c.keeper.inside.token.me.0.view _ _ c.args.keeper.now.view (ap (λ (s : Seated KeeperView). s.view) c.keeper.view_is)
    (ap (λ (m : Me ℕ Logged). m.0.view) c.split_seat.ensures.2) (ap (λ (m : Me ℕ Logged). m.0.view) c.split_seat.ensures.4) c.requires.may
