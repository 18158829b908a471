use Rattle.std.proofs.Common.{ap, ℕ}
use Rattle.atomic_table.specs.Table.{Me}
use Rattle.cpu_words.specs.Common.{KeeperView, ReferenceView, Logged, Seated}
use Rattle.cpu_words.proofs.by_keeper.Keeping.{keep_by}
use Rattle.cpu_words.proofs.operations.kept.join.Goals as goal

pub returns-clause-event : goal.returns-clause-event
returns-clause-event g c =
    keep_by c.keeper.inside.token.me.0.view c.reference.inside.token.me.0.view c.join_seat.new.seat.me.0.view g.S.KeepingSlot.slot _ c.args.keeper.now.view c.args.reference.view c.requires.slot
    (ap (λ (s : Seated KeeperView). s.view) c.keeper.view_is) (ap (λ (s : Seated ReferenceView). s.view) c.reference.view_is) (ap (λ (m : Me ℕ Logged). m.0.view) c.join_seat.ensures.2) c.requires.may
