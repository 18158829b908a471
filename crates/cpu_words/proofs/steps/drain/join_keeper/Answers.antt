use Rattle.std.proofs.Common.{rules, arith, ap, ℕ}
use Rattle.atomic_table.specs.Table.{Me}
use Rattle.cpu_words.specs.Common.{KeeperView, ReferenceView, Logged, Seated}
use Rattle.cpu_words.proofs.by_keeper.Totals.{joins_keeper, join_keeper_by}
use Rattle.cpu_words.proofs.steps.drain.join_keeper.Goals as goal

pub join_seat-requires : goal.join_seat-requires
join_seat-requires c = (
  search rules,
  search rules,
  search rules,
  let w = c.words.invariant.1 in omega arith,
  joins_keeper _ _ _ _ _ c.args.keeper.now.view c.args.reference.view (ap (λ (m : Me ℕ Logged). m.0) c.keeper.invariant.0) c.keeper.invariant.1 (ap (λ (s : Seated KeeperView). s.view) c.keeper.view_is)
      (ap (λ (m : Me ℕ Logged). m.0) c.reference.invariant.0) c.reference.invariant.1 (ap (λ (s : Seated ReferenceView). s.view) c.reference.view_is) c.requires.may,
)

pub returns-clause-event : goal.returns-clause-event
returns-clause-event c = join_keeper_by c.keeper.inside.token.me.0.view c.reference.inside.token.me.0.view c.join_seat.new.seat.me.0.view c.args.keeper.now.view c.args.reference.view
    (ap (λ (s : Seated KeeperView). s.view) c.keeper.view_is) (ap (λ (s : Seated ReferenceView). s.view) c.reference.view_is) (ap (λ (m : Me ℕ Logged). m.0.view) c.join_seat.ensures.2) c.requires.may
