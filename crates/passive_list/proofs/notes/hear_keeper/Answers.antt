-- `hear_keeper`: its clause `own`, since what the log says of the view it says of the keeper, whose rows agree with the view; the invariant of `keeper`.
use Rattle.std.proofs.Common.{refl, ap, subst}
use Rattle.cpu_words.specs.Common.{keeper_with_note}
use Rattle.cpu_words.proofs.seats.Seating.{step_is_shown}
use Rattle.passive_list.specs.Common.{OnPlainKeeper, HasOwnLog}
use Rattle.passive_list.specs.Types.{KeeperView}
use Rattle.passive_list.proofs.Marks.{marks_stay}
use Rattle.passive_list.proofs.Rows.{keeper_on, own_log, rows_stay}
use Rattle.passive_list.proofs.notes.hear_keeper.Goals as goal

pub returns-clause-own : goal.returns-clause-own
returns-clause-own c = subst (λ (x : OnPlainKeeper). HasOwnLog x.words.settings x.keeper) c.keeper.view_is (own_log _ _ _ _ _ _ c.keeper.invariant.0 c.hear_keeper.ensures.own_log)

pub invariant_of-keeper : goal.invariant_of-keeper
invariant_of-keeper c =
    let k = c.keeper.inside.seat.view in
    let our = c.keeper.invariant.0 in
    let change = c.hear_keeper.ensures.change in (
      keeper_on _ _ (keeper_with_note k c.args.note.view) _ _ change (step_is_shown c.hear_keeper.ensures.event) (assumption our.view) our.changes (rows_stay _ k _ _ refl refl refl refl our.rows),
      marks_stay _ _ c.hear_keeper.new.keeper.view _ (ap (λ (x : KeeperView). x.marks) change) c.keeper.invariant.1,
    )
