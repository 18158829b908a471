use Rattle.std.proofs.Common.{◌≡◌, ◌∙◌, ◌++◌, ℕ, ap, set, subst, sym, arith}
use Rattle.std.proofs.Math.Seq.{map-set_same}
use Rattle.passive_list.specs.Types.{Done, JoinKeeper, Keeper, KeeperView, Reference, TotalSub}
use Rattle.cpu_words.specs.Common.{JoinsBy, Makes, did}
use Rattle.cpu_words.specs.Draining.{HasSubtracted}
use Rattle.passive_list.specs.declared.keeper.KeptSlot.{KeptSlot}
use Rattle.passive_list.specs.Common.{IsOurKeeper, OnKeeper, OnPlainKeeper, no_row, state_of, states_of, total_or_bias}
use Rattle.passive_list.proofs.Marks.{marks_stay}
use Rattle.passive_list.proofs.Rows.{keeper_is, row_read}
use Rattle.local_count.specs.Draining.{HasGivenUp}
use Rattle.local_count.specs.References.{OnPlainRef}
use Rattle.local_count.proofs.GivenUp.{HeldRow, row_less, may_take_in, given_is, given_row, given_keeper}
use Rattle.local_count.proofs.giving_up.release_under.Goals.{After-index}
use Rattle.local_count.proofs.giving_up.release_under.Goals as goal

pub join_keeper-requires-clause-may : goal.join_keeper-requires-clause-may
join_keeper-requires-clause-may c =
    may_take_in _ _ _ _ _ _ _ c.keeper.invariant.0 (keeper_is c.keeper.view_is) (ap (λ (o : OnPlainRef). o.reference) c.reference.view_is) c.requires.collected

-- its slot's row
held : (c : After-index) → HeldRow c.keeper.inside.settings c.keeper.inside.seat.view c.keeper.inside.rows.items c.reference.inside.slot
held c = given_row _ _ _ _ _ _ _ c.reference.inside.seat.view c.keeper.invariant.0 c.reference.invariant.slot c.join_keeper.ensures.change c.total_sub.ensures.step.event

pub overflow_sub-total : goal.overflow_sub-total
overflow_sub-total c =
    let had = held (goal.at.overflow_sub-total c).After-index in
    omega (arith, had.positive, c.total_or_bias-total.ensures ∙ ap total_or_bias (row_read _ _ _ _ _ c.keeper.invariant.0.rows had.slot c.index.ensures))

pub invariant_of-keeper : goal.invariant_of-keeper
invariant_of-keeper c =
    let inside = c.keeper.inside in
    let our = c.keeper.invariant.0 in
    let v = c.reference.inside.seat.view in
    let l = c.total_sub.new.keeper.view in
    let had = held (goal.at.invariant_of-keeper c).After-index in
    let read = row_read _ _ _ _ _ our.rows had.slot c.index.ensures in
    let row = row_read _ _ _ _ _ our.rows had.slot c.index_mut.ensures.value in
    let is = given_is _ _ _ _ v our.view.rest c.join_keeper.ensures.change c.total_sub.ensures.change in (
      subst (λ (r : KeptSlot). IsOurKeeper inside.settings l (set inside.rows.items c.reference.inside.slot (row_less r c.total_or_bias-total.result)) inside.changes) (sym row)
          (given_keeper _ _ _ _ _ _ _ _ v our c.reference.invariant.slot c.join_keeper.ensures.change
          c.total_sub.ensures.step.event c.total_sub.ensures.change (c.total_or_bias-total.ensures ∙ ap total_or_bias read)),
      marks_stay _ _ l _ (ap (λ (x : KeeperView). x.marks) is) c.keeper.invariant.1,
    )

pub returns-clause-change : goal.returns-clause-change
returns-clause-change c =
    let our = c.keeper.invariant.0 in
    let j = c.join_keeper.new.keeper.view in
    let l = c.total_sub.new.keeper.view in
    let rows = c.keeper.inside.rows.items in
    let t = c.reference.inside.slot in
    let v = c.reference.inside.seat.view in
    let new = row_less c.index_mut.result.now c.total_or_bias-total.result in
    let row = row_read _ _ _ _ _ our.rows (held (goal.at.returns-clause-change c).After-index).slot c.index_mut.ensures.value in
    let joined = c.join_keeper.ensures.change in
    let back : t ≡ v.entry.slot = sym c.reference.invariant.slot in
    let b : OnKeeper = record { view = l; slots = states_of (set rows t new); log = c.total_sub.new.keeper.log } in
    subst (λ (x : OnPlainKeeper × OnPlainRef). HasGivenUp x.0.keeper x.1.reference b) (λ i. (c.keeper.view_is i, c.reference.view_is i)) record {
      joined = subst (λ (y : KeeperView). JoinsBy JoinKeeper (Keeper c.keeper.inside.seat.view) (Reference v) (Keeper y)) joined c.join_keeper.ensures.event;
      subtracted = subst (λ (x : KeeperView × ℕ). Makes (TotalSub x.1) Done (Keeper x.0) (Keeper l)) (λ i. (joined i, back i)) c.total_sub.ensures.step.event;
      view = given_is _ j l _ v our.view.rest joined (subst (λ (u : ℕ). HasSubtracted j u l) back c.total_sub.ensures.change);
      slots = map-set_same state_of rows t new no_row (ap state_of row);
      log = c.total_sub.ensures.step.log ∙ (λ i. c.join_keeper.ensures.step.log i ++ did (TotalSub (back i)) Done);
    }
