use Rattle.std.proofs.Common.{◌≡◌, sym, ap, set, subst, ◌∙◌, ◌<◌, List, arith}
use Rattle.std.proofs.lemmas.List.{map-set}
use Rattle.std.proofs.lemmas.Option.{same_Some}
use Rattle.std.proofs.Math.Seq.{map-set_same}
use Rattle.cpu_words.proofs.seats.Seating.{step_is_shown}
use Rattle.passive_list.specs.Types.{Settings, Slot, Vacant, KeeperView}
use Rattle.registry_values.specs.Common.{slot_at}
use Rattle.passive_list.specs.declared.keeper.KeptSlot.{KeptSlot}
use Rattle.passive_list.specs.Common.{OnKeeper, OnPlainKeeper, IsOurKeeper, no_row, row_at, state_of, states_of, total_or_bias}
use Rattle.passive_list.proofs.Marks.{marks_stay}
use Rattle.passive_list.proofs.Rows.{keeper_is, retired_in, row_read}
use Rattle.local_count.specs.Draining.{HasFreed, kept_slot}
use Rattle.local_count.proofs.Freed.{KeepsHeld, keeps_on, may_free, freed_is, freed_keeper, row_freed}
use Rattle.local_count.proofs.GivenUp.{HeldRow, held_row, row_less}
use Rattle.local_count.proofs.freeing.free_iface.Goals.{After-kept_slot, In-Some}
use Rattle.local_count.proofs.freeing.free_iface.Goals as goal

-- the row that was read
row_is : (c : After-kept_slot) → c.index-row.result.now ≡ row_at c.keeper.inside.rows.items c.args.slot
row_is c =
    let agree = c.keeper.invariant.0.rows in
    let retired = ap (λ (x : OnPlainKeeper). slot_at x.keeper.slots c.args.slot) c.keeper.view_is ∙ c.requires.iface.1 in
    row_read _ _ _ _ _ agree (retired_in _ _ _ _ _ agree retired).0 c.index-row.ensures

-- the slot that was found, by the rows
found : (c : After-kept_slot) → c.kept_slot.result ≡ kept_slot (row_at c.keeper.inside.rows.items c.args.slot).keeps c.keeper.inside.rows.items
found c = c.kept_slot.ensures ∙ (ap (kept_slot c.index-row.result.now.keeps) c.deref.ensures.value ∙ ap (λ (r : KeptSlot). kept_slot r.keeps c.keeper.inside.rows.items) (row_is c))

-- it has the driver
held : (c : In-Some) → c.kept_slot.result ≡ kept_slot (row_at c.keeper.inside.rows.items c.args.slot).keeps c.keeper.inside.rows.items
    → KeepsHeld c.keeper.inside.seat.view c.args.slot c.in-Some.driver_slot
held c is =
    let it = keeps_on _ _ _ _ _ _ c.keeper.invariant.0 (keeper_is c.keeper.view_is) c.requires.iface in
    subst (KeepsHeld c.keeper.inside.seat.view c.args.slot) (same_Some it.0 c.in-Some.driver_slot (sym it.1 ∙ (sym is ∙ c.in-Some.is))) it.2

-- and its row
driver : (c : In-Some) → KeepsHeld c.keeper.inside.seat.view c.args.slot c.in-Some.driver_slot → HeldRow c.keeper.inside.settings c.keeper.inside.seat.view c.keeper.inside.rows.items c.in-Some.driver_slot
driver c keeps = held_row _ _ _ _ c.keeper.invariant.0.view c.keeper.invariant.0.rows keeps.held

pub unreachable-requires : goal.unreachable-requires
unreachable-requires c =
    let it = keeps_on _ _ _ _ _ _ c.keeper.invariant.0 (keeper_is c.keeper.view_is) c.requires.iface in
    c.in_default.not-Some it.0 (found (goal.at.unreachable-requires c).After-kept_slot ∙ it.1)

pub kept_sub-requires-clause-may : goal.kept_sub-requires-clause-may
kept_sub-requires-clause-may c =
    let at = goal.at.kept_sub-requires-clause-may c in
    may_free _ _ _ _ _ _ _ c.keeper.invariant.0 (keeper_is c.keeper.view_is) c.requires.iface c.requires.drained (held at.In-Some (found at.After-kept_slot))

pub kept_sub-requires-clause-place : goal.kept_sub-requires-clause-place
kept_sub-requires-clause-place c =
    let at = goal.at.kept_sub-requires-clause-place c in
    let keeps = held at.In-Some (found at.After-kept_slot) in
    subst (λ (z : Settings). c.in-Some.driver_slot < z.slots)
    (c.keeper.invariant.0.view.settings ∙ ap (λ (x : OnPlainKeeper). x.words.settings) c.keeper.view_is ∙ sym c.requires.words.1) keeps.held.slot

pub overflow_sub-total : goal.overflow_sub-total
overflow_sub-total c =
    let at = goal.at.overflow_sub-total c in
    let row = driver at.In-Some (held at.In-Some (found at.After-kept_slot)) in
    omega (arith, row.positive, c.total_or_bias-total.ensures ∙ ap total_or_bias (row_read _ _ _ _ _ c.keeper.invariant.0.rows row.slot c.index.ensures))

pub invariant_of-keeper : goal.invariant_of-keeper
invariant_of-keeper c =
    let at = goal.at.invariant_of-keeper c in
    let inside = c.keeper.inside in
    let rows = inside.rows.items in
    let l = c.kept_sub.new.keeper.view in
    let keeps = held at.In-Some (found at.After-kept_slot) in
    let lt = (driver at.In-Some keeps).slot in
    let agree = c.keeper.invariant.0.rows in
    let read = row_read _ _ _ _ _ agree lt c.index.ensures in
    let row = row_read _ _ _ _ _ agree lt c.index_mut.ensures.value in
    let are = freed_keeper _ _ _ _ _ _ _ _ _ c.keeper.invariant.0 (keeper_is c.keeper.view_is) c.requires.drained keeps
    c.kept_sub.ensures.change (step_is_shown c.kept_sub.ensures.step.event) (c.total_or_bias-total.ensures ∙ ap total_or_bias read) in (
      subst (λ (x : KeptSlot × KeptSlot). IsOurKeeper inside.settings l (set (set rows c.in-Some.driver_slot (row_less x.0 c.total_or_bias-total.result)) c.args.slot (row_freed x.1)) inside.changes)
          (λ i. (sym row i, sym (row_is at.After-kept_slot) i)) are,
      marks_stay _ _ l _ (ap (λ (x : KeeperView). x.marks) (freed_is _ _ _ _ _ keeps.kept c.kept_sub.ensures.change)) c.keeper.invariant.1,
    )

pub returns-clause-change : goal.returns-clause-change
returns-clause-change c =
    let at = goal.at.returns-clause-change c in
    let agree = c.keeper.invariant.0.rows in
    let row = row_read _ _ _ _ _ agree (driver at.In-Some (held at.In-Some (found at.After-kept_slot))).slot c.index_mut.ensures.value in
    let rows = c.keeper.inside.rows.items in
    let t = c.args.slot in
    let u = c.in-Some.driver_slot in
    let less = row_less c.index_mut.result.now c.total_or_bias-total.result in
    let freed = row_freed c.index-row.result.now in
    let b : OnKeeper = record { view = c.kept_sub.new.keeper.view; slots = states_of (set (set rows u less) t freed); log = c.kept_sub.new.keeper.log } in
    subst (λ (x : OnPlainKeeper). HasFreed x.keeper t b) c.keeper.view_is record {
      u = u;
      made = c.kept_sub.ensures.step.event;
      view = c.kept_sub.ensures.change;
      slots = map-set state_of (set rows u less) t freed ∙ ap (λ (xs : List Slot). set xs t Vacant) (map-set_same state_of rows u less no_row (ap state_of row));
      log = c.kept_sub.ensures.step.log;
      freed = λ e gone. c.kept_sub.ensures.freed e (retired_in _ _ _ _ _ agree gone).1;
    }
