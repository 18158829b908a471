use Rattle.std.proofs.Common.{◌≡◌, ◌++◌, ◌∙◌, ◌+◌, ◌*◌, ◌<◌, ◌≤◌, List, length, vec_len, sym, ap, subst, set, arith, rules}
use Rattle.std.proofs.lemmas.List.{map-set}
use Rattle.passive_list.specs.Types.{Settings, Hide, Unpublish, Done, Live, LogItem, Mark, KeeperView, Keeper}
use Rattle.protocol.specs.Common.{live_at}
use Rattle.registry_values.specs.Common.{slot_at}
use Rattle.cpu_words.specs.Common.{Makes, did, keeper_after_live, keeper_after_unpublish}
use Rattle.cpu_words.proofs.seats.Seating.{step_is_shown}
use Rattle.passive_list.specs.Common.{KeptSlot, OnKeeper, OnPlainKeeper, row_at, state_of, states_of, AreSnapshots, AreWritten, HasDetached, IsOurKeeper, LogsDetach, MarksAgree, LogsSnapshots, with_snapshots}
use Rattle.passive_list.proofs.Marks.{marks_stay, slot_below, written_back}
use Rattle.passive_list.proofs.Rows.{live_in, live_read, row_read, state_at}
use Rattle.passive_list.proofs.Retired.{LeadsFrom, StandsBefore, before_read, before_row, leads_read, leads_row, may_unpublish, unpublished_is, snapped_is, stored_keeper, zero_stored, detached_keeper, row_retired, taken_marks}
use Rattle.passive_list.proofs.retiring.retire.Goals.{In-Live, After-hide, After-slot_above-before, After-link_below-link}
use Rattle.passive_list.proofs.retiring.retire.Goals as goal

-- the entry is the one of the slot's row
is_live : (c : In-Live) → (row_at c.keeper.inside.rows.items c.args.slot).state ≡ Live c.in-Live.entry
is_live c =
    let live = ap (λ (x : OnPlainKeeper). slot_at x.keeper.slots c.args.slot) c.keeper.view_is ∙ c.requires.live.1 in
    ap state_of (sym (live_read _ _ _ _ _ _ c.keeper.invariant.0.rows live c.index.ensures)) ∙ c.in-Live.is

-- and is live there
there : (c : In-Live) → (c.args.slot < c.keeper.inside.settings.slots) × (slot_at c.keeper.inside.seat.view.slots c.args.slot ≡ Live c.in-Live.entry)
there c = live_in _ _ _ _ _ c.keeper.invariant.0.rows (state_at c.keeper.inside.rows.items c.args.slot ∙ is_live c)

-- hiding changes no row
hidden : (c : After-hide) → IsOurKeeper c.keeper.inside.settings c.hide.new.keeper.view c.keeper.inside.rows.items c.keeper.inside.changes
hidden c = stored_keeper _ _ _ _ _ c.args.slot 0 c.keeper.invariant.0 c.hide.ensures.change (step_is_shown c.hide.ensures.step.event)

-- the rows say what is above and what is below

before : (c : After-slot_above-before) → StandsBefore c.keeper.inside.rows.items c.args.slot c.slot_above-before.result
before c =
    let live = ap (λ (x : OnPlainKeeper). slot_at x.keeper.slots c.args.slot) c.keeper.view_is ∙ c.requires.live.1 in
    before_read c.keeper.inside.rows.items c.deref.result.now c.args.slot _ _ (live_read _ _ _ _ _ _ c.keeper.invariant.0.rows live c.index-2.ensures) c.deref.ensures.value c.slot_above-before.ensures.before

leads : (c : After-link_below-link) → LeadsFrom c.keeper.inside.rows.items c.args.slot c.link_below-link.result
leads c =
    let live = ap (λ (x : OnPlainKeeper). slot_at x.keeper.slots c.args.slot) c.keeper.view_is ∙ c.requires.live.1 in
    leads_read c.keeper.inside.rows.items c.deref-2.result.now c.args.slot _ _ (live_read _ _ _ _ _ _ c.keeper.invariant.0.rows live c.index-2.ensures) c.deref-2.ensures.value c.link_below-link.ensures

pub hide-requires-clause-place : goal.hide-requires-clause-place
hide-requires-clause-place c =
    let within = (there (goal.at.hide-requires-clause-place c).In-Live).0 in
    subst (λ (z : Settings). c.args.slot < z.slots) (ap (λ (x : OnPlainKeeper). x.words.settings) c.keeper.view_is ∙ sym c.requires.words.1) within

pub hide-requires-clause-may : goal.hide-requires-clause-may
hide-requires-clause-may c =
    let our = c.keeper.invariant.0 in
    record { rest = our.view.rest; slot = subst (λ (z : Settings). c.args.slot < z.slots) (sym our.view.settings) (there (goal.at.hide-requires-clause-may c).In-Live).0 }

pub unpublish-requires-clause-may : goal.unpublish-requires-clause-may
unpublish-requires-clause-may c =
    let at = goal.at.unpublish-requires-clause-may c in
    let our = hidden at.After-hide in
    may_unpublish _ _ _ _ _ _ _ our.view our.rows (is_live at.In-Live) (before at.After-slot_above-before) (leads at.After-link_below-link)
    (ap (λ (x : KeeperView). live_at x.lives c.args.slot) c.hide.ensures.change ∙ zero_stored c.keeper.inside.seat.view.lives c.args.slot)

pub snapshots-requires-clause-is_shown : goal.snapshots-requires-clause-is_shown
snapshots-requires-clause-is_shown c = step_is_shown c.unpublish.ensures.step.event

pub snapshots-requires-clause-room : goal.snapshots-requires-clause-room
snapshots-requires-clause-room c =
    let a = c.keeper.inside.settings in
    let room : c.args.slot * a.cpus + a.cpus ≤ length c.keeper.inside.marks.items =
    omega (arith, slot_below a c.args.slot (there (goal.at.snapshots-requires-clause-room c).In-Live).0, c.keeper.invariant.1.size) in
    search (rules, room)

pub invariant_of-keeper : goal.invariant_of-keeper
invariant_of-keeper c =
    let at = goal.at.invariant_of-keeper c in
    let inside = c.keeper.inside in
    let a = inside.settings in
    let t = c.args.slot in
    let p = c.slot_above-before.result in
    let v = c.link_below-link.result in
    let l = c.snapshots.new.seat.view in
    let taken = c.snapshots.ensures.taken in
    let our = hidden at.After-hide in
    let live = live_in _ _ _ _ c.in-Live.entry our.rows (state_at inside.rows.items t ∙ is_live at.In-Live) in
    let is = snapped_is c.hide.new.keeper.view _ l t c.in-Live.entry p v taken.0 live.1 c.unpublish.ensures.change taken.2 in
    let row = row_read _ _ _ _ _ our.rows live.0 c.index_mut.ensures.value in
    let written = subst (λ (ms : List Mark). AreWritten (t * a.cpus) a.cpus taken.0 ms c.snapshots.new.marks) c.deref_mut.ensures.value taken.3 in
    let marks = marks_stay _ _ c.hide.new.keeper.view _ (ap (λ (x : KeeperView). x.marks) c.hide.ensures.change) c.keeper.invariant.1 in (
      subst (λ (r : KeptSlot). IsOurKeeper a l (set inside.rows.items t (row_retired r c.in-Live.entry)) (inside.changes + 1)) (sym row)
          (detached_keeper _ _ _ _ _ _ _ p v _ our (is_live at.In-Live) taken.1.size is c.snapshots.ensures.is_shown),
      subst (λ (ms : List Mark). MarksAgree a l ms) (sym (written_back (vec_len inside.marks) inside.marks.items c.snapshots.new.marks (taken.3.size ∙ c.deref_mut.ensures.len)))
          (taken_marks _ _ _ _ _ _ _ our.view marks live.0 written (ap (λ (x : KeeperView). x.marks) is)),
    )

pub returns-clause-change : goal.returns-clause-change
returns-clause-change c =
    let at = goal.at.returns-clause-change c in
    let rows = c.keeper.inside.rows.items in
    let k = c.keeper.inside.seat.view in
    let h = c.hide.new.keeper.view in
    let t = c.args.slot in
    let e = c.in-Live.entry in
    let p = c.slot_above-before.result in
    let v = c.link_below-link.result in
    let taken = c.snapshots.ensures.taken in
    let our = c.keeper.invariant.0 in
    let hid : h ≡ keeper_after_live k t 0 = c.hide.ensures.change in
    let live = live_in _ h _ _ e (hidden at.After-hide).rows (state_at rows t ∙ is_live at.In-Live) in
    let new = row_retired c.index_mut.result.now e in
    let b : OnKeeper = record { view = c.snapshots.new.seat.view; slots = states_of (set rows t new); log = c.snapshots.new.seat.log } in
    subst (λ (x : OnPlainKeeper). HasDetached x.keeper t e b) c.keeper.view_is record {
      before = p;
      is_before = before_row _ _ _ _ _ p our.view our.rows (is_live at.In-Live) (before at.After-slot_above-before);
      link = v;
      leads = leads_row _ _ _ _ _ v our.view our.rows (is_live at.In-Live) (leads at.After-link_below-link);
      hidden = subst (λ (x : KeeperView). Makes (Hide t) Done (Keeper k) (Keeper x)) hid c.hide.ensures.step.event;
      made = subst (λ (x : KeeperView). Makes (Unpublish t) Done (Keeper x) (Keeper (keeper_after_unpublish x t e p v))) hid
          (subst (λ (x : KeeperView). Makes (Unpublish t) Done (Keeper h) (Keeper x)) (unpublished_is h c.unpublish.new.keeper.view t e p v live.1 c.unpublish.ensures.change) c.unpublish.ensures.step.event);
      marks = taken.0;
      snapshots = subst (λ (z : Settings). AreSnapshots z.cpus taken.0) (sym our.view.settings) taken.1;
      view = snapped_is h c.unpublish.new.keeper.view c.snapshots.new.seat.view t e p v taken.0 live.1 c.unpublish.ensures.change taken.2
          ∙ ap (λ (x : KeeperView). with_snapshots (keeper_after_unpublish x t e p v) t taken.0) hid;
      slots = map-set state_of rows t new;
    }

pub returns-clause-log : goal.returns-clause-log
returns-clause-log c =
    let inside = c.keeper.inside in
    let t = c.args.slot in
    let new = c.snapshots.new.seat.log in
    let unlinked = c.unpublish.ensures.step.log ∙ ap (λ (log : List LogItem). log ++ did (Unpublish t) Done) c.hide.ensures.step.log in
    let logs = subst (λ (log : List LogItem). LogsSnapshots t inside.settings.cpus log new) unlinked c.snapshots.ensures.log in
    subst (λ (x : OnPlainKeeper). LogsDetach x.keeper.view.settings.cpus t x.keeper.log new) c.keeper.view_is
    (subst (λ (z : Settings). LogsDetach z.cpus t inside.seat.log new) (sym c.keeper.invariant.0.view.settings) logs)
