-- The slot keeps the reference, and then the interface takes the other's place there.
use Rattle.std.proofs.Common.{◌≡◌, ◌+◌, ◌*◌, ◌<◌, ◌≤◌, ◌∙◌, ◌++◌, List, Some, None, drop, length, take, vec_len, set, sym, ap, subst, arith, get_or-set_same}
use Rattle.passive_list.specs.Types.{Entry, Keep, Live, Retired, Mark, Settings, Slot, KeeperView, ReferenceView, Keeper, Reference}
use Rattle.registry_values.specs.Common.{slot_at}
use Rattle.protocol.specs.Common.{kept_at}
use Rattle.cpu_words.specs.Common.{JoinsBy}
use Rattle.cpu_words.proofs.seats.Seating.{step_is_shown}
use Rattle.passive_list.specs.declared.keeper.KeptSlot.{KeptSlot}
use Rattle.passive_list.specs.Common.{AreWritten, HasReplaced, IsOurKeeper, MarksAgree, MayReplace, OnKeeper, OnPlainKeeper, row_at, state_of, states_of, rows_replaced}
use Rattle.passive_list.proofs.Marks.{marks_stay, slot_below, written_back}
use Rattle.passive_list.proofs.Replaced.{of_live, replaced_keeper, replaced_marks, rows_back, same_live, states_replaced, there as there_is}
use Rattle.passive_list.proofs.Rows.{keeper_is, live_in, live_read, row_read, settings_are, state_at}
use Rattle.local_count.specs.Draining.{HasReplacedKeeping}
use Rattle.local_count.specs.References.{OnPlainRef}
use Rattle.local_count.proofs.Kept.{ask_keeping, row_keeping, rows_keeping, states_keeping}
use Rattle.local_count.proofs.replacing.replace_iface.Goals.{In-Live, After-index_mut}
use Rattle.local_count.proofs.replacing.replace_iface.Goals as goal

-- the entry is the one of the slot's row
is_live : (c : In-Live) → (row_at c.keeper.inside.rows.items c.args.old).state ≡ Live c.in-Live.entry
is_live c =
    let live = ap (λ (x : OnPlainKeeper). slot_at x.keeper.slots c.args.old) c.keeper.view_is ∙ c.requires.live.1 in
    ap state_of (sym (live_read _ _ _ _ _ _ c.keeper.invariant.0.rows live c.index.ensures)) ∙ c.in-Live.is

-- and is live there
there : (c : In-Live) → (c.args.old < c.keeper.inside.settings.slots) × (slot_at c.keeper.inside.seat.view.slots c.args.old ≡ Live c.in-Live.entry)
there c = live_in _ _ _ _ _ c.keeper.invariant.0.rows (state_at c.keeper.inside.rows.items c.args.old ∙ is_live c)

-- the new entry
abbrev made : In-Live → Entry
made c = record { number = c.keeper.inside.changes + 1; slot = c.args.slot; rec = record c.in-Live.entry.rec { value = c.args.value } }

-- the rows with what is kept, as they are once that was written
kept : (c : After-index_mut) → set c.keeper.inside.rows.items c.args.slot (row_keeping c.index_mut.result.now c.reference.inside.number) ≡ rows_keeping c.keeper.inside.rows.items c.args.slot c.reference.inside.number
kept c =
    let within = subst (λ (z : Settings). c.args.slot < z.slots) (sym (settings_are c.keeper.view_is)) c.requires.vacant.0 in
    ap (λ (r : KeptSlot). set c.keeper.inside.rows.items c.args.slot (row_keeping r c.reference.inside.number)) (row_read _ _ _ _ _ c.keeper.invariant.0.rows within c.index_mut.ensures.value)

-- what is asked of the keeper is so then
asked : (c : After-index_mut) (at : In-Live) → (row_at c.keeper.inside.rows.items c.args.old).state ≡ Live c.in-Live.entry
    → MayReplace c.keeper.inside.settings c.keep.new.keeper.view (rows_keeping c.keeper.inside.rows.items c.args.slot c.reference.inside.number) c.args.old
    (record { number = c.keeper.inside.changes + 1; slot = c.args.slot; rec = record c.in-Live.entry.rec { value = c.args.value } })
asked c at live =
    let f = c.requires.live.0 in
    let one : f ≡ c.in-Live.entry = same_live _ _ _ c.requires.live.1 (sym (ap (λ (x : OnPlainKeeper). slot_at x.keeper.slots c.args.old) c.keeper.view_is) ∙ (state_at c.keeper.inside.rows.items c.args.old ∙ live)) in
    ask_keeping _ _ _ _ _ _ _ _ _ c.in-Live.entry c.reference.inside.seat.view _ c.keeper.invariant.0 c.keeper.view_is c.keep.ensures.change c.reference.invariant.number c.requires.vacant live
    (sym (ap (λ (g : Entry). g.rec.kind) one) ∙ c.requires.live.2) c.requires.room

pub replace_entry-requires-clause-may : goal.replace_entry-requires-clause-may
replace_entry-requires-clause-may c =
    let at = goal.at.replace_entry-requires-clause-may c in
    let k = c.keep.new.keeper.view in
    let e = made at.In-Live in
    let own : c.args.words.now.settings ≡ c.keeper.inside.settings = c.requires.words.1 ∙ sym (settings_are c.keeper.view_is) in
    subst (λ (rows : List KeptSlot). MayReplace c.args.words.now.settings k rows c.args.old e) (sym (c.deref.ensures.value ∙ kept at.After-index_mut))
    (subst (λ (z : Settings). MayReplace z k (rows_keeping c.keeper.inside.rows.items c.args.slot c.reference.inside.number) c.args.old e) (sym own) (asked at.After-index_mut at.In-Live (is_live at.In-Live)))

pub replace_entry-requires-clause-room : goal.replace_entry-requires-clause-room
replace_entry-requires-clause-room c =
    let at = goal.at.replace_entry-requires-clause-room c in
    let a = c.keeper.inside.settings in
    let own : c.args.words.now.settings ≡ a = c.requires.words.1 ∙ sym (settings_are c.keeper.view_is) in
    let below : c.args.old * a.cpus + a.cpus ≤ length c.keeper.inside.marks.items = omega (arith, slot_below a c.args.old (there at.In-Live).0, c.keeper.invariant.1.size) in
    subst (λ (ms : List Mark). c.args.old * c.args.words.now.settings.cpus + c.args.words.now.settings.cpus ≤ length ms) (sym c.deref_mut.ensures.value)
    (subst (λ (z : Settings). c.args.old * z.cpus + z.cpus ≤ length c.keeper.inside.marks.items) (sym own) below)

pub invariant_of-keeper : goal.invariant_of-keeper
invariant_of-keeper c =
    let at = goal.at.invariant_of-keeper c in
    let inside = c.keeper.inside in
    let a = inside.settings in
    let k = c.keep.new.keeper.view in
    let u = c.args.old in
    let e = made at.In-Live in
    let l = c.replace_entry.new.seat.view in
    let may = asked at.After-index_mut at.In-Live (is_live at.In-Live) in
    let w = c.args.words.now.settings in
    let own : w ≡ a = c.requires.words.1 ∙ sym (settings_are c.keeper.view_is) in
    let old : slot_at k.slots u ≡ Live c.in-Live.entry = ap (λ (x : KeeperView). slot_at x.slots u) c.keep.ensures.change ∙ (there at.In-Live).1 in
    let one : may.f ≡ c.in-Live.entry = same_live _ _ _ (there_is _ _ _ _ _ may).1 old in
    let has = of_live k l u (u * w.cpus) w.cpus may.f e c.deref_mut.result.now c.replace_entry.new.marks (there_is _ _ _ _ _ may).1 c.replace_entry.ensures.change in
    let put = set inside.rows.items c.args.slot (row_keeping c.index_mut.result.now c.reference.inside.number) in
    let rows = rows_back put c.deref_mut-2.result.now c.take_place.new.rows u (vec_len inside.rows) c.in-Live.entry e c.deref_mut-2.ensures.value c.take_place.ensures c.deref_mut-2.ensures.len in
    let marks = marks_stay a inside.seat.view k inside.marks.items (ap (λ (x : KeeperView). x.marks) c.keep.ensures.change) c.keeper.invariant.1 in
    let written : AreWritten (u * a.cpus) a.cpus has.0.marks inside.marks.items c.replace_entry.new.marks =
    subst (λ (ms : List Mark). AreWritten (u * a.cpus) a.cpus has.0.marks ms c.replace_entry.new.marks) c.deref_mut.ensures.value
    (subst (λ (z : Settings). AreWritten (u * z.cpus) z.cpus has.0.marks c.deref_mut.result.now c.replace_entry.new.marks) own has.1) in
    let changes = c.keeper.invariant.0.changes ∙ sym (ap (λ (x : KeeperView). length x.history) c.keep.ensures.change) in (
      subst (λ (rs : List KeptSlot). IsOurKeeper a l rs (inside.changes + 1)) (sym rows)
          (subst (λ (rs : List KeptSlot). IsOurKeeper a l (rows_replaced rs u c.in-Live.entry e) (inside.changes + 1)) (sym (kept at.After-index_mut))
          (subst (λ (f : Entry). IsOurKeeper a l (rows_replaced (rows_keeping inside.rows.items c.args.slot c.reference.inside.number) u f e) (inside.changes + 1)) one
          (replaced_keeper a k l (rows_keeping inside.rows.items c.args.slot c.reference.inside.number) inside.changes u e may changes has.0 (step_is_shown has.0.shown)))),
      subst (λ (ms : List Mark). MarksAgree a l ms) (sym (written_back (vec_len inside.marks) inside.marks.items c.replace_entry.new.marks (has.1.size ∙ c.deref_mut.ensures.len)))
          (replaced_marks a k l inside.marks.items c.replace_entry.new.marks u may.f e may.at marks (there at.In-Live).0 has.0 written),
    )

pub returns-clause-old : goal.returns-clause-old
returns-clause-old c =
    let at = goal.at.returns-clause-old c in
    sym (ap (λ (x : OnPlainKeeper). slot_at x.keeper.slots c.args.old) c.keeper.view_is) ∙ (state_at c.keeper.inside.rows.items c.args.old ∙ is_live at.In-Live)

pub returns-clause-change : goal.returns-clause-change
returns-clause-change c =
    let at = goal.at.returns-clause-change c in
    let inside = c.keeper.inside in
    let k = inside.seat.view in
    let j = c.keep.new.keeper.view in
    let v = c.reference.inside.seat.view in
    let t = c.args.slot in
    let u = c.args.old in
    let f = c.in-Live.entry in
    let e = made at.In-Live in
    let l = c.replace_entry.new.seat.view in
    let w = c.args.words.now.settings in
    let old : slot_at j.slots u ≡ Live f = ap (λ (x : KeeperView). slot_at x.slots u) c.keep.ensures.change ∙ (there at.In-Live).1 in
    let has = of_live j l u (u * w.cpus) w.cpus f e c.deref_mut.result.now c.replace_entry.new.marks old c.replace_entry.ensures.change in
    let put = set inside.rows.items t (row_keeping c.index_mut.result.now c.reference.inside.number) in
    let rows = rows_back put c.deref_mut-2.result.now c.take_place.new.rows u (vec_len inside.rows) f e c.deref_mut-2.ensures.value c.take_place.ensures c.deref_mut-2.ensures.len in
    let same : states_of put ≡ states_of inside.rows.items = ap states_of (kept at.After-index_mut) ∙ states_keeping inside.rows.items t c.reference.inside.number in
    let within = subst (λ (z : Settings). t < z.slots) (sym (settings_are c.keeper.view_is)) c.requires.vacant.0 in
    let b : OnKeeper = record { view = l; slots = states_of (take (vec_len inside.rows) (c.take_place.new.rows ++ drop (length c.take_place.new.rows) put)); log = c.replace_entry.new.seat.log } in
    subst (λ (r : ReferenceView). HasReplacedKeeping c.args.keeper.now.keeper r u f e b) (ap (λ (o : OnPlainRef). o.reference) c.reference.view_is) (subst (λ (a : OnKeeper). HasReplacedKeeping a v u f e b) (keeper_is c.keeper.view_is) record {
      kept = subst (λ (x : KeeperView). JoinsBy (Keep t) (Keeper k) (Reference v) (Keeper x)) c.keep.ensures.change c.keep.ensures.event;
      replaced = record {
        entry = subst (λ (x : KeeperView). HasReplaced x u f e l) c.keep.ensures.change has.0;
        slots = ap states_of rows ∙ (states_replaced put u f e ∙ ap (λ (xs : List Slot). set (set xs t (Live e)) u (Retired f)) same);
      };
      keeping = c.replace_entry.ensures.attached v.entry.number (ap (λ (x : KeeperView). kept_at x.keeps t) c.keep.ensures.change
          ∙ get_or-set_same k.keeps t (Some v.entry.number) None (omega (arith, within, c.keeper.invariant.0.view.sized.keeps)));
    })
