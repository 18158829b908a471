-- The keeper's rows and marks after it, by what the steps made.
use Rattle.std.proofs.Common.{◌≡◌, ◌+◌, ◌*◌, ◌<◌, ◌≤◌, ◌∙◌, ◌++◌, IsTrue, List, drop, length, take, vec_len, sym, ap, subst, arith}
use Rattle.passive_list.specs.Types.{Entry, Live, Mark, Settings}
use Rattle.registry_values.specs.Common.{live_count, slot_at}
use Rattle.protocol.specs.Common.{keeps_rightly, kept_at}
use Rattle.cpu_words.proofs.seats.Seating.{step_is_shown}
use Rattle.passive_list.specs.Common.{AreWritten, HasReplacedIn, IsOurKeeper, KeptSlot, MarksAgree, MayReplace, OnKeeper, OnPlainKeeper, row_at, state_of, states_of, rows_replaced}
use Rattle.passive_list.proofs.Marks.{slot_below, written_back}
use Rattle.passive_list.proofs.Replaced.{ask_replace, live_shown, of_live, replaced_keeper, replaced_marks, rows_back, same_live, states_replaced, there as there_is}
use Rattle.passive_list.proofs.Rows.{live_in, live_read, settings_are, state_at}
use Rattle.passive_list.proofs.replacing.replace.Goals.{In-Live}
use Rattle.passive_list.proofs.replacing.replace.Goals as goal

-- the entry is the one of the slot's row
is_live : (c : In-Live) → (row_at c.keeper.inside.rows.items c.args.old).state ≡ Live c.in-Live.entry
is_live c =
    let live = ap (λ (x : OnPlainKeeper). slot_at x.keeper.slots c.args.old) c.keeper.view_is ∙ c.requires.live.1 in
    ap state_of (sym (live_read _ _ _ _ _ _ c.keeper.invariant.0.rows live c.index.ensures)) ∙ c.in-Live.is

-- and is live there
there : (c : In-Live) → (c.args.old < c.keeper.inside.settings.slots) × (slot_at c.keeper.inside.seat.view.slots c.args.old ≡ Live c.in-Live.entry)
there c = live_in _ _ _ _ _ c.keeper.invariant.0.rows (state_at c.keeper.inside.rows.items c.args.old ∙ is_live c)

-- the new entry
abbrev made : In-Live → Entry
made c = record { number = c.keeper.inside.changes + 1; slot = c.args.slot; rec = record c.in-Live.entry.rec { value = c.args.value } }

-- what is asked of the keeper is so
asked : (c : In-Live) → MayReplace c.keeper.inside.settings c.keeper.inside.seat.view c.keeper.inside.rows.items c.args.old (made c)
asked c =
    let our = c.keeper.invariant.0 in
    let is = c.keeper.view_is in
    let f = c.requires.live.0 in
    let one : f ≡ c.in-Live.entry =
    let q : Live f ≡ Live c.in-Live.entry = sym c.requires.live.1 ∙ (sym (ap (λ (x : OnPlainKeeper). slot_at x.keeper.slots c.args.old) is) ∙ (state_at c.keeper.inside.rows.items c.args.old ∙ is_live c)) in cc in
    let keeps = subst (λ (g : Entry). IsTrue (keeps_rightly (kept_at c.args.keeper.now.keeper.view.keeps c.args.slot) g.rec.kind)) one c.requires.live.2 in
    ask_replace c.keeper.inside.settings c.keeper.inside.seat.view c.keeper.inside.rows.items c.keeper.inside.changes c.args.old c.args.slot c.args.value c.in-Live.entry our.view (live_shown _ our.is_shown) our.rows our.changes
    (subst (λ (y : OnPlainKeeper). c.args.slot < y.words.settings.slots) (sym is) c.requires.vacant.0)
    (ap (λ (y : OnPlainKeeper). slot_at y.keeper.slots c.args.slot) is ∙ c.requires.vacant.1) (is_live c)
    (subst (λ (y : OnPlainKeeper). IsTrue (keeps_rightly (kept_at y.keeper.view.keeps c.args.slot) c.in-Live.entry.rec.kind)) (sym is) keeps)
    (subst (λ (y : OnPlainKeeper). length y.keeper.view.history + live_count y.keeper.slots + 2 ≤ y.words.settings.change_limit) (sym is) c.requires.room)

pub replace_entry-requires-clause-may : goal.replace_entry-requires-clause-may
replace_entry-requires-clause-may c =
    let at = goal.at.replace_entry-requires-clause-may c in
    let k = c.keeper.inside.seat.view in
    let own : c.args.words.now.settings ≡ c.keeper.inside.settings = c.requires.words.1 ∙ sym (settings_are c.keeper.view_is) in
    subst (λ (rows : List KeptSlot). MayReplace c.args.words.now.settings k rows c.args.old (made at.In-Live)) (sym c.deref.ensures.value)
    (subst (λ (z : Settings). MayReplace z k c.keeper.inside.rows.items c.args.old (made at.In-Live)) (sym own) (asked at.In-Live))

pub replace_entry-requires-clause-room : goal.replace_entry-requires-clause-room
replace_entry-requires-clause-room c =
    let at = goal.at.replace_entry-requires-clause-room c in
    let a = c.keeper.inside.settings in
    let own : c.args.words.now.settings ≡ a = c.requires.words.1 ∙ sym (settings_are c.keeper.view_is) in
    let below : c.args.old * a.cpus + a.cpus ≤ length c.keeper.inside.marks.items = omega (arith, slot_below a c.args.old (there at.In-Live).0, c.keeper.invariant.1.size) in
    subst (λ (ms : List Mark). c.args.old * c.args.words.now.settings.cpus + c.args.words.now.settings.cpus ≤ length ms) (sym c.deref_mut.ensures.value)
    (subst (λ (z : Settings). c.args.old * z.cpus + z.cpus ≤ length c.keeper.inside.marks.items) (sym own) below)

pub invariant_of-keeper : goal.invariant_of-keeper
invariant_of-keeper c =
    let at = goal.at.invariant_of-keeper c in
    let inside = c.keeper.inside in
    let a = inside.settings in
    let k = inside.seat.view in
    let u = c.args.old in
    let e = made at.In-Live in
    let l = c.replace_entry.new.seat.view in
    let may = asked at.In-Live in
    let w = c.args.words.now.settings in
    let own : w ≡ a = c.requires.words.1 ∙ sym (settings_are c.keeper.view_is) in
    let one : may.f ≡ c.in-Live.entry = same_live _ _ _ (there_is _ _ _ _ _ may).1 (there at.In-Live).1 in
    let has = of_live k l u (u * w.cpus) w.cpus may.f e c.deref_mut.result.now c.replace_entry.new.marks (there_is _ _ _ _ _ may).1 c.replace_entry.ensures.change in
    let rows = rows_back inside.rows.items c.deref_mut-2.result.now c.take_place.new.rows u (vec_len inside.rows) c.in-Live.entry e c.deref_mut-2.ensures.value c.take_place.ensures c.deref_mut-2.ensures.len in
    let written : AreWritten (u * a.cpus) a.cpus has.0.marks inside.marks.items c.replace_entry.new.marks =
    subst (λ (ms : List Mark). AreWritten (u * a.cpus) a.cpus has.0.marks ms c.replace_entry.new.marks) c.deref_mut.ensures.value
    (subst (λ (z : Settings). AreWritten (u * z.cpus) z.cpus has.0.marks c.deref_mut.result.now c.replace_entry.new.marks) own has.1) in (
      subst (λ (rs : List KeptSlot). IsOurKeeper a l rs (inside.changes + 1)) (sym rows)
          (subst (λ (f : Entry). IsOurKeeper a l (rows_replaced inside.rows.items u f e) (inside.changes + 1)) one
          (replaced_keeper a k l inside.rows.items inside.changes u e may c.keeper.invariant.0.changes has.0 (step_is_shown has.0.shown))),
      subst (λ (ms : List Mark). MarksAgree a l ms) (sym (written_back (vec_len inside.marks) inside.marks.items c.replace_entry.new.marks (has.1.size ∙ c.deref_mut.ensures.len)))
          (replaced_marks a k l inside.marks.items c.replace_entry.new.marks u may.f e c.keeper.invariant.0.view c.keeper.invariant.1 (there at.In-Live).0 has.0 written),
    )

pub returns-clause-old : goal.returns-clause-old
returns-clause-old c =
    let at = goal.at.returns-clause-old c in
    sym (ap (λ (x : OnPlainKeeper). slot_at x.keeper.slots c.args.old) c.keeper.view_is) ∙ (state_at c.keeper.inside.rows.items c.args.old ∙ is_live at.In-Live)

pub returns-clause-change : goal.returns-clause-change
returns-clause-change c =
    let at = goal.at.returns-clause-change c in
    let inside = c.keeper.inside in
    let k = inside.seat.view in
    let u = c.args.old in
    let f = c.in-Live.entry in
    let e = made at.In-Live in
    let l = c.replace_entry.new.seat.view in
    let w = c.args.words.now.settings in
    let has = of_live k l u (u * w.cpus) w.cpus f e c.deref_mut.result.now c.replace_entry.new.marks (there at.In-Live).1 c.replace_entry.ensures.change in
    let rows = rows_back inside.rows.items c.deref_mut-2.result.now c.take_place.new.rows u (vec_len inside.rows) f e c.deref_mut-2.ensures.value c.take_place.ensures c.deref_mut-2.ensures.len in
    let b : OnKeeper = record { view = l; slots = states_of (take (vec_len inside.rows) (c.take_place.new.rows ++ drop (length c.take_place.new.rows) inside.rows.items)); log = c.replace_entry.new.seat.log } in
    subst (λ (x : OnPlainKeeper). HasReplacedIn x.keeper u f e b) c.keeper.view_is record { entry = has.0; slots = ap states_of rows ∙ states_replaced inside.rows.items u f e }
