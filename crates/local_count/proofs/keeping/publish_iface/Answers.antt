-- The slot keeps the reference, and then the interface is published there.
use Rattle.std.proofs.Common.{◌≡◌, ◌+◌, ◌++◌, ◌<◌, ◌∙◌, ℕ, List, Some, None, length, sym, ap, subst, set, get_or-set_same, arith}
use Rattle.std.proofs.lemmas.List.{map-set}
use Rattle.passive_list.specs.Types.{Entry, Keep, Done, LogItem, Settings, Slot, Live, KeeperView, ReferenceView, Keeper, Reference}
use Rattle.protocol.specs.Common.{kept_at}
use Rattle.cpu_words.specs.Common.{JoinsBy, did, keeper_after_keep}
use Rattle.cpu_words.proofs.seats.Seating.{step_is_shown}
use Rattle.passive_list.specs.declared.keeper.KeptSlot.{KeptSlot}
use Rattle.passive_list.specs.Common.{LogsAttach, OnKeeper, IsOurKeeper, RowsAgree, row_at, state_of, states_of, MayAttach, HasEntry}
use Rattle.passive_list.proofs.Rows.{keeper_is, row_read, settings_are}
use Rattle.passive_list.proofs.Attached.{published_keeper, row_live}
use Rattle.passive_list.proofs.Marks.{marks_stay}
use Rattle.local_count.specs.Draining.{HasAttachedKeeping}
use Rattle.local_count.specs.References.{OnPlainRef}
use Rattle.local_count.proofs.Kept.{row_keeping, rows_keeping, states_keeping, may_attach}
use Rattle.local_count.proofs.keeping.publish_iface.Goals.{After-index_mut}
use Rattle.local_count.proofs.keeping.publish_iface.Goals as goal

-- the rows with what is kept, as they are once that was written
kept : (c : After-index_mut) → set c.keeper.inside.rows.items c.args.slot (row_keeping c.index_mut.result.now c.reference.inside.number) ≡ rows_keeping c.keeper.inside.rows.items c.args.slot c.reference.inside.number
kept c =
    let within = subst (λ (z : Settings). c.args.slot < z.slots) (sym (settings_are c.keeper.view_is)) c.requires.vacant.0 in
    ap (λ (r : KeptSlot). set c.keeper.inside.rows.items c.args.slot (row_keeping r c.reference.inside.number)) (row_read _ _ _ _ _ c.keeper.invariant.0.rows within c.index_mut.ensures.value)

-- and what is asked of the keeper then
asked : (c : After-index_mut) → MayAttach c.keeper.inside.settings c.keep.new.keeper.view (rows_keeping c.keeper.inside.rows.items c.args.slot c.reference.inside.number) (record { number = c.keeper.inside.changes + 1; slot = c.args.slot; rec = c.args.rec })
asked c = may_attach _ _ _ _ _ _ _ _ c.reference.inside.seat.view _ c.keeper.invariant.0 c.keeper.view_is c.keep.ensures.change c.reference.invariant.number c.requires.vacant c.requires.kind c.requires.name c.requires.free
    c.requires.room

pub publish_entry-requires-clause-may : goal.publish_entry-requires-clause-may
publish_entry-requires-clause-may c =
    let at = (goal.at.publish_entry-requires-clause-may c).After-index_mut in
    let k = c.keep.new.keeper.view in
    let e : Entry = record { number = c.keeper.inside.changes + 1; slot = c.args.slot; rec = c.args.rec } in
    subst (λ (rows : List KeptSlot). MayAttach c.args.words.now.settings k rows e) (sym (c.deref.ensures.value ∙ kept at))
    (subst (λ (a : Settings). MayAttach a k (rows_keeping c.keeper.inside.rows.items c.args.slot c.reference.inside.number) e) (settings_are c.keeper.view_is ∙ sym c.requires.words.1) (asked at))

pub invariant_of-keeper : goal.invariant_of-keeper
invariant_of-keeper c =
    let at = (goal.at.invariant_of-keeper c).After-index_mut in
    let inside = c.keeper.inside in
    let a = inside.settings in
    let t = c.args.slot in
    let k = c.keep.new.keeper.view in
    let l = c.publish_entry.new.seat.view in
    let e : Entry = record { number = inside.changes + 1; slot = t; rec = c.args.rec } in
    let has = c.publish_entry.ensures.change in
    let marks = ap (λ (x : KeeperView). x.marks) has.view ∙ ap (λ (x : KeeperView). x.marks) c.keep.ensures.change in
    let written = set inside.rows.items t (row_keeping c.index_mut.result.now c.reference.inside.number) in
    let row = row_read a k written t c.index_mut-2.result.now (subst (λ (rows : List KeptSlot). RowsAgree a k rows) (sym (kept at)) (asked at).agree) (asked at).slot c.index_mut-2.ensures.value in
    let are = published_keeper a k l (rows_keeping inside.rows.items t c.reference.inside.number) inside.changes e has.link
    (c.keeper.invariant.0.changes ∙ sym (ap (λ (x : KeeperView). length x.history) c.keep.ensures.change)) (asked at) has.view (step_is_shown has.shown) in (
      subst (λ (r : KeptSlot). IsOurKeeper a l (set written t r) (inside.changes + 1)) (sym (c.make_live.ensures ∙ ap (λ (r : KeptSlot). row_live r e) row))
          (subst (λ (rows : List KeptSlot). IsOurKeeper a l (set rows t (row_live (row_at rows t) e)) (inside.changes + 1)) (sym (kept at)) are),
      marks_stay a inside.seat.view l inside.marks.items marks c.keeper.invariant.1,
    )

pub returns-clause-change : goal.returns-clause-change
returns-clause-change c =
    let inside = c.keeper.inside in
    let k = inside.seat.view in
    let v = c.reference.inside.seat.view in
    let t = c.args.slot in
    let l = c.publish_entry.new.seat.view in
    let written = set inside.rows.items t (row_keeping c.index_mut.result.now c.reference.inside.number) in
    let same : states_of written ≡ states_of inside.rows.items =
    ap states_of (kept (goal.at.returns-clause-change c).After-index_mut) ∙ states_keeping inside.rows.items t c.reference.inside.number in
    let e : Entry = record { number = inside.changes + 1; slot = t; rec = c.args.rec } in
    let new = c.make_live.new.self in
    let within = subst (λ (z : Settings). t < z.slots) (sym (settings_are c.keeper.view_is)) c.requires.vacant.0 in
    let b : OnKeeper = record { view = l; slots = states_of (set written t new); log = c.publish_entry.new.seat.log } in
    subst (λ (w : ReferenceView). HasAttachedKeeping c.args.keeper.now.keeper w e b) (ap (λ (o : OnPlainRef). o.reference) c.reference.view_is) (subst (λ (a : OnKeeper). HasAttachedKeeping a v e b) (keeper_is c.keeper.view_is) record {
      kept = subst (λ (x : KeeperView). JoinsBy (Keep t) (Keeper k) (Reference v) (Keeper x)) c.keep.ensures.change c.keep.ensures.event;
      attached = record {
        entry = subst (λ (x : KeeperView). HasEntry x e l) c.keep.ensures.change c.publish_entry.ensures.change;
        slots = map-set state_of written t new ∙ ap (λ (r : KeptSlot). set (states_of written) t r.state) c.make_live.ensures ∙ ap (λ (xs : List Slot). set xs t (Live e)) same;
      };
      keeping = c.publish_entry.ensures.attached v.entry.number (ap (λ (x : KeeperView). kept_at x.keeps t) c.keep.ensures.change
          ∙ get_or-set_same inside.seat.view.keeps t (Some v.entry.number) None (omega (arith, within, c.keeper.invariant.0.view.sized.keeps)));
    })

pub returns-clause-log : goal.returns-clause-log
returns-clause-log c =
    let k = c.keeper.inside.seat.view in
    let v = c.reference.inside.seat.view in
    let t = c.args.slot in
    let e : Entry = record { number = c.keeper.inside.changes + 1; slot = t; rec = c.args.rec } in
    let new = c.publish_entry.new.seat.log in
    let was = subst (λ (x : KeeperView). LogsAttach x e c.keep.new.keeper.log new) c.keep.ensures.change c.publish_entry.ensures.log in
    let keeps : List LogItem = did (Keep t v.entry.number) Done in
    let kept : LogsAttach (keeper_after_keep k t v) e (c.keeper.inside.seat.log ++ keeps) new = subst (λ (log : List LogItem). LogsAttach (keeper_after_keep k t v) e log new) c.keep.ensures.step.log was in
    subst (λ (n : ℕ). LogsAttach c.args.keeper.now.keeper.view e (c.args.keeper.now.keeper.log ++ did (Keep t n) Done) new) (ap (λ (o : OnPlainRef). o.reference.entry.number) c.reference.view_is)
    (subst (λ (a : OnKeeper). LogsAttach a.view e (a.log ++ keeps) new) (keeper_is c.keeper.view_is) record { link = kept.link; leads = kept.leads; log = kept.log })
