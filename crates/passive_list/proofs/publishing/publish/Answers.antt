use Rattle.std.proofs.Common.{◌+◌, ◌∙◌, List, sym, ap, subst, set}
use Rattle.std.proofs.lemmas.List.{map-set}
use Rattle.passive_list.specs.Types.{Entry, Settings, KeeperView}
use Rattle.cpu_words.proofs.seats.Seating.{step_is_shown}
use Rattle.passive_list.specs.Common.{KeptSlot, LogsAttach, OnKeeper, OnPlainKeeper, IsOurKeeper, state_of, states_of, MayAttach, HasAttached}
use Rattle.passive_list.proofs.Marks.{marks_stay}
use Rattle.passive_list.proofs.Rows.{row_read}
use Rattle.passive_list.proofs.Attached.{ask, published_keeper, row_live}
use Rattle.passive_list.proofs.publishing.publish.Goals as goal

pub publish_entry-requires-clause-may : goal.publish_entry-requires-clause-may
publish_entry-requires-clause-may c =
    let inside = c.keeper.inside in
    let e : Entry = record { number = inside.changes + 1; slot = c.args.slot; rec = c.args.rec } in
    let asked = ask _ _ _ _ c.args.slot c.args.rec _ c.keeper.invariant.0 c.keeper.view_is c.requires.vacant c.requires.keeps c.requires.name c.requires.free c.requires.room in
    subst (λ (rows : List KeptSlot). MayAttach c.args.words.now.settings inside.seat.view rows e) (sym c.deref.ensures.value)
    (subst (λ (a : Settings). MayAttach a inside.seat.view inside.rows.items e) (ap (λ (x : OnPlainKeeper). x.words.settings) c.keeper.view_is ∙ sym c.requires.words.1) asked)

pub invariant_of-keeper : goal.invariant_of-keeper
invariant_of-keeper c =
    let inside = c.keeper.inside in
    let l = c.publish_entry.new.seat.view in
    let e : Entry = record { number = inside.changes + 1; slot = c.args.slot; rec = c.args.rec } in
    let asked = ask _ _ _ _ c.args.slot c.args.rec _ c.keeper.invariant.0 c.keeper.view_is c.requires.vacant c.requires.keeps c.requires.name c.requires.free c.requires.room in
    let has = c.publish_entry.ensures.change in
    let row = row_read _ _ _ _ _ asked.agree asked.slot c.index_mut.ensures.value in (
      subst (λ (r : KeptSlot). IsOurKeeper inside.settings l (set inside.rows.items c.args.slot r) (inside.changes + 1)) (sym (c.make_live.ensures ∙ ap (λ (r : KeptSlot). row_live r e) row))
          (published_keeper _ _ l _ _ e has.link c.keeper.invariant.0.changes asked has.view (step_is_shown has.shown)),
      marks_stay _ _ l _ (ap (λ (x : KeeperView). x.marks) has.view) c.keeper.invariant.1,
    )

pub returns-clause-change : goal.returns-clause-change
returns-clause-change c =
    let rows = c.keeper.inside.rows.items in
    let e : Entry = record { number = c.keeper.inside.changes + 1; slot = c.args.slot; rec = c.args.rec } in
    let new = c.make_live.new.self in
    let b : OnKeeper = record { view = c.publish_entry.new.seat.view; slots = states_of (set rows c.args.slot new); log = c.publish_entry.new.seat.log } in
    subst (λ (x : OnPlainKeeper). HasAttached x.keeper e b) c.keeper.view_is
    record { entry = c.publish_entry.ensures.change; slots = map-set state_of rows c.args.slot new ∙ ap (λ (r : KeptSlot). set (states_of rows) c.args.slot r.state) c.make_live.ensures }

pub returns-clause-log : goal.returns-clause-log
returns-clause-log c =
    let e : Entry = record { number = c.keeper.inside.changes + 1; slot = c.args.slot; rec = c.args.rec } in
    subst (λ (x : OnPlainKeeper). LogsAttach x.keeper.view e x.keeper.log c.publish_entry.new.seat.log) c.keeper.view_is c.publish_entry.ensures.log
