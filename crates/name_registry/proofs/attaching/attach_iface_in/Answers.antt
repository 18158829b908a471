use Rattle.std.proofs.Common.{◌≡◌, ◌++◌, ◌∙◌, ℕ, ◌+◌, ◌<◌, ◌≤◌, length, Result, Ok, IfOk, refl, sym, ap, subst}
use Rattle.name_registry.specs.Types.{Entry, Keep, Done, Refusal, KeeperView, Vacant}
use Rattle.registry_values.specs.Common.{attach_answer, is_iface, live_count, slot_at}
use Rattle.passive_list.specs.Common.{OnKeeper, LogsAttach}
use Rattle.cpu_words.specs.Common.{Named, did}
use Rattle.name_registry.specs.Common.{HasAttachedIfaceFor}
use Rattle.passive_list.proofs.Attached.{keeping_more}
use Rattle.local_count.specs.Draining.{HasAttachedKeeping}
use Rattle.name_registry.proofs.Attached.{MayTake, log_told, a_driver, inside_is, taken_tells, attach_met, keeping_told}
use Rattle.name_registry.proofs.attaching.attach_iface_in.Goals.{After-hear_cpu}
use Rattle.name_registry.proofs.attaching.attach_iface_in.Goals as goal

-- the entry that was given still fits once the keeper has heard the CPU
taken : (c : After-hear_cpu) → MayTake c.args.keeper.now.words.settings c.hear_cpu.new.keeper.keeper c.args.rec c.in-Ok.entry
taken c =
    taken_tells c.args.keeper.now.words.settings c.args.keeper.now.keeper c.args.cpu.now.cpu c.hear_cpu.new.keeper.keeper c.args.rec c.in-Ok.entry c.hear_cpu.ensures.keeper
    (sym c.entry_for-given.ensures.value ∙ c.in-Ok.ensures.fit.2)

pub publish_iface-entry-requires-clause-vacant : goal.publish_iface-entry-requires-clause-vacant
publish_iface-entry-requires-clause-vacant c =
    let takes = taken (goal.at.publish_iface-entry-requires-clause-vacant c).After-hear_cpu in
    subst (λ (w : Named). (c.in-Ok.entry.slot < w.settings.slots) × (slot_at c.hear_cpu.new.keeper.keeper.slots c.in-Ok.entry.slot ≡ Vacant)) (sym c.hear_cpu.ensures.words.0)
    (subst (λ (r : Result Entry Refusal). IfOk r (λ e. e.slot < c.args.keeper.now.words.settings.slots)) c.in-Ok.ensures.fit.2 c.entry_for-given.ensures.within, takes.vacant)

pub publish_iface-entry-requires-clause-free : goal.publish_iface-entry-requires-clause-free
publish_iface-entry-requires-clause-free c = (taken (goal.at.publish_iface-entry-requires-clause-free c).After-hear_cpu).free

pub publish_iface-entry-requires-clause-room : goal.publish_iface-entry-requires-clause-room
publish_iface-entry-requires-clause-room c =
    subst (λ (w : Named). length c.hear_cpu.new.keeper.keeper.view.history + live_count c.hear_cpu.new.keeper.keeper.slots + 2 ≤ w.settings.change_limit) (sym c.hear_cpu.ensures.words.0)
    (taken (goal.at.publish_iface-entry-requires-clause-room c).After-hear_cpu).room

pub publish_iface-entry-requires-clause-nothing : goal.publish_iface-entry-requires-clause-nothing
publish_iface-entry-requires-clause-nothing c = (taken (goal.at.publish_iface-entry-requires-clause-nothing c).After-hear_cpu).nothing

pub publish_iface-entry-requires-clause-driver : goal.publish_iface-entry-requires-clause-driver
publish_iface-entry-requires-clause-driver c = a_driver _ (ap is_iface (sym c.kind.ensures) ∙ (sym c.is_iface.ensures ∙ c.in-Ok.ensures.fit.1))

pub returns-clause-answer : goal.returns-clause-answer
returns-clause-answer c =
    let inside = inside_is c.inside.result c.args.cpu.now.cpu.view.begin c.inside.ensures in
    sym (ap (λ (e : Entry). Ok e) (c.publish_iface-entry.ensures.entry ∙ (taken (goal.at.returns-clause-answer c).After-hear_cpu).entry)
    ∙ (c.in-Ok.ensures.value ∙ (λ i. attach_answer (inside i) ((c.is_iface.ensures ∙ ap is_iface c.kind.ensures) i) (c.entry_for-given.ensures.value i))))

pub returns-in-Err-clause-refused : goal.returns-in-Err-clause-refused
returns-in-Err-clause-refused c =
    let inside = inside_is c.inside.result c.args.cpu.now.cpu.view.begin c.inside.ensures in
    (sym (c.in-Err.ensures.value ∙ (λ i. attach_answer (inside i) ((c.is_iface.ensures ∙ ap is_iface c.kind.ensures) i) (c.entry_for-given.ensures.value i))), refl, refl, refl)

pub returns-clause-ok : goal.returns-clause-ok
returns-clause-ok c =
    let a = c.args.keeper.now.keeper in
    let x = c.args.cpu.now.cpu in
    let v = c.args.reference.reference in
    let m = c.hear_cpu.new.keeper.keeper in
    let e = c.publish_iface-entry.result in
    let b = c.publish_iface-entry.new.keeper.keeper in
    let has = c.publish_iface-entry.ensures.change in
    let met = attach_met a x m c.hear_cpu.new.cpu.cpu e b c.show_cpu.new.cpu.cpu c.hear_cpu.ensures.keeper c.hear_cpu.ensures.cpu c.hear_cpu.ensures.seen
    (ap (λ x. x.number) c.publish_iface-entry.ensures.entry) (ap (λ (k : KeeperView). k.history) has.attached.entry.view) c.show_cpu.ensures.cpu c.show_cpu.ensures.log in
    let slot = ap (λ (f : Entry). f.slot) c.publish_iface-entry.ensures.entry in
    let kept = subst (λ (t : ℕ). LogsAttach m.view e (m.log ++ did (Keep t v.entry.number) Done) b.log) (sym slot) c.publish_iface-entry.ensures.log in
    let logs = subst (λ (k : OnKeeper). LogsAttach k.view e (k.log ++ did (Keep e.slot v.entry.number) Done) b.log) c.hear_cpu.ensures.keeper kept in
    subst (λ (k : OnKeeper). HasAttachedIfaceFor a x v e k c.show_cpu.new.cpu.cpu) (sym c.show_cpu.ensures.keeper) record {
      seen = met.0;
      keeper = keeping_told _ v e b (subst (λ (k : OnKeeper). HasAttachedKeeping k v e b) c.hear_cpu.ensures.keeper has);
      log = (b.log, record { link = logs.link; leads = logs.leads; log = logs.log }, refl);
      keeping = keeping_more e.slot e.number v.entry.number b.log c.show_cpu.new.cpu.cpu.known_log
          (log_told b c.show_cpu.new.keeper.keeper c.show_cpu.new.cpu.cpu c.show_cpu.ensures.keeper c.show_cpu.ensures.told) has.keeping;
      cpu = met.1;
      own = met.2;
    }
