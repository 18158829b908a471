use Rattle.std.proofs.Common.{◌≡◌, ◌∙◌, ◌+◌, ◌<◌, ◌≤◌, length, Result, Ok, IfOk, refl, sym, ap, subst}
use Rattle.name_registry.specs.Types.{Entry, Refusal, KeeperView, Vacant}
use Rattle.registry_values.specs.Common.{attach_answer, live_count, slot_at}
use Rattle.registry_values.proofs.Answers.{handed_on}
use Rattle.passive_list.specs.Common.{OnKeeper, HasAttached, LogsAttach}
use Rattle.cpu_words.specs.Common.{Named}
use Rattle.name_registry.specs.Common.{HasAttachedFor}
use Rattle.name_registry.proofs.Attached.{MayTake, inside_is, taken_tells, driver_keeps, attach_met, attached_told}
use Rattle.name_registry.proofs.attaching.attach_in.Goals.{After-hear_cpu}
use Rattle.name_registry.proofs.attaching.attach_in.Goals as goal

-- the entry that was given still fits once the keeper has heard the CPU
taken : (c : After-hear_cpu) → MayTake c.args.keeper.now.words.settings c.hear_cpu.new.keeper.keeper c.args.rec c.in_ok-entry.entry
taken c =
    taken_tells c.args.keeper.now.words.settings c.args.keeper.now.keeper c.args.cpu.now.cpu c.hear_cpu.new.keeper.keeper c.args.rec c.in_ok-entry.entry c.hear_cpu.ensures.keeper
    (sym c.entry_for-given.ensures.value ∙ c.in_ok-entry.ensures.fit.2)

pub publish-entry-requires-clause-vacant : goal.publish-entry-requires-clause-vacant
publish-entry-requires-clause-vacant c =
    let takes = taken (goal.at.publish-entry-requires-clause-vacant c).After-hear_cpu in
    subst (λ (w : Named). (c.in_ok-entry.entry.slot < w.settings.slots) × (slot_at c.hear_cpu.new.keeper.keeper.slots c.in_ok-entry.entry.slot ≡ Vacant)) (sym c.hear_cpu.ensures.words.0)
    (subst (λ (r : Result Entry Refusal). IfOk r (λ e. e.slot < c.args.keeper.now.words.settings.slots)) c.in_ok-entry.ensures.fit.2 c.entry_for-given.ensures.within, takes.vacant)

pub publish-entry-requires-clause-free : goal.publish-entry-requires-clause-free
publish-entry-requires-clause-free c = (taken (goal.at.publish-entry-requires-clause-free c).After-hear_cpu).free

pub publish-entry-requires-clause-room : goal.publish-entry-requires-clause-room
publish-entry-requires-clause-room c =
    subst (λ (w : Named). length c.hear_cpu.new.keeper.keeper.view.history + live_count c.hear_cpu.new.keeper.keeper.slots + 2 ≤ w.settings.change_limit) (sym c.hear_cpu.ensures.words.0)
    (taken (goal.at.publish-entry-requires-clause-room c).After-hear_cpu).room

pub publish-entry-requires-clause-keeps : goal.publish-entry-requires-clause-keeps
publish-entry-requires-clause-keeps c =
    driver_keeps _ c.args.rec.kind (taken (goal.at.publish-entry-requires-clause-keeps c).After-hear_cpu).nothing (sym c.is_iface.ensures ∙ c.in_ok-entry.ensures.fit.1)

pub returns-clause-answer : goal.returns-clause-answer
returns-clause-answer c =
    let takes = taken (goal.at.returns-clause-answer c).After-hear_cpu in
    let inside = inside_is c.inside.result c.args.cpu.now.cpu.view.begin c.inside.ensures in
    ap (λ (e : Entry). Ok e) (c.publish-entry.ensures.entry ∙ takes.entry) ∙ (c.in_ok-entry.ensures.value ∙ (λ i. attach_answer (inside i) (c.is_iface.ensures i) (c.entry_for-given.ensures.value i)))

pub returns-in_err-entry-clause-answer : goal.returns-in_err-entry-clause-answer
returns-in_err-entry-clause-answer c =
    let inside = inside_is c.inside.result c.args.cpu.now.cpu.view.begin c.inside.ensures in
    handed_on c.from_residual.result c.in_err-entry.field-0.0 c.from_residual.ensures.0 c.from_residual.ensures.1
    ∙ (c.in_err-entry.ensures.value ∙ (λ i. attach_answer (inside i) (c.is_iface.ensures i) (c.entry_for-given.ensures.value i)))

pub returns-clause-ok : goal.returns-clause-ok
returns-clause-ok c =
    let a = c.args.keeper.now.keeper in
    let x = c.args.cpu.now.cpu in
    let e = c.publish-entry.result in
    let b = c.publish-entry.new.keeper.keeper in
    let has = c.publish-entry.ensures.change in
    let met = attach_met a x c.hear_cpu.new.keeper.keeper c.hear_cpu.new.cpu.cpu e b c.show_cpu.new.cpu.cpu c.hear_cpu.ensures.keeper c.hear_cpu.ensures.cpu c.hear_cpu.ensures.seen
    (ap (λ x. x.number) c.publish-entry.ensures.entry) (ap (λ (k : KeeperView). k.history) has.entry.view) c.show_cpu.ensures.cpu c.show_cpu.ensures.log in
    let logs = subst (λ (k : OnKeeper). LogsAttach k.view e k.log b.log) c.hear_cpu.ensures.keeper c.publish-entry.ensures.log in
    subst (λ (k : OnKeeper). HasAttachedFor a x e k c.show_cpu.new.cpu.cpu) (sym c.show_cpu.ensures.keeper) record {
      seen = met.0;
      keeper = attached_told _ e b (subst (λ (k : OnKeeper). HasAttached k e b) c.hear_cpu.ensures.keeper has);
      log = (b.log, record { link = logs.link; leads = logs.leads; log = logs.log }, refl);
      cpu = met.1;
      own = met.2;
    }
