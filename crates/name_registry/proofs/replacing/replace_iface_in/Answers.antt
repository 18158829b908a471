-- The slots that were found still serve once the keeper has heard the CPU.
use Rattle.std.proofs.Common.{◌≡◌, ◌++◌, ◌<◌, ◌∙◌, ℕ, Result, IfOk, Some, sym, ap, subst}
use Rattle.name_registry.specs.Types.{Iface, Entry, Keep, Done, Key, KeeperView, Refusal, Vacant}
use Rattle.registry_values.specs.Common.{key_of, slot_at}
use Rattle.cpu_words.specs.Common.{Named, did}
use Rattle.passive_list.specs.Common.{LogsReplace}
use Rattle.name_registry.specs.Common.{IsLivePlace}
use Rattle.name_registry.proofs.Attached.{HasSlot, place_is}
use Rattle.name_registry.proofs.Replaced.{old_live, replace_met, replaced_iface_for, slot_tells}
use Rattle.name_registry.proofs.replacing.replace_iface_in.Goals.{After-hear_cpu}
use Rattle.name_registry.proofs.replacing.replace_iface_in.Goals as goal

fits : (c : After-hear_cpu) → HasSlot c.args.keeper.now.words.settings c.hear_cpu.new.keeper.keeper c.in-Ok.slots.1
fits c = slot_tells _ c.args.keeper.now.keeper c.args.cpu.now.cpu _ _ c.hear_cpu.ensures.keeper (sym c.slot_for.ensures.value ∙ c.in-Ok.ensures.fit.3)

found : (c : After-hear_cpu) → IsLivePlace c.args.keeper.now.keeper (record { kind = Iface; name = c.args.name.now }) (Some c.in-Ok.slots.0)
found c = subst (IsLivePlace c.args.keeper.now.keeper (record { kind = Iface; name = c.args.name.now })) c.in-Ok.ensures.fit.2 c.live_place-place.ensures.lookup

pub replace_iface-entries-requires-clause-live : goal.replace_iface-entries-requires-clause-live
replace_iface-entries-requires-clause-live c =
    let at = (goal.at.replace_iface-entries-requires-clause-live c).After-hear_cpu in
    let old = old_live c.args.keeper.now.keeper c.args.cpu.now.cpu _ _ _ c.hear_cpu.ensures.keeper (found at) in
    (old.0, old.1, ap (λ (q : Key). q.kind) old.2)

pub replace_iface-entries-requires-clause-vacant : goal.replace_iface-entries-requires-clause-vacant
replace_iface-entries-requires-clause-vacant c =
    let at = (goal.at.replace_iface-entries-requires-clause-vacant c).After-hear_cpu in
    let t = c.in-Ok.slots.1 in
    subst (λ (w : Named). (t < w.settings.slots) × (slot_at c.hear_cpu.new.keeper.keeper.slots t ≡ Vacant)) (sym c.hear_cpu.ensures.words.0)
    (subst (λ (r : Result ℕ Refusal). IfOk r (λ s. s < c.args.keeper.now.words.settings.slots)) c.in-Ok.ensures.fit.3 c.slot_for.ensures.within, (fits at).vacant)

pub replace_iface-entries-requires-clause-nothing : goal.replace_iface-entries-requires-clause-nothing
replace_iface-entries-requires-clause-nothing c = (fits (goal.at.replace_iface-entries-requires-clause-nothing c).After-hear_cpu).nothing

pub returns-clause-ok : goal.returns-clause-ok
returns-clause-ok c =
    let at = (goal.at.returns-clause-ok c).After-hear_cpu in
    let a = c.args.keeper.now.keeper in
    let x = c.args.cpu.now.cpu in
    let v = c.args.reference.reference in
    let u = c.in-Ok.slots.0 in
    let m = c.hear_cpu.new.keeper.keeper in
    let f = c.replace_iface-entries.result.0 in
    let e = c.replace_iface-entries.result.1 in
    let b = c.replace_iface-entries.new.keeper.keeper in
    let y = c.show_cpu.new.cpu.cpu in
    let heard = c.hear_cpu.ensures.keeper in
    let has = c.replace_iface-entries.ensures.change in
    let new = c.replace_iface-entries.ensures.new in
    let is = place_is a x m _ u f heard (found at) c.replace_iface-entries.ensures.old in
    let met = replace_met a x m c.hear_cpu.new.cpu.cpu f e b y heard c.hear_cpu.ensures.cpu c.hear_cpu.ensures.seen is.0.0.attached (ap (λ (i : Entry). i.number) new)
    (ap key_of new) (ap (λ (k : KeeperView). k.history) has.replaced.entry.view) c.show_cpu.ensures.cpu c.show_cpu.ensures.log in
    let logs = subst (λ (t : ℕ). LogsReplace m.view u e (m.log ++ did (Keep t v.entry.number) Done) b.log) (sym (ap (λ (i : Entry). i.slot) new)) c.replace_iface-entries.ensures.log in
    replaced_iface_for a x m v u f e b c.show_cpu.new.keeper.keeper y heard is.2 met has logs c.show_cpu.ensures.keeper c.show_cpu.ensures.told
