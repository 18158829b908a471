-- The slots that were found still serve once the keeper has heard the CPU.
use Rattle.std.proofs.Common.{◌≡◌, ◌<◌, ◌∙◌, ℕ, Result, IfOk, Some, refl, sym, ap, subst}
use Rattle.name_registry.specs.Types.{Driver, Entry, KeeperView, Refusal, Vacant}
use Rattle.registry_values.specs.Common.{key_of, slot_at}
use Rattle.cpu_words.specs.Common.{Named}
use Rattle.passive_list.specs.Common.{OnKeeper}
use Rattle.name_registry.specs.Common.{HasReplacedFor, IsLivePlace}
use Rattle.name_registry.proofs.Attached.{HasSlot, place_is}
use Rattle.name_registry.proofs.Replaced.{driver_rightly, old_live, replace_met, replaced_for, slot_tells}
use Rattle.name_registry.proofs.replacing.replace_in.Goals.{After-hear_cpu}
use Rattle.name_registry.proofs.replacing.replace_in.Goals as goal

fits : (c : After-hear_cpu) → HasSlot c.args.keeper.now.words.settings c.hear_cpu.new.keeper.keeper c.in-Ok.slots.1
fits c = slot_tells _ c.args.keeper.now.keeper c.args.cpu.now.cpu _ _ c.hear_cpu.ensures.keeper (sym c.slot_for.ensures.value ∙ c.in-Ok.ensures.fit.3)

found : (c : After-hear_cpu) → IsLivePlace c.args.keeper.now.keeper (record { kind = Driver; name = c.args.name.now }) (Some c.in-Ok.slots.0)
found c = subst (IsLivePlace c.args.keeper.now.keeper (record { kind = Driver; name = c.args.name.now })) c.in-Ok.ensures.fit.2 c.live_place-place.ensures.lookup

pub replace-entries-requires-clause-live : goal.replace-entries-requires-clause-live
replace-entries-requires-clause-live c =
    let at = (goal.at.replace-entries-requires-clause-live c).After-hear_cpu in
    let old = old_live c.args.keeper.now.keeper c.args.cpu.now.cpu _ _ _ c.hear_cpu.ensures.keeper (found at) in
    (old.0, old.1, driver_rightly old.0 _ _ (fits at).nothing old.2 refl)

pub replace-entries-requires-clause-vacant : goal.replace-entries-requires-clause-vacant
replace-entries-requires-clause-vacant c =
    let at = (goal.at.replace-entries-requires-clause-vacant c).After-hear_cpu in
    let t = c.in-Ok.slots.1 in
    subst (λ (w : Named). (t < w.settings.slots) × (slot_at c.hear_cpu.new.keeper.keeper.slots t ≡ Vacant)) (sym c.hear_cpu.ensures.words.0)
    (subst (λ (r : Result ℕ Refusal). IfOk r (λ s. s < c.args.keeper.now.words.settings.slots)) c.in-Ok.ensures.fit.3 c.slot_for.ensures.within, (fits at).vacant)

pub returns-clause-ok : goal.returns-clause-ok
returns-clause-ok c =
    let at = (goal.at.returns-clause-ok c).After-hear_cpu in
    let a = c.args.keeper.now.keeper in
    let x = c.args.cpu.now.cpu in
    let m = c.hear_cpu.new.keeper.keeper in
    let f = c.replace-entries.result.0 in
    let e = c.replace-entries.result.1 in
    let b = c.replace-entries.new.keeper.keeper in
    let y = c.show_cpu.new.cpu.cpu in
    let heard = c.hear_cpu.ensures.keeper in
    let has = c.replace-entries.ensures.change in
    let is = place_is a x m _ c.in-Ok.slots.0 f heard (found at) c.replace-entries.ensures.old in
    let met = replace_met a x m c.hear_cpu.new.cpu.cpu f e b y heard c.hear_cpu.ensures.cpu c.hear_cpu.ensures.seen is.0.0.attached (ap (λ (i : Entry). i.number) c.replace-entries.ensures.new)
    (ap key_of c.replace-entries.ensures.new) (ap (λ (k : KeeperView). k.history) has.entry.view) c.show_cpu.ensures.cpu c.show_cpu.ensures.log in
    subst (λ (k : OnKeeper). HasReplacedFor a x f e k y) (sym c.show_cpu.ensures.keeper) (replaced_for a x m c.in-Ok.slots.0 f e b y heard is.2 met has c.replace-entries.ensures.log)
