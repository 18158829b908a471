use Rattle.std.proofs.Common.{sym, subst}
use Rattle.name_registry.specs.Types.{Key}
use Rattle.passive_list.specs.Common.{OnKeeper}
use Rattle.name_registry.specs.Common.{HasDetachedFor, IsLivePlace}
use Rattle.name_registry.proofs.Attached.{place_is, detached_for}
use Rattle.name_registry.proofs.attaching.detach_in.Goals as goal

pub returns-clause-ok : goal.returns-clause-ok
returns-clause-ok c =
    let a = c.args.keeper.now.keeper in
    let x = c.args.cpu.now.cpu in
    let m = c.hear_cpu.new.keeper.keeper in
    let t = c.in_ok-slot.slot in
    let e = c.retire-entry.result in
    let key : Key = record { kind = c.args.kind; name = c.args.name.now } in
    let is = place_is a x m _ t e c.hear_cpu.ensures.keeper (subst (IsLivePlace a key) c.in_ok-slot.ensures.found.1 c.live_place.ensures.lookup) c.retire-entry.ensures.entry in
    subst (λ (b : OnKeeper). HasDetachedFor a x e b c.show_cpu.new.cpu.cpu) (sym c.show_cpu.ensures.keeper)
    (detached_for a x m c.hear_cpu.new.cpu.cpu t e c.retire-entry.new.keeper.keeper c.show_cpu.new.cpu.cpu c.hear_cpu.ensures.keeper c.hear_cpu.ensures.cpu c.hear_cpu.ensures.seen is.0.0.attached is.2
    c.retire-entry.ensures.change c.retire-entry.ensures.log c.show_cpu.ensures.cpu c.show_cpu.ensures.log)
