use Rattle.std.proofs.Common.{Ok, subst}
use Rattle.name_registry.specs.Types.{Key}
use Rattle.passive_list.specs.Common.{OnCpu}
use Rattle.name_registry.specs.Common.{HasDetachedFor, IsDetachAnswer}
use Rattle.name_registry.proofs.Counted.{detach_counted, detached}
use Rattle.name_registry.proofs.Noted.{detach_owned}
use Rattle.passive_list.proofs.Sharing.{shared, sharing}
use Rattle.name_registry.proofs.interlock.Interlock.detach.Goals as goal

pub returns-clause-ok : goal.returns-clause-ok
returns-clause-ok g c =
    let own = shared c.cpu.inside.share.amount _ _ _ c.deref_mut.ensures.value c.cpu.view_is in
    let key : Key = record { kind = c.args.kind; name = c.args.name.now } in
    let k = c.args.self.now.keeper.keeper in
    let b = c.detach_in.new.keeper.keeper in
    let e = c.in_ok-entry.entry in
    let y = sharing c.cpu.inside.share.amount c.detach_in.new.cpu.cpu in
    let is = subst (λ (x : OnCpu). IsDetachAnswer k x key (Ok e)) own c.in_ok-entry.ensures.answer in
    let owned = detach_owned k b c.args.cpu.now y key (Ok e) is (subst (λ (x : OnCpu). HasDetachedFor k x e b y) own (detached c.cpu.inside.share.amount _ _ _ _ _ c.in_ok-entry.ensures.ok)) in
    let counted = detach_counted c.args.cpu.now y c.count_detach.new.cpu e _ c.count_detach.ensures.cpu (owned.2, owned.3) in (owned.0, owned.1, counted.0, counted.1)
