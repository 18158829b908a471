use Rattle.std.proofs.Common.{◌≡◌, Ok, subst}
use Rattle.name_registry.specs.Types.{Attach}
use Rattle.passive_list.specs.Common.{OnCpu}
use Rattle.name_registry.specs.Common.{HasAttachedFor, attach_answer}
use Rattle.name_registry.proofs.Counted.{attach_counted, attach_numbered, few_changes, one_made, attached}
use Rattle.name_registry.proofs.Noted.{attach_may, attach_owned}
use Rattle.passive_list.proofs.Sharing.{shared, sharing}
use Rattle.name_registry.proofs.interlock.Interlock.attach.Goals as goal

pub returns : goal.returns
returns g c =
    let m = c.cpu.inside.share.amount in
    let own = shared m _ _ _ c.deref_mut.ensures.value c.cpu.view_is in
    let k = c.args.self.now.keeper in
    let z = k.words.settings in
    let b = c.attach_in.new.keeper.keeper in
    let x = c.args.cpu.now in
    let e = c.in_ok-entry.entry in
    let y = sharing m c.attach_in.new.cpu.cpu in
    let is = subst (λ (o : OnCpu). Ok e ≡ attach_answer z k.keeper o c.args.rec) own c.in_ok-entry.ensures.answer in
    let has = subst (λ (o : OnCpu). HasAttachedFor k.keeper o e b y) own (attached m _ _ _ _ _ c.in_ok-entry.ensures.ok) in
    let owned = attach_owned z k.keeper b x y c.args.rec (Ok e) is has in
    let counted = attach_counted x y c.count_attach.new.cpu e _ c.count_attach.ensures.cpu (owned.1, owned.2) in
    let few = (few_changes _ _ _ _ c.settings-settings.ensures.own.1.agree).0 in
    record {
      may = attach_may z k.keeper x c.args.rec (Ok e) is;
      ok = (owned.0, counted.0, counted.1);
      made = one_made _ x y c.count_attach.new.cpu (Attach e) (attach_numbered z k.keeper x c.args.rec e few is) has.cpu c.count_attach.ensures.cpu;
      refused = tt;
    }
