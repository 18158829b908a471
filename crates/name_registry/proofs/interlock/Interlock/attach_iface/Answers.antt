use Rattle.std.proofs.Common.{◌≡◌, Ok, Err, ap, sym, subst}
use Rattle.name_registry.specs.Types.{Attach, ReferenceView}
use Rattle.cpu_words.specs.Common.{IsAttachedKeeping}
use Rattle.passive_list.specs.Common.{OnCpu, OnPlainCpu}
use Rattle.passive_list.proofs.Rows.{keeper_is}
use Rattle.registry_values.specs.Common.{is_iface}
use Rattle.name_registry.specs.Common.{HasAttachedIfaceFor, attach_iface_answer, IsAttachRefusal, is_inside}
use Rattle.name_registry.proofs.Counted.{attach_counted, iface_numbered, few_changes, one_made, iface_attached}
use Rattle.name_registry.proofs.Noted.{iface_may, iface_owned, iface_refused}
use Rattle.passive_list.proofs.Sharing.{shared, sharing}
use Rattle.local_count.specs.References.{OnPlainRef}
use Rattle.name_registry.proofs.interlock.Interlock.attach_iface.Goals as goal

pub returns-in-Ok : goal.returns-in-Ok
returns-in-Ok g c =
    let m = c.cpu.inside.share.amount in
    let own = shared m _ _ _ c.deref_mut.ensures.value c.cpu.view_is in
    let k = c.args.self.now.keeper in
    let z = k.words.settings in
    let b = c.attach_iface_in.new.keeper.keeper in
    let x = c.args.cpu.now in
    let v = c.args.reference in
    let e = c.in-Ok.entry in
    let y = sharing m c.attach_iface_in.new.cpu.cpu in
    let is = subst (λ (p : OnCpu × ReferenceView). attach_iface_answer z k.keeper p.0 c.args.rec p.1 ≡ Ok e) (λ i. (own i, c.reference.view_is i)) c.in-Ok.ensures.answer in
    let has = subst (λ (p : OnCpu × ReferenceView). HasAttachedIfaceFor k.keeper p.0 p.1 e b y) (λ i. (own i, c.reference.view_is i)) (iface_attached m _ _ _ _ _ _ c.in-Ok.ensures.ok) in
    let owned = iface_owned z k.keeper b x y c.args.rec v (Ok e) is has in
    let counted = attach_counted x y c.count_attach.new.cpu e _ c.count_attach.ensures.cpu (owned.1, owned.2) in
    let few = (few_changes _ _ _ _ c.settings-settings.ensures.own.1.agree).0 in
    record {
      may = iface_may z k.keeper x c.args.rec v (Ok e) is;
      ok = (owned.0, counted.0, counted.1);
      made = one_made _ x y c.count_attach.new.cpu (Attach e) (iface_numbered z k.keeper x c.args.rec v e few is) has.cpu c.count_attach.ensures.cpu;
      keeping = subst (λ (o : OnCpu). IsAttachedKeeping e.slot e.number v.entry.number o.known_log) (sym c.count_attach.ensures.cpu) has.keeping;
      refused = tt;
    }

pub returns-in-Err-clause-refused : goal.returns-in-Err-clause-refused
returns-in-Err-clause-refused g c =
    let own = shared c.cpu.inside.share.amount _ _ _ c.deref_mut.ensures.value c.cpu.view_is in
    let k = c.args.self.now.keeper in
    let m = c.cpu.inside.share.amount in
    let y = sharing m c.attach_iface_in.new.cpu.cpu in
    let f = c.in-Err.refusal in
    let back = c.in-Err.plain.reference in
    let r = c.in-Err.ensures.refused in
    subst (λ (p : OnCpu × ReferenceView). IsAttachRefusal (is_inside p.0) (is_iface p.1.entry.rec.kind) f × (back ≡ p.1) × (y ≡ p.0)) (λ i. (own i, c.reference.view_is i))
    (iface_refused k.words.settings k.keeper c.attach_iface_in.new.keeper.keeper (sharing m c.deref_mut.result.now.cpu) y c.args.rec c.reference.inside.plain.reference (Err (f, back))
    (r.0, ap (λ (o : OnPlainRef). o.reference) r.1, keeper_is r.2, ap (λ (o : OnPlainCpu). sharing m o.cpu) r.3))
