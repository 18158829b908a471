use Rattle.std.proofs.Common.{◌≡◌, Ok, subst, sym, ap}
use Rattle.name_registry.specs.Types.{Iface, Key, ReferenceView}
use Rattle.cpu_words.specs.Common.{IsAttachedKeeping}
use Rattle.passive_list.specs.Common.{OnCpu, OnPlainCpu}
use Rattle.registry_values.specs.Common.{is_iface}
use Rattle.name_registry.specs.Common.{HasReplacedIfaceFor, IsReplaceAnswer, IsReplaceRefusedTo, is_inside}
use Rattle.name_registry.proofs.Counted.{few_changes, iface_replaced, one_made, replace_counted, replace_numbered}
use Rattle.name_registry.proofs.Noted.{replace_owned, replace_refused}
use Rattle.passive_list.proofs.Sharing.{shared, sharing}
use Rattle.local_count.specs.References.{OnPlainRef}
use Rattle.name_registry.proofs.interlock.Interlock.replace_iface.Goals as goal

pub returns-in-Ok : goal.returns-in-Ok
returns-in-Ok g c =
    let m = c.cpu.inside.share.amount in
    let own = shared m _ _ _ c.deref_mut.ensures.value c.cpu.view_is in
    let key : Key = record { kind = Iface; name = c.args.name.now } in
    let k = c.args.self.now.keeper in
    let z = k.words.settings in
    let b = c.replace_iface_in.new.keeper.keeper in
    let x = c.args.cpu.now in
    let v = c.args.reference in
    let p = c.in-Ok.entries in
    let y = sharing m c.replace_iface_in.new.cpu.cpu in
    let is = subst (λ (q : OnCpu × ReferenceView). IsReplaceAnswer z k.keeper q.0 (is_iface q.1.entry.rec.kind) key c.args.value (Ok p)) (λ i. (own i, c.reference.view_is i)) c.in-Ok.ensures.answer in
    let has = subst (λ (q : OnCpu × ReferenceView). HasReplacedIfaceFor k.keeper q.0 q.1 p.0 p.1 b y) (λ i. (own i, c.reference.view_is i)) (iface_replaced m _ _ _ _ _ _ _ c.in-Ok.ensures.ok) in
    let owned = replace_owned z k.keeper b.view.history x y (is_iface v.entry.rec.kind) key c.args.value p is has.cpu has.own in
    let counted = replace_counted x y c.count_replace.new.cpu p.0 p.1 _ c.count_replace.ensures.cpu (owned.1, owned.2) in
    let few = (few_changes _ _ _ _ c.settings-settings.ensures.own.1.agree).0 in
    record {
      may = is.0;
      ok = (owned.0, counted.0, counted.1);
      made = λ rank. one_made _ x y c.count_replace.new.cpu _ (replace_numbered z k.keeper x (is_iface v.entry.rec.kind) key c.args.value p few is) has.cpu c.count_replace.ensures.cpu;
      keeping = subst (λ (o : OnCpu). IsAttachedKeeping p.1.slot p.1.number v.entry.number o.known_log) (sym c.count_replace.ensures.cpu) has.keeping;
      refused = tt;
    }

pub returns-in-Err-clause-refused : goal.returns-in-Err-clause-refused
returns-in-Err-clause-refused g c =
    let own = shared c.cpu.inside.share.amount _ _ _ c.deref_mut.ensures.value c.cpu.view_is in
    let k = c.args.self.now.keeper in
    let m = c.cpu.inside.share.amount in
    let y = sharing m c.replace_iface_in.new.cpu.cpu in
    let f = c.in-Err.refusal in
    let back = c.in-Err.plain.reference in
    let r = c.in-Err.ensures.refused in
    subst (λ (q : OnCpu × ReferenceView). IsReplaceRefusedTo (is_inside q.0) (is_iface q.1.entry.rec.kind) f × (back ≡ q.1) × (y ≡ q.0)) (λ i. (own i, c.reference.view_is i)) (
      replace_refused k.words.settings k.keeper (sharing m c.deref_mut.result.now.cpu) (is_iface c.reference.inside.plain.reference.entry.rec.kind) (record { kind = Iface; name = c.args.name.now }) f r.0,
      ap (λ (o : OnPlainRef). o.reference) r.1,
      ap (λ (o : OnPlainCpu). sharing m o.cpu) r.3,
    )
