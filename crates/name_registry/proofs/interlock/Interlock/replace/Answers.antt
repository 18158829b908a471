use Rattle.std.proofs.Common.{Ok, false, subst}
use Rattle.name_registry.specs.Types.{Driver, Key}
use Rattle.passive_list.specs.Common.{OnCpu}
use Rattle.name_registry.specs.Common.{HasReplacedFor, IsReplaceAnswer}
use Rattle.name_registry.proofs.Counted.{few_changes, one_made, replace_counted, replace_numbered, replaced}
use Rattle.name_registry.proofs.Noted.{replace_owned}
use Rattle.passive_list.proofs.Sharing.{shared, sharing}
use Rattle.name_registry.proofs.interlock.Interlock.replace.Goals as goal

pub returns : goal.returns
returns g c =
    let m = c.cpu.inside.share.amount in
    let own = shared m _ _ _ c.deref_mut.ensures.value c.cpu.view_is in
    let key : Key = record { kind = Driver; name = c.args.name.now } in
    let k = c.args.self.now.keeper in
    let z = k.words.settings in
    let b = c.replace_in.new.keeper.keeper in
    let x = c.args.cpu.now in
    let p = c.in_ok-entries.entries in
    let y = sharing m c.replace_in.new.cpu.cpu in
    let is = subst (λ (o : OnCpu). IsReplaceAnswer z k.keeper o false key c.args.value (Ok p)) own c.in_ok-entries.ensures.answer in
    let has = subst (λ (o : OnCpu). HasReplacedFor k.keeper o p.0 p.1 b y) own (replaced m _ _ _ _ _ _ c.in_ok-entries.ensures.ok) in
    let owned = replace_owned z k.keeper b.view.history x y false key c.args.value p is has.cpu has.own in
    let counted = replace_counted x y c.count_replace.new.cpu p.0 p.1 _ c.count_replace.ensures.cpu (owned.1, owned.2) in
    let few = (few_changes _ _ _ _ c.settings-settings.ensures.own.1.agree).0 in
    record {
      may = is.0.0;
      ok = (owned.0, counted.0, counted.1);
      made = λ rank. one_made _ x y c.count_replace.new.cpu _ (replace_numbered z k.keeper x false key c.args.value p few is) has.cpu c.count_replace.ensures.cpu;
      refused = tt;
    }
