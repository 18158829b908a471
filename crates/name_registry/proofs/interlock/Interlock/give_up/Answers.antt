use Rattle.std.proofs.Common.{ap, subst}
use Rattle.name_registry.specs.Types.{ReferenceView}
use Rattle.passive_list.specs.Common.{OnCpu}
use Rattle.name_registry.specs.Common.{HasGivenUpFor}
use Rattle.name_registry.proofs.GivenUp.{knows_given, learns_given}
use Rattle.passive_list.proofs.Sharing.{shared, sharing}
use Rattle.name_registry.proofs.Counted.{given_up}
use Rattle.name_registry.proofs.interlock.Interlock.give_up.Goals as goal

pub returns : goal.returns
returns g c =
    let k = c.args.self.now.keeper.keeper in
    let b = c.release_for in
    let m = c.cpu.inside.share.amount in
    let v = c.reference.inside.plain.reference in
    let y = sharing m b.new.cpu.cpu in
    let with_share = subst (λ (x : OnCpu). HasGivenUpFor k x v b.new.keeper.keeper y) (shared m _ _ _ c.deref_mut.ensures.value c.cpu.view_is) (given_up m _ _ _ _ _ b.ensures.change) in
    let has = subst (λ (u : ReferenceView). HasGivenUpFor k c.args.cpu.now u b.new.keeper.keeper y) c.reference.view_is with_share in
    record { learned = (learns_given _ _ _ _ _ has, ap (λ (o : OnCpu). o.made) has.hears.is); log = has.cpu_log; known = knows_given _ _ _ _ _ has }
