-- Looks change nothing of the history, and the CPU has the share that it had.
use Rattle.std.proofs.Common.{subst}
use Rattle.name_registry.specs.Types.{Settings}
use Rattle.passive_list.specs.Common.{OnCpu}
use Rattle.name_registry.specs.Common.{HasPassedAll}
use Rattle.name_registry.proofs.Counted.{passed_same, still_booked, passed}
use Rattle.passive_list.proofs.Sharing.{shared, sharing}
use Rattle.name_registry.proofs.performing.LockedUnderInterlock.pass.Goals as goal

pub invariant_of-deref_mut-clause-counted : goal.invariant_of-deref_mut-clause-counted
invariant_of-deref_mut-clause-counted g c =
    let x = c.deref_mut.result.now in
    still_booked x.book.total x.keeper.keeper c.pass_all.new.keeper.keeper x.counted (passed_same _ _ _ _ _ _ c.pass_all.ensures.passed)

pub returns : goal.returns
returns g c =
    let k = c.deref_mut.result.now.keeper.keeper in
    let b = c.pass_all in
    let m = c.cpu.inside.share.amount in
    let had = subst (λ (z : Settings). HasPassedAll z k c.deref_mut-2.result.now.cpu c.args.retired.now b.new.keeper.keeper b.new.cpu.cpu) c.deref_mut.result.now.named.1 b.ensures.passed in
    (k, b.new.keeper.keeper, subst (λ (x : OnCpu). HasPassedAll g.D.Domain.settings k x c.args.retired.now b.new.keeper.keeper (sharing m b.new.cpu.cpu)) (shared m _ _ _ c.deref_mut-2.ensures.value c.cpu.view_is) (passed m _ _ _ _ _ _ had))
