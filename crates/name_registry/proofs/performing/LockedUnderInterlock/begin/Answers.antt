-- Snapshots change nothing of the history, and the CPU has the share that it had.
use Rattle.name_registry.proofs.Counted.{begun_same, still_booked}
use Rattle.name_registry.proofs.performing.LockedUnderInterlock.begin.Goals as goal

pub invariant_of-deref_mut-clause-counted : goal.invariant_of-deref_mut-clause-counted
invariant_of-deref_mut-clause-counted g c =
    let x = c.deref_mut.result.now in
    still_booked x.book.total x.keeper.keeper c.begin.new.keeper.keeper x.counted (begun_same _ _ _ _ _ _ _ c.begin.ensures.begun)
