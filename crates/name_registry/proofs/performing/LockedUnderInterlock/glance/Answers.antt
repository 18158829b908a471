-- Glances change nothing of the history, and the CPU has the share that it had.
use Rattle.name_registry.proofs.Counted.{glanced_same, still_booked}
use Rattle.name_registry.proofs.performing.LockedUnderInterlock.glance.Goals as goal

pub invariant_of-deref_mut-clause-counted : goal.invariant_of-deref_mut-clause-counted
invariant_of-deref_mut-clause-counted g c =
    let x = c.deref_mut.result.now in
    still_booked x.book.total x.keeper.keeper c.glance_at_all.new.keeper.keeper x.counted (glanced_same _ _ _ _ _ _ _ _ _ c.glance_at_all.ensures.glanced)
