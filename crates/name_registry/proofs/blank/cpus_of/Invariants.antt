use Rattle.std.proofs.Common.{◌≡◌, ◌++◌, length}
use Rattle.std.specs.Vec.Iter.{into_iter_items}
use Rattle.name_registry.specs.Common.{AreOpened, boxed}
use Rattle.name_registry.proofs.blank.cpus_of.Given as goal

-- the seats so far have their CPUs
abbrev pub invariant-loop-seat : goal.invariant-loop-seat
invariant-loop-seat l = (l.fn.seats.items ≡ l.yielded ++ into_iter_items l.seat-iterator) × AreOpened l.words (length l.yielded) (boxed l.cpus.items)
