use Rattle.std.proofs.Common.{◌≡◌, ◌≤◌, ◌++◌, length}
use Rattle.std.specs.Vec.Iter.{into_iter_items}
use Rattle.name_registry.specs.Common.{made_by}
use Rattle.registry_examples.specs.{answered_by, answered_in, counted_in, made_in}
use Rattle.registry_examples.proofs.packet_loop.all_counted.Given as goal

-- each carrier that was counted has its CPU in the list
abbrev pub invariant-loop-one : goal.invariant-loop-one
invariant-loop-one g l = (l.fn.carried.items ≡ l.yielded ++ into_iter_items l.one-iterator) × (length l.cpus.items ≡ length l.yielded) × (made_by l.cpus.items ≡ made_in l.yielded) × (l.counted ≤ counted_in l.yielded) × (answered_by l.cpus.items ≡ answered_in l.yielded)
