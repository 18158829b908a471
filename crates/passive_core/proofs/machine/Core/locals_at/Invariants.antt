use Rattle.std.proofs.Common.{◌≡◌, [], map, take, slice_index_or}
use Rattle.registry_values.specs.Common.{local_of}
use Rattle.passive_core.proofs.machine.Core.locals_at.Given as goal

-- the net counts of the CPUs so far
abbrev pub invariant-loop-c : goal.invariant-loop-c
invariant-loop-c l = l.list.items ≡ map local_of (take l.c (slice_index_or l.self.counts l.t []))
