use Rattle.std.proofs.Common.{◌≡◌, ◌+◌, ◌≤◌, ◌++◌, length, vec_len, vec_capacity}
use Rattle.std.specs.Vec.Iter.{into_iter_items}
use Rattle.name_registry.specs.Common.{AreNewCpus}
use Rattle.name_registry.proofs.blank.name_cpus.Given as goal

-- the CPUs so far are named, and the list has room for the others; each has a part of the ledger
abbrev pub invariant-loop-cpu : goal.invariant-loop-cpu
invariant-loop-cpu g l = (l.fn.plain.items ≡ l.yielded ++ into_iter_items l.cpu-iterator) × AreNewCpus g.D.Domain.settings (length l.yielded) l.cpus.items
    × (vec_len l.cpus ≡ length l.yielded) × (g.D.Domain.settings.cpus ≤ vec_capacity l.cpus)
    × (l.shares.parts + length l.yielded ≡ g.D.Domain.settings.cpus) × (l.shares.amount ≡ 0)
