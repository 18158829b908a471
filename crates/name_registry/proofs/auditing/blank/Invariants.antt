use Rattle.std.proofs.Common.{◌≡◌, All, length}
use Rattle.name_registry.specs.Types.{Balance}
use Rattle.name_registry.proofs.auditing.blank.Given as goal

-- so many are there, each with room for the CPUs
abbrev pub invariant-loop : goal.invariant-loop
invariant-loop l = (length l.list.items ≡ l.counter) × All (λ (b : Balance). length b.locals.items ≡ l.cpus) l.list.items
