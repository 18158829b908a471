use Rattle.std.proofs.Common.{◌≡◌}
use Rattle.passive_core.proofs.Attaching.{with_counts}
use Rattle.passive_core.proofs.machine.Core.store_counts.Given as goal

-- the words of the CPUs so far are stored
abbrev pub invariant-loop-c : goal.invariant-loop-c
invariant-loop-c l = l.self ≡ with_counts l.fn.self l.t l.c
