use Rattle.std.proofs.Common.{◌≡◌}
use Rattle.passive_core.proofs.machine.Core.seat_all.Given as goal

-- the CPUs so far have their seats
abbrev pub invariant-loop-c : goal.invariant-loop-c
invariant-loop-c l = l.self ≡ record l.fn.self { seated = l.c }
