use Rattle.std.proofs.Common.{◌≡◌}
use Rattle.passive_core.proofs.Attaching.{snapping}
use Rattle.passive_core.proofs.machine.Core.take_snapshots.Given as goal

-- the snapshots of the CPUs so far were taken
abbrev pub invariant-loop-d : goal.invariant-loop-d
invariant-loop-d l = l.self ≡ snapping l.fn.self l.t l.d
