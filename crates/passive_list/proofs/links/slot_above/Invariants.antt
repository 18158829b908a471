use Rattle.std.proofs.Common.{◌≡◌}
use Rattle.passive_list.proofs.Leading.{oldest_to}
use Rattle.passive_list.proofs.links.slot_above.Given as goal

-- the oldest of the slots so far
abbrev pub invariant-loop-t : goal.invariant-loop-t
invariant-loop-t l = l.best ≡ oldest_to l.rows l.rank l.t
