use Rattle.std.proofs.Common.{◌≡◌}
use Rattle.passive_list.proofs.Leading.{newest_to}
use Rattle.passive_list.proofs.links.link_below.Given as goal

-- the newest of the slots so far
abbrev pub invariant-loop-t : goal.invariant-loop-t
invariant-loop-t l = l.best ≡ newest_to l.rows l.rank l.t
