use Rattle.registry_storm.specs.{GoesOn}
use Rattle.registry_storm.proofs.baskets.Baskets.empty.Given as goal

-- from before the first place on
abbrev pub invariant-loop-place : goal.invariant-loop-place
invariant-loop-place g l = GoesOn l.fn.counts l.counts

abbrev pub decreases-loop-place : goal.decreases-loop-place
decreases-loop-place g l = goal.left-loop-place g l
