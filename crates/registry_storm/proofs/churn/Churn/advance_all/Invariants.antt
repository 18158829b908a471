use Rattle.registry_storm.specs.{GoesOn}
use Rattle.registry_storm.proofs.churn.Churn.advance_all.Given as goal

-- no lookup is counted, and no wrong answer is taken back
abbrev pub invariant-loop-slot : goal.invariant-loop-slot
invariant-loop-slot g l = GoesOn l.fn.counts l.counts
