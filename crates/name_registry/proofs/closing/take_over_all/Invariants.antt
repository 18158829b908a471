use Rattle.name_registry.proofs.Closed.{AreDone}
use Rattle.name_registry.proofs.closing.take_over_all.Given as goal

-- the seats of the last CPUs are taken over, and their parts of the ledger are together
abbrev pub invariant-loop-cpu : goal.invariant-loop-cpu
invariant-loop-cpu g l = AreDone l.fn.cpus.items l.cpus.items l.fn.keeper l.keeper l.shares.parts l.shares.amount

abbrev pub decreases-loop-cpu : goal.decreases-loop-cpu
decreases-loop-cpu g l = goal.left-loop-cpu g l
