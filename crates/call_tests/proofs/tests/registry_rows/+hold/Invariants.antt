use Rattle.call_tests.proofs.tests.registry_rows.+hold.Given as goal

-- each call within it has one fewer to acquire
abbrev pub decreases-hold : goal.decreases-hold
decreases-hold g l = l.left
