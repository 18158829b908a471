-- A find, and an acquire of what it found.
use Rattle.name_registry.proofs.Counting.{counts_err, counts_ok}
use Rattle.name_registry.proofs.getting_local.find_and_count.Goals as goal

pub returns-in-Ok-clause-got : goal.returns-in-Ok-clause-got
returns-in-Ok-clause-got c = counts_ok _ _ _ _ c.in-Some.seen c.in-Ok.plain c.in-Some.ensures.found c.in-Ok.ensures.acquired

pub returns-in-Err-clause-got : goal.returns-in-Err-clause-got
returns-in-Err-clause-got c = counts_err _ _ _ _ c.in-Some.seen c.in-Err.refusal c.in-Some.ensures.found c.in-Err.ensures.acquired
