-- Each section that was open has ended.
use Rattle.c_calls.proofs.Waits.{sections_end}
use Rattle.c_calls.proofs.turns.waits_law.Goals as goal

pub returns-clause-ended : goal.returns-clause-ended
returns-clause-ended c = sections_end
