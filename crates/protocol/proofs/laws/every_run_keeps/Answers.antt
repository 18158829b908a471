-- `every_run_keeps`: its clause `keeps`.
use Rattle.protocol.proofs.runs.Reuse.{every_run_keeps}
use Rattle.protocol.proofs.laws.every_run_keeps.Goals as goal

pub returns-clause-keeps : goal.returns-clause-keeps
returns-clause-keeps c = every_run_keeps
