use Rattle.registry_report.proofs.Written.{run_not_begun}
use Rattle.registry_live.proofs.run.run_live.Goals as goal

pub returns-in-Err-clause-front : goal.returns-in-Err-clause-front
returns-in-Err-clause-front g c = run_not_begun (g.W.Write.contents c.args.writer.now) c.args.script.now.commands
