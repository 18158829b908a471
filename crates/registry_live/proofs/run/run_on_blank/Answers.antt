use Rattle.registry_live.proofs.LiveCpus.{new_are_all}
use Rattle.registry_report.proofs.Written.{run_not_begun}
use Rattle.registry_live.proofs.run.run_on_blank.Goals as goal

pub run_live_on-requires-clause-cpus : goal.run_live_on-requires-clause-cpus
run_live_on-requires-clause-cpus g c = rw c.deref_mut.ensures.value (new_are_all g.D.Domain.settings c.in-Ok.cpus.items c.in-Ok.ensures.cpus)

pub returns-clause-front : goal.returns-clause-front
returns-clause-front g c = run_not_begun (g.W.Write.contents c.args.writer.now) c.args.script.now.commands
