use Rattle.registry_report.proofs.Written.{written_step}
use Rattle.registry_report.proofs.run.write_text.Goals as goal

pub loop-rest-preserved : goal.loop-rest-preserved
loop-rest-preserved g c = written_step _ _ _ _ c.loop-rest.rest.now c.in-Ok.n c.in-Ok.ensures.bound c.loop-rest.invariant c.in-Ok.ensures.bytes
