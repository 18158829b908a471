use Rattle.registry_live.proofs.LiveCpus.{new_are_all}
use Rattle.script_tests.proofs.tests.calls.run_row.Goals as goal

pub run_on-requires-clause-cpus : goal.run_on-requires-clause-cpus
run_on-requires-clause-cpus g c = rw c.deref_mut.ensures.value (new_are_all g.D.Domain.settings c.in-Ok.cpus.items c.in-Ok.ensures.cpus)
