-- `release_local`: its clauses `all` and `local`.
use Rattle.std.proofs.Common.{get_or}
use Rattle.registry_values.proofs.Fit.{ranges}
use Rattle.registry_live.proofs.Ended.{lets_go}
use Rattle.registry_live.proofs.LiveCpus.{all_with, let_go_stays}
use Rattle.registry_live.proofs.session.release_local.Goals as goal

pub returns-in-Some-clause-all : goal.returns-in-Some-clause-all
returns-in-Some-clause-all g c =
    all_with _ c.args.cpus.now 0 c.index-cpus-0.result c.release_local_and_hear.new.cpu c.requires (ranges g.D.Domain.settings c.reference.invariant.1).some_cpu c.index-cpus-0.is
    (let_go_stays (get_or c.args.cpus.now 0 c.index-cpus-0.result) c.release_local_and_hear.new.cpu c.in-Some.reference c.release_local_and_hear.ensures).id

pub returns-in-Some-clause-local : goal.returns-in-Some-clause-local
returns-in-Some-clause-local g c =
    lets_go _ c.args.cpus.now c.index-cpus-0.result c.release_local_and_hear.new.cpu c.in-Some.reference c.args.place c.in-Some.is c.requires
    (ranges g.D.Domain.settings c.reference.invariant.1).some_cpu c.index-cpus-0.is c.release_local_and_hear.ensures
