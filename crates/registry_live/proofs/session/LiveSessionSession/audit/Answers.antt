use Rattle.std.proofs.Common.{refl}
use Rattle.name_registry.proofs.Gathered.{all_learned}
use Rattle.registry_live.proofs.Labelled.{all_go_on, lent}
use Rattle.registry_live.proofs.session.LiveSessionSession.audit.Goals as goal

pub invariant_of-self : goal.invariant_of-self
invariant_of-self g c = record { all = all_learned _ c.args.self.now.cpus.now c.audit.new.cpus c.audit.ensures.cpus c.args.self.now.all }

pub returns-clause-kept : goal.returns-clause-kept
returns-clause-kept g c = lent _ _ _ _ refl (all_go_on c.args.self.now.cpus.now c.audit.new.cpus c.args.self.now.passives c.audit.ensures.cpus)
