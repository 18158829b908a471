-- `LiveSessionSession::count`: its clause `kept`; the invariant of `self`.
use Rattle.registry_live.proofs.LiveCpus.{all_with}
use Rattle.std.proofs.Common.{refl}
use Rattle.registry_live.proofs.Labelled.{goes_on, lent}
use Rattle.registry_live.proofs.session.LiveSessionSession.count.Goals as goal

pub invariant_of-self : goal.invariant_of-self
invariant_of-self g c =
    record { all = all_with _ c.args.self.now.cpus.now c.args.cpu c.index-cpus-cpu.result c.count_one.new.cpu c.args.self.now.all c.requires.known c.index-cpus-cpu.is c.count_one.ensures.id }

pub returns-clause-kept : goal.returns-clause-kept
returns-clause-kept g c =
    lent _ _ _ _ refl (goes_on c.args.self.now.cpus.now c.args.self.now.passives c.args.cpu c.index-cpus-cpu.result c.count_one.new.cpu c.count_one.ensures.references)
