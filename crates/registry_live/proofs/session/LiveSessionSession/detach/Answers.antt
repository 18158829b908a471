-- `LiveSessionSession::detach`: its clause `kept`; the invariant of `self`.
use Rattle.registry_live.proofs.LiveCpus.{all_with, detached_stays}
use Rattle.std.proofs.Common.{get_or, refl}
use Rattle.registry_live.proofs.Labelled.{goes_on, lent}
use Rattle.registry_live.proofs.session.LiveSessionSession.detach.Goals as goal

pub invariant_of-self : goal.invariant_of-self
invariant_of-self g c =
    let stays = detached_stays (get_or c.args.self.now.cpus.now c.args.cpu c.index-cpus-cpu.result) c.detach.new.cpu c.args.kind c.args.name _ c.detach.result c.detach.ensures.ok
    c.detach.ensures.refused in
    record { all = all_with _ c.args.self.now.cpus.now c.args.cpu c.index-cpus-cpu.result c.detach.new.cpu c.args.self.now.all c.requires c.index-cpus-cpu.is stays.id }

pub returns-clause-kept : goal.returns-clause-kept
returns-clause-kept g c =
    let stays = detached_stays (get_or c.args.self.now.cpus.now c.args.cpu c.index-cpus-cpu.result) c.detach.new.cpu c.args.kind c.args.name _ c.detach.result c.detach.ensures.ok
    c.detach.ensures.refused in
    lent _ _ _ _ refl (goes_on c.args.self.now.cpus.now c.args.self.now.passives c.args.cpu c.index-cpus-cpu.result c.detach.new.cpu stays.references)
