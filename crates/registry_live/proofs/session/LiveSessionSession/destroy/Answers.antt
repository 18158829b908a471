-- `LiveSessionSession::destroy`: its clauses `kept` and `made`; the invariant of `self`.
use Rattle.registry_live.proofs.LiveCpus.{all_with, learned_stays, on_one}
use Rattle.registry_live.specs.{DestroysBy}
use Rattle.std.proofs.Common.{get_or, refl}
use Rattle.registry_live.proofs.Labelled.{goes_on, lent}
use Rattle.registry_live.proofs.session.LiveSessionSession.destroy.Goals as goal

pub invariant_of-self : goal.invariant_of-self
invariant_of-self g c =
    let stays = learned_stays (get_or c.args.self.now.cpus.now c.args.cpu c.index-cpus-cpu.result) c.destroy.new.cpu c.destroy.ensures.learned.0 in
    record { all = all_with _ c.args.self.now.cpus.now c.args.cpu c.index-cpus-cpu.result c.destroy.new.cpu c.args.self.now.all c.requires.known c.index-cpus-cpu.is stays.id }

pub returns-clause-kept : goal.returns-clause-kept
returns-clause-kept g c =
    let stays = learned_stays (get_or c.args.self.now.cpus.now c.args.cpu c.index-cpus-cpu.result) c.destroy.new.cpu c.destroy.ensures.learned.0 in
    lent _ _ _ _ refl (goes_on c.args.self.now.cpus.now c.args.self.now.passives c.args.cpu c.index-cpus-cpu.result c.destroy.new.cpu stays.references)

pub returns-clause-made : goal.returns-clause-made
returns-clause-made g c =
    on_one _ c.args.self.now.cpus.now c.args.cpu c.index-cpus-cpu.result c.destroy.new.cpu (DestroysBy g.D.Domain.settings c.args.number c.args.turns c.as_answer.result)
    c.args.self.now.all c.requires.known c.index-cpus-cpu.is (c.destroy.result, c.as_answer.ensures, c.destroy.ensures.made)
