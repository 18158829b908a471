-- `LiveSessionSession::release`: its clause `kept`; the invariant of `self`.
use Rattle.std.proofs.Common.{◌<◌, length, refl, rules, arith}
use Rattle.registry_live.proofs.LiveCpus.{all_with}
use Rattle.registry_live.proofs.Labelled.{lent, named_id, lets_go}
use Rattle.registry_live.proofs.session.LiveSessionSession.release.Goals as goal

pub invariant_of-self : goal.invariant_of-self
invariant_of-self g c =
    record { all = all_with _ c.args.self.now.cpus.now c.args.cpu c.index-cpus-cpu.result c.let_go.new.cpu c.args.self.now.all c.requires.known c.index-cpus-cpu.is c.let_go.ensures.id }

pub returns-clause-kept : goal.returns-clause-kept
returns-clause-kept g c =
    let few : c.args.cpu < length c.args.self.now.cpus.now = omega (arith, c.requires.known, c.args.self.now.all.count) in
    let labels : c.args.label.place < length c.args.self.now.passives = search (rules, arith) in
    lent _ _ _ _ refl
    (lets_go c.args.self.now.cpus.now c.args.self.now.passives c.args.cpu c.args.label.place c.index-cpus-cpu.result c.let_go.new.cpu c.index-passives-label.result c.let_go.new.place c.let_go.result
    few
    (named_id _ c.args.self.now.cpus.now c.args.cpu c.index-cpus-cpu.result c.args.self.now.all few c.index-cpus-cpu.is) labels c.let_go.ensures.answer c.let_go.ensures.free c.let_go.ensures.refused)
