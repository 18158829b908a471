-- `LiveSessionSession::copy`: its clause `kept`; the invariant of `self`.
use Rattle.std.proofs.Common.{◌≡◌, ◌<◌, length, get_or, set, subst, sym, Option, None, refl, rules, arith}
use Rattle.passive_ref.specs.{OnPsref, why_not_copied, why_unusable}
use Rattle.passive_list.specs.Common.{OnCpu}
use Rattle.registry_live.proofs.LiveCpus.{all_with}
use Rattle.registry_live.proofs.Labelled.{Keeps, copied_free, lent, named_id, takes_label}
use Rattle.registry_live.proofs.session.LiveSessionSession.copy.Goals as goal

pub invariant_of-self-2 : goal.invariant_of-self-2
invariant_of-self-2 g c =
    record { all = all_with _ c.args.self.now.cpus.now c.args.cpu c.index-cpus-cpu.result c.copied.new.cpu c.args.self.now.all c.requires.known c.index-cpus-cpu.is c.copied.ensures.id }

pub returns-clause-kept : goal.returns-clause-kept
returns-clause-kept g c =
    let few : c.args.cpu < length c.args.self.now.cpus.now = omega (arith, c.requires.known, c.args.self.now.all.count) in
    let labels : c.args.target.place < length c.args.self.now.passives = search (rules, arith) in
    let old : OnCpu = get_or c.args.self.now.cpus.now c.args.cpu c.index-cpus-cpu.result in
    let place : Option OnPsref = get_or c.args.self.now.passives c.args.target.place c.index-passives-target.result in
    let free : place ≡ None = copied_free _ place c.is_some-taken.result (λ q. why_not_copied old.view q.number (why_unusable old.view q)) c.is_some-taken.ensures c.in_ok-second.ensures.answer.0 in
    lent _ _ _ _ refl
    (subst (λ (r : Option OnPsref). Keeps c.args.self.now.cpus.now c.args.self.now.passives (set c.args.self.now.cpus.now c.args.cpu c.copied.new.cpu)
    (set c.args.self.now.passives c.args.target.place r)) (sym c.fill.ensures)
    (takes_label c.args.self.now.cpus.now c.args.self.now.passives c.args.cpu c.args.target.place c.in_ok-second.ensures.answer.1.2.0 c.index-cpus-cpu.result c.copied.new.cpu
    c.index-passives-target.result c.in_ok-second.second few
    (named_id _ c.args.self.now.cpus.now c.args.cpu c.index-cpus-cpu.result c.args.self.now.all few c.index-cpus-cpu.is) labels free c.in_ok-second.ensures.answer.1.2.3))
