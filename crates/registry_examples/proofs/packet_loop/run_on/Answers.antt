use Rattle.std.proofs.Common.{List, arith, subst}
use Rattle.passive_list.specs.Common.{OnCpu}
use Rattle.name_registry.specs.Common.{AreNewCpus}
use Rattle.registry_examples.proofs.Frees.{freed_besides}
use Rattle.registry_examples.proofs.Accounted.{new_made}
use Rattle.registry_examples.proofs.packet_loop.run_on.Goals as goal

pub close-requires-clause-others : goal.close-requires-clause-others
close-requires-clause-others g c =
    let z = g.D.Domain.settings in
    let new = new_made z z.cpus c.pop.new.self.items c.in-Some.cpu (subst (λ (xs : List OnCpu). AreNewCpus z z.cpus xs) c.in-Some.ensures.items c.in-Ok.ensures.cpus) in
    let none = new.0 in
    let others = c.in_ok-sum.ensures.others in
    omega (arith, none, others)

pub returns : goal.returns
returns g c =
    let z = g.D.Domain.settings in
    let last = c.in_ok-close.field-0 in
    let new = new_made z z.cpus c.pop.new.self.items c.in-Some.cpu (subst (λ (xs : List OnCpu). AreNewCpus z z.cpus xs) c.in-Some.ensures.items c.in-Ok.ensures.cpus) in
    let ran = c.in_ok-sum.ensures in
    let gone = c.in_ok-driver.ensures in
    record {
      ran = freed_besides last.settings last.words c.in_ok-sum.sum.freed c.in_ok-sum.sum.counted c.in_ok-sum.carriers.items c.in-Some.cpu c.in_ok-sum.cpu c.unload_driver.new.cpu new.1 ran.made gone.made ran.freed gone.freed ran.counted c.in_ok-close.ensures.ran;
    }
