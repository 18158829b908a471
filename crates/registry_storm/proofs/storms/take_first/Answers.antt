-- `take_first`: what it returns.
use Rattle.std.proofs.Common.{ap, arith}
use Rattle.name_registry.specs.Types.{Settings}
use Rattle.registry_storm.proofs.storms.take_first.Goals as goal

pub returns : goal.returns
returns g c =
    let count = c.requires.new.count in
    let cpus = ap (λ (z : Settings). z.cpus) c.requires.settings in
    let len = c.remove.ensures.len in
    let was = c.args.cpus.now.ok.0 in
    record { others = omega (arith, len, was, count, cpus) }
