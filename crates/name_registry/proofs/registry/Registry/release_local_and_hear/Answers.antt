use Rattle.std.proofs.Common.{ap}
use Rattle.name_registry.specs.Types.{ReferenceView}
use Rattle.name_registry.proofs.GivenUp.{let_go_heard}
use Rattle.name_registry.proofs.registry.Registry.release_local_and_hear.Goals as goal

pub give_up-requires-clause-collected : goal.give_up-requires-clause-collected
give_up-requires-clause-collected g c = (c.args.cpu.now.view.id, ap (λ (v : ReferenceView). v.collected) c.in-Err.ensures.back.is)

pub returns-in-Err : goal.returns-in-Err
returns-in-Err g c =
    let e = c.give_up.ensures in
    let_go_heard c.args.cpu.now c.try_release.new.cpu c.give_up.new.cpu c.args.reference c.in-Err.back c.in-Err.ensures.back e.learned.0 e.learned.1 e.log e.known
