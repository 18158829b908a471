use Rattle.registry_examples.proofs.Accounted.{took_none}
use Rattle.registry_examples.proofs.packet_loop.Bus.take_driver.Goals as goal

pub returns-clause-none : goal.returns-clause-none
returns-clause-none g c =
    took_none c.args.cpu.now c.enter.new.cpu c.find.new.cpu c.acquire_local-driver.new.cpu c.exit.new.cpu _ _ _ _ _ c.enter.ensures c.find.ensures.found c.acquire_local-driver.ensures c.exit.ensures
