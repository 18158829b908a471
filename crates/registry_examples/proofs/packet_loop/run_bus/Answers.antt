use Rattle.std.proofs.Common.{◌+◌, ◌*◌}
use Rattle.registry_examples.specs.{MakesAtMost}
use Rattle.registry_examples.proofs.Accounted.{if_ok, loaded_first}
use Rattle.registry_examples.proofs.packet_loop.run_bus.Goals as goal

pub returns-clause-made : goal.returns-clause-made
returns-clause-made g c =
    if_ok (λ ran. MakesAtMost (2 * ran.0.freed) c.load_driver.new.cpu ran.1) (λ ran. MakesAtMost (2 * ran.0.freed + 1) c.args.cpu ran.1) c.carry_and_plug.result
    (λ ran made. loaded_first ran.0.freed c.args.cpu c.load_driver.new.cpu ran.1 c.in_ok-load_driver.ensures.made made) c.carry_and_plug.ensures.made
