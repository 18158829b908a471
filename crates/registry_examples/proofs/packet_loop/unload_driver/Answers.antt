use Rattle.registry_examples.proofs.Accounted.{pulled_out}
use Rattle.registry_examples.proofs.packet_loop.unload_driver.Goals as goal

pub returns-clause-made : goal.returns-clause-made
returns-clause-made g c =
    let told = c.in_ok-driver.ensures in
    pulled_out c.args.cpu.now c.detach.new.cpu c.destroy.new.cpu c.in_ok-driver.driver told.ok.2 told.ok.3 told.made c.destroy.ensures.learned
