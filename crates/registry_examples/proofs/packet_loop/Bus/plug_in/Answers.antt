use Rattle.registry_examples.proofs.Accounted.{plugged_in}
use Rattle.registry_examples.proofs.packet_loop.Bus.plug_in.Goals as goal

pub returns-in-Ok-clause-made : goal.returns-in-Ok-clause-made
returns-in-Ok-clause-made g c =
    let told = c.in-Ok.ensures in
    plugged_in c.args.cpu.now c.take_driver.new.cpu c.attach_iface.new.cpu c.in-Ok._entry c.in_ok-driver.ensures.none told.ok.1 told.ok.2 told.made
