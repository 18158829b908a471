use Rattle.registry_examples.proofs.Accounted.{attached_one}
use Rattle.registry_examples.proofs.packet_loop.Bus.load_driver.Goals as goal

pub returns : goal.returns
returns g c = record { made = let told = c.in_ok-attach.ensures in attached_one c.args.cpu.now c.attach.new.cpu c.in_ok-attach.field-0 told.ok.1 told.ok.2 told.made }
