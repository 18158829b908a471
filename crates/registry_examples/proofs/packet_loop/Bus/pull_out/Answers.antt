use Rattle.registry_examples.proofs.Accounted.{pulled_out}
use Rattle.registry_examples.proofs.packet_loop.Bus.pull_out.Goals as goal

pub returns-clause-made : goal.returns-clause-made
returns-clause-made g c =
    let told = c.in_ok-entry.ensures in
    pulled_out c.args.cpu.now c.detach.new.cpu c.destroy.new.cpu c.in_ok-entry.entry told.ok.2 told.ok.3 told.made c.destroy.ensures.learned
