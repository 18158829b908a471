-- `attach_wm`: what it returns.
use Rattle.std.proofs.Common.{◌<◌, arith, get_or}
use Rattle.registry_live.proofs.LiveCpus.{all_with, attached_stays}
use Rattle.script_tests.proofs.tests.calls.attach_wm.Goals as goal

pub returns : goal.returns
returns g c =
    let some : 0 < g.D.Domain.settings.cpus = omega (arith, c.if-cpus-lt2.false, c.requires.cpus.count) in
    record {
      cpus = all_with _ c.args.cpus.now 0 c.index-cpus-0.result c.attach.new.cpu c.requires.cpus some c.index-cpus-0.is
          (attached_stays (get_or c.args.cpus.now 0 c.index-cpus-0.result) c.attach.new.cpu _ _ _ c.attach.result c.attach.ensures.ok c.attach.ensures.refused).id;
    }
