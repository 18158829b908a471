use Rattle.std.proofs.Common.{◌∙◌, ap, arith, length-set}
use Rattle.name_registry.specs.Types.{Settings}
use Rattle.registry_values.proofs.Fit.{ranges}
use Rattle.name_registry.proofs.Passed.{snapshots_more}
use Rattle.name_registry.proofs.glancing.snapshot_all.Goals as goal

pub loop-cpu-preserved : goal.loop-cpu-preserved
loop-cpu-preserved c =
    let l = c.loop-cpu in
    let e = c.snapshot.ensures in
    let few = (ranges c.args.keeper.now.words.settings c.settings-cpu-end.ensures.own.1.agree.view.fit).cpus in
    record {
      words = e.words ∙ l.invariant.words;
      slots = e.slots ∙ l.invariant.slots;
      looks = snapshots_more l.cpu c.snapshot.result l.snapshots _ _ _ (omega (arith, l.invariant.size, c.loop-cpu-test.true, ap (λ (z : Settings). z.cpus) c.settings-cpu-end.ensures.value, few))
          l.invariant.looks (record { event = e.event; change = λ k. record { view = e.change k; log = e.log k } });
      size = length-set l.snapshots l.cpu c.snapshot.result ∙ l.invariant.size;
    }
