use Rattle.std.proofs.Common.{◌∙◌}
use Rattle.registry_run.proofs.Storming.{stormed_by_writing}
use Rattle.registry_run.proofs.doing.run_storm.Goals as goal

pub returns : goal.returns
returns g c =
    record {
      stormed = stormed_by_writing g.S.Storms.made c.args.size _ _ _ _ c.in_ok-sum.sum c.as_bytes.result.now c.write_text.result c.in_ok-sum.ensures.made c.in_ok-sum.ensures.ok
          (c.as_bytes.ensures.value ∙ c.in_ok-text.ensures.text) c.write_text.ensures.ok c.write_text.ensures.err c.write_text.ensures.fault;
    }
