use Rattle.std.proofs.Common.{◌≡◌, ◌∙◌, true}
use borrow.Author.Count.{below_more}
use Rattle.protocol.specs.Common.{mark_at}
use Rattle.name_registry.proofs.Worked.{still_collected, worked_more}
use Rattle.name_registry.proofs.advancing.collect_all.Goals as goal

pub loop-cpu-preserved : goal.loop-cpu-preserved
loop-cpu-preserved c =
    let l = c.loop-cpu in
    record {
      words = c.collect_one.ensures.words ∙ l.invariant.words;
      leaves = worked_more c.args.keeper.now.keeper l.keeper.keeper c.collect_one.new.keeper.keeper c.args.slot l.invariant.leaves c.collect_one.ensures.leaves;
      collected = below_more (λ d. (mark_at c.collect_one.new.keeper.keeper.view.marks c.args.slot d).collected ≡ true) l.cpu
          (still_collected l.keeper.keeper c.collect_one.new.keeper.keeper c.args.slot l.cpu c.collect_one.ensures.leaves l.invariant.collected) c.collect_one.ensures.collected;
    }
