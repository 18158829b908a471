use Rattle.std.proofs.Common.{◌≡◌, ◌∙◌, true, sym, subst, ◌<◌}
use borrow.Author.Count.{below_more}
use Rattle.name_registry.specs.Types.{Settings}
use Rattle.protocol.specs.Common.{mark_at}
use Rattle.name_registry.proofs.Worked.{passive_met, looked_more, still_clear}
use Rattle.name_registry.proofs.advancing.look_at_passive.Goals as goal

pub returns-then-not-clears-clause-met : goal.returns-then-not-clears-clause-met
returns-then-not-clears-clause-met c =
    let l = c.loop-cpu in
    passive_met c.args.words.now.settings c.args.keeper.now.keeper l.keeper.keeper c.clears.new.keeper.keeper c.args.slot l.cpu c.requires.works
    (subst (λ (z : Settings). l.cpu < z.cpus) (c.settings-cpu-end.ensures.value ∙ sym c.requires.words.1) c.loop-cpu-test.true) c.requires.passed
    l.invariant.leaves l.invariant.clear c.clears.ensures.leaves (c.clears.ensures.sees c.if-not-clears.true)

pub returns-then-not-clears-clause-leaves : goal.returns-then-not-clears-clause-leaves
returns-then-not-clears-clause-leaves c = looked_more c.args.keeper.now.keeper c.loop-cpu.keeper.keeper c.clears.new.keeper.keeper c.args.slot c.loop-cpu.invariant.leaves c.clears.ensures.leaves

pub loop-cpu-preserved : goal.loop-cpu-preserved
loop-cpu-preserved c =
    let l = c.loop-cpu in
    record {
      words = c.clears.ensures.words ∙ l.invariant.words;
      leaves = looked_more c.args.keeper.now.keeper l.keeper.keeper c.clears.new.keeper.keeper c.args.slot l.invariant.leaves c.clears.ensures.leaves;
      clear = below_more (λ d. (mark_at c.clears.new.keeper.keeper.view.marks c.args.slot d).clear ≡ true) l.cpu
          (still_clear l.keeper.keeper c.clears.new.keeper.keeper c.args.slot l.cpu c.clears.ensures.leaves.worked l.invariant.clear) (sym c.clears.ensures.clear ∙ c.if-not-clears.false);
    }
