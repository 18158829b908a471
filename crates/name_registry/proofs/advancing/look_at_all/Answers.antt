use Rattle.std.proofs.Common.{◌≡◌, ◌∙◌, true, sym, subst, ◌<◌}
use borrow.Author.Count.{below_more}
use Rattle.name_registry.specs.Types.{Settings}
use Rattle.protocol.specs.Common.{mark_at}
use Rattle.passive_list.proofs.Rows.{goes_on}
use Rattle.name_registry.specs.Common.{IsLook, MayWork}
use Rattle.name_registry.proofs.Worked.{look_goes_on, looks_go_on, looks_more, grace_met, may_work, still_works, looked_more, still_passed}
use Rattle.name_registry.proofs.advancing.look_at_all.Goals as goal

pub passes-requires-clause-works : goal.passes-requires-clause-works
passes-requires-clause-works c =
    let works = subst (λ (z : Settings). MayWork z c.args.keeper.now.keeper c.args.slot) (sym c.requires.words.1)
    (may_work _ _ _ _ _ c.args.slot c.requires.retired.0 c.settings-cpu-end.ensures.own.1.agree c.settings-cpu-end.ensures.own.1.are c.requires.retired.1) in
    still_works c.args.words.now.settings c.args.keeper.now.keeper c.loop-cpu.keeper.keeper c.args.slot works c.loop-cpu.invariant.leaves.worked

pub returns-then-not-passes-clause-met : goal.returns-then-not-passes-clause-met
returns-then-not-passes-clause-met c =
    let l = c.loop-cpu in
    let works = subst (λ (z : Settings). MayWork z c.args.keeper.now.keeper c.args.slot) (sym c.requires.words.1)
    (may_work _ _ _ _ _ c.args.slot c.requires.retired.0 c.settings-cpu-end.ensures.own.1.agree c.settings-cpu-end.ensures.own.1.are c.requires.retired.1) in
    grace_met c.args.words.now.settings c.args.keeper.now.keeper l.keeper.keeper c.passes.new.keeper.keeper c.args.slot l.cpu works
    (subst (λ (z : Settings). l.cpu < z.cpus) (c.settings-cpu-end.ensures.value ∙ sym c.requires.words.1) c.loop-cpu-test.true)
    l.invariant.leaves l.invariant.passed c.passes.ensures.leaves (c.passes.ensures.sees c.if-not-passes.true)

pub returns-then-not-passes-clause-leaves : goal.returns-then-not-passes-clause-leaves
returns-then-not-passes-clause-leaves c = looked_more c.args.keeper.now.keeper c.loop-cpu.keeper.keeper c.passes.new.keeper.keeper c.args.slot c.loop-cpu.invariant.leaves c.passes.ensures.leaves

pub loop-cpu-preserved : goal.loop-cpu-preserved
loop-cpu-preserved c =
    let l = c.loop-cpu in
    record {
      words = c.passes.ensures.words ∙ l.invariant.words;
      leaves = looked_more c.args.keeper.now.keeper l.keeper.keeper c.passes.new.keeper.keeper c.args.slot l.invariant.leaves c.passes.ensures.leaves;
      passed = below_more (λ d. (mark_at c.passes.new.keeper.keeper.view.marks c.args.slot d).passed ≡ true) l.cpu
          (still_passed l.keeper.keeper c.passes.new.keeper.keeper c.args.slot l.cpu c.passes.ensures.leaves.worked l.invariant.passed) (sym c.passes.ensures.passed ∙ c.if-not-passes.false);
      looks = looks_more l.cpu c.args.keeper.now.keeper c.args.slot l.keeper.keeper c.passes.new.keeper.keeper l.invariant.looks c.passes.ensures.looks;
    }

pub returns-then-not-passes-clause-log : goal.returns-then-not-passes-clause-log
returns-then-not-passes-clause-log c =
    let l = c.loop-cpu in
    let a = c.args.keeper.now.keeper in
    let t = c.args.slot in
    goes_on (IsLook t) a.log l.keeper.keeper.log c.passes.new.keeper.keeper.log (looks_go_on l.cpu a t l.keeper.keeper l.invariant.looks)
    (look_goes_on _ l.keeper.keeper t l.cpu c.passes.new.keeper.keeper c.passes.ensures.looks)

pub returns-clause-log : goal.returns-clause-log
returns-clause-log c = looks_go_on c.loop-cpu.cpu c.args.keeper.now.keeper c.args.slot c.loop-cpu.keeper.keeper c.loop-cpu.invariant.looks
