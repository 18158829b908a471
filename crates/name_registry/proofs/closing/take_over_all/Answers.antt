use Rattle.std.proofs.Common.{◌≡◌, ◌∙◌, List, length, ap, sym, subst, arith}
use Rattle.cpu_words.specs.Common.{Seated}
use Rattle.passive_list.specs.Common.{OnCpu}
use Rattle.name_registry.specs.Types.{KeeperView}
use Rattle.name_registry.specs.Common.{AreTaken, made_by}
use Rattle.name_registry.proofs.Closed.{all_done, at_none, first_done, next_done}
use Rattle.name_registry.proofs.closing.take_over_all.Goals as goal

pub loop-cpu-init : goal.loop-cpu-init
loop-cpu-init g c = first_done c.args.cpus.items c.pop.new.self.items c.in-Some.first c.args.keeper.now _ _ _ c.in-Some.ensures.items c.take_over-shares.ensures.keeper c.take_over-shares.ensures.share

pub take_over-requires-clause-table : goal.take_over-requires-clause-table
take_over-requires-clause-table g c = ap (λ (s : Seated KeeperView). s.table) c.loop-cpu.invariant.same ∙ c.requires.table

pub loop-cpu-preserved : goal.loop-cpu-preserved
loop-cpu-preserved g c =
    next_done c.args.cpus.items c.loop-cpu.cpus.items c.pop-in-loop-cpu.new.self.items c.in-Some-pop.cpu c.args.keeper.now c.loop-cpu.keeper _ _ _ _ _ _ _ c.loop-cpu.invariant
    c.in-Some-pop.ensures.items c.take_over.ensures.keeper c.take_over.ensures.share c.merge.ensures.parts c.merge.ensures.amount

pub returns-clause-keeper : goal.returns-clause-keeper
returns-clause-keeper g c = c.loop-cpu.invariant.same

pub returns-clause-taken : goal.returns-clause-taken
returns-clause-taken g c =
    let i = c.loop-cpu.invariant in
    let none : length c.loop-cpu.cpus.items ≡ 0 = omega (arith, (at_none _ c.pop-in-loop-cpu.result c.pop-in-loop-cpu.ensures.cases c.in_default-pop.not-Some).0, c.loop-cpu.cpus.ok.0) in
    subst (λ (xs : List OnCpu). AreTaken xs c.loop-cpu.keeper.ends) (sym (all_done c.args.cpus.items c.loop-cpu.cpus.items c.args.keeper.now c.loop-cpu.keeper _ _ i none)) i.taken

pub returns-clause-made : goal.returns-clause-made
returns-clause-made g c some_one count =
    let i = c.loop-cpu.invariant in
    let none : length c.loop-cpu.cpus.items ≡ 0 = omega (arith, (at_none _ c.pop-in-loop-cpu.result c.pop-in-loop-cpu.ensures.cases c.in_default-pop.not-Some).0, c.loop-cpu.cpus.ok.0) in
    let all = all_done c.args.cpus.items c.loop-cpu.cpus.items c.args.keeper.now c.loop-cpu.keeper _ _ i none in
    sym (c.audit.ensures.whole (i.parts ∙ (sym (ap (λ (xs : List OnCpu). length xs) all) ∙ count))) ∙ (i.amount ∙ ap made_by (sym all))
