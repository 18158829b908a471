use Rattle.std.proofs.Common.{◌≡◌, ◌++◌, ℕ, Some, ap, subst, rules}
use Rattle.passive_list.specs.Types.{Keeper, Look, Mark, Word}
use Rattle.registry_values.specs.Common.{mark_after_look}
use Rattle.cpu_words.specs.Common.{HasLooked, Makes, did}
use Rattle.passive_list.specs.Common.{OnPlainKeeper}
use Rattle.passive_list.proofs.Marks.{look_below, may_look, looked_keeper, looked_mark}
use Rattle.passive_list.proofs.grace.look.Goals as goal

pub look-word-requires-clause-may : goal.look-word-requires-clause-may
look-word-requires-clause-may c = may_look _ _ _ _ _ _ _ c.keeper.invariant.0.view c.keeper.invariant.0.rows c.keeper.view_is c.requires.retired.1 c.requires.cpu

pub index-requires : goal.index-requires
index-requires c =
    search (rules, look_below _ _ _ _ _ _ _ _ _ c.keeper.invariant.0.rows c.keeper.invariant.1 c.keeper.view_is c.requires.retired.1 c.requires.cpu c.mark_place-at.ensures)

pub index_mut-requires : goal.index_mut-requires
index_mut-requires c =
    search (rules, look_below _ _ _ _ _ _ _ _ _ c.keeper.invariant.0.rows c.keeper.invariant.1 c.keeper.view_is c.requires.retired.1 c.requires.cpu c.mark_place-at.ensures)

pub invariant_of-keeper : goal.invariant_of-keeper
invariant_of-keeper c =
    looked_keeper _ _ _ _ _ _ _ _ _ _ _ (λ m. mark_after_look m c.look-word.result) _ _ _ _ c.keeper.invariant.0 c.keeper.invariant.1 c.keeper.view_is c.requires.retired.1 c.requires.cpu
    c.mark_place-at.ensures c.index.ensures c.looked-mark.ensures c.look-word.ensures.change c.look-word.ensures.step.event

pub returns-clause-passed : goal.returns-clause-passed
returns-clause-passed c =
    ap (λ (m : Mark). m.passed) (looked_mark _ _ _ _ _ _ _ _ _ _ _ (λ m. mark_after_look m c.look-word.result) _ _ _ _ c.keeper.invariant.0 c.keeper.invariant.1 c.keeper.view_is c.requires.retired.1 c.requires.cpu
    c.mark_place-at.ensures c.index.ensures c.looked-mark.ensures c.look-word.ensures.change)

pub returns-clause-slots : goal.returns-clause-slots
returns-clause-slots c = ap (λ (x : OnPlainKeeper). x.keeper.slots) c.keeper.view_is

pub returns-clause-change : goal.returns-clause-change
returns-clause-change c =
    let t = c.args.slot in
    let cpu = c.args.cpu in
    let l = c.look-word.new.keeper.view in
    subst (λ (x : OnPlainKeeper). (w : ℕ) × HasLooked x.keeper.view (Look (Some t) cpu) (Word w) t cpu w l × Makes (Look (Some t) cpu) (Word w) (Keeper x.keeper.view) (Keeper l)
    × (c.look-word.new.keeper.log ≡ x.keeper.log ++ did (Look (Some t) cpu) (Word w))) c.keeper.view_is
    (c.look-word.result, c.look-word.ensures.change, c.look-word.ensures.step.event, c.look-word.ensures.step.log)
