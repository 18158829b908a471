use Rattle.std.proofs.Common.{◌∙◌, ◌<◌, ap, subst, sym, rules}
use Rattle.passive_list.specs.Types.{Mark, Settings}
use Rattle.registry_values.specs.Common.{slot_at, mark_after_passive_look}
use Rattle.passive_list.specs.Common.{OnPlainKeeper}
use Rattle.passive_list.proofs.Marks.{look_below, looked_keeper, looked_mark}
use Rattle.passive_list.proofs.Rows.{retired_in}
use Rattle.passive_ref.proofs.looking.look_passive.Goals as goal

pub passive_look-word-requires-clause-place : goal.passive_look-word-requires-clause-place
passive_look-word-requires-clause-place c =
    let inside = c.keeper.inside in
    let retired = ap (λ (x : OnPlainKeeper). slot_at x.keeper.slots c.args.slot) c.keeper.view_is ∙ c.requires.retired.1 in (
      subst (λ (z : Settings). c.args.cpu < z.cpus) (sym c.requires.words.1) c.requires.cpu,
      subst (λ (z : Settings). c.args.slot < z.slots) (ap (λ (x : OnPlainKeeper). x.words.settings) c.keeper.view_is ∙ sym c.requires.words.1)
          (retired_in inside.settings inside.seat.view inside.rows.items c.args.slot c.requires.retired.0 c.keeper.invariant.0.rows retired).0,
    )

pub index-requires : goal.index-requires
index-requires c =
    search (rules, look_below _ _ _ _ _ _ _ _ _ c.keeper.invariant.0.rows c.keeper.invariant.1 c.keeper.view_is c.requires.retired.1 c.requires.cpu c.mark_place-at.ensures)

pub index_mut-requires : goal.index_mut-requires
index_mut-requires c =
    search (rules, look_below _ _ _ _ _ _ _ _ _ c.keeper.invariant.0.rows c.keeper.invariant.1 c.keeper.view_is c.requires.retired.1 c.requires.cpu c.mark_place-at.ensures)

pub invariant_of-keeper : goal.invariant_of-keeper
invariant_of-keeper c =
    looked_keeper _ _ _ _ _ _ _ _ _ _ _ (λ m. mark_after_passive_look m c.passive_look-word.result) _ _ _ _ c.keeper.invariant.0 c.keeper.invariant.1 c.keeper.view_is c.requires.retired.1 c.requires.cpu
    c.mark_place-at.ensures c.index.ensures c.cleared-mark.ensures c.passive_look-word.ensures.change c.passive_look-word.ensures.step.event

pub returns-clause-clear : goal.returns-clause-clear
returns-clause-clear c =
    ap (λ (m : Mark). m.clear) (looked_mark _ _ _ _ _ _ _ _ _ _ _ (λ m. mark_after_passive_look m c.passive_look-word.result) _ _ _ _ c.keeper.invariant.0 c.keeper.invariant.1 c.keeper.view_is c.requires.retired.1 c.requires.cpu
    c.mark_place-at.ensures c.index.ensures c.cleared-mark.ensures c.passive_look-word.ensures.change)

pub returns-clause-slots : goal.returns-clause-slots
returns-clause-slots c = ap (λ (x : OnPlainKeeper). x.keeper.slots) c.keeper.view_is
