use Rattle.std.proofs.Common.{◌∙◌, set, sym, ap, subst}
use Rattle.std.proofs.lemmas.List.{append_assoc, map-set}
use Rattle.protocol.specs.Common.{kept_at}
use Rattle.cpu_words.proofs.seats.Seating.{step_is_shown}
use Rattle.passive_list.specs.Common.{KeptSlot, OnKeeper, OnPlainKeeper, HasVacated, IsDrainedOn, IsOurKeeper, state_of, states_of}
use Rattle.passive_list.specs.Types.{KeeperView}
use Rattle.passive_list.proofs.Marks.{marks_stay, row_vacated, vacated_keeper}
use Rattle.passive_list.proofs.Rows.{retired_in, row_read}
use Rattle.passive_list.proofs.vacating.vacate.Goals as goal

pub vacate-requires-clause-may : goal.vacate-requires-clause-may
vacate-requires-clause-may c = record {
  drained = (subst (λ (x : OnPlainKeeper). IsDrainedOn x.keeper c.args.slot) (sym c.keeper.view_is) c.requires.drained).drained;
  keeps_nothing = ap (λ (x : OnPlainKeeper). kept_at x.keeper.view.keeps c.args.slot) c.keeper.view_is ∙ c.requires.keeps;
}

pub invariant_of-keeper : goal.invariant_of-keeper
invariant_of-keeper c =
    let i = c.keeper.inside in
    let l = c.vacate.new.keeper.view in
    let drained = subst (λ (x : OnPlainKeeper). IsDrainedOn x.keeper c.args.slot) (sym c.keeper.view_is) c.requires.drained in
    let agree = c.keeper.invariant.0.rows in
    let row = row_read _ _ _ _ _ agree (retired_in _ _ _ _ _ agree drained.retired.1).0 c.index_mut.ensures.value in (
      subst (λ (r : KeptSlot). IsOurKeeper i.settings l (set i.rows.items c.args.slot (row_vacated r)) i.changes) (sym row)
          (vacated_keeper _ _ _ _ _ _ c.keeper.invariant.0 drained c.vacate.ensures.change (step_is_shown c.vacate.ensures.event)),
      marks_stay _ _ l _ (ap (λ (x : KeeperView). x.marks) c.vacate.ensures.change) c.keeper.invariant.1,
    )

pub returns-clause-change : goal.returns-clause-change
returns-clause-change c =
    let rows = c.keeper.inside.rows.items in
    let new = row_vacated c.index_mut.result.now in
    let b : OnKeeper = record { view = c.vacate.new.keeper.view; slots = states_of (set rows c.args.slot new); log = c.vacate.new.keeper.log } in
    subst (λ (x : OnPlainKeeper). HasVacated x.keeper c.args.slot b) c.keeper.view_is record {
      made = c.vacate.ensures.event;
      heard = c.vacate.ensures.hears;
      view = c.vacate.ensures.change;
      slots = map-set state_of rows c.args.slot new;
      log = rw append_assoc c.vacate.ensures.step.log;
      freed = λ e at. c.vacate.ensures.freed e (retired_in _ _ _ _ _ c.keeper.invariant.0.rows at).1;
    }
