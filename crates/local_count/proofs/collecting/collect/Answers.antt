use Rattle.std.proofs.Common.{◌≡◌, ◌∙◌, ◌+◌, ◌-◌, ◌^◌, ◌<◌, ◌≤◌, ◌++◌, ℕ, List, set, sym, ap, subst, arith, rules}
use Rattle.std.proofs.Math.Seq.{map-set_same}
use Rattle.passive_list.specs.Types.{Settings, Collect, TotalAdd, Done, Word, Rest, KeeperView, LogItem, Keeper}
use Rattle.registry_values.specs.Common.{bias, slot_at}
use Rattle.protocol.specs.Common.{total_at}
use Rattle.cpu_words.specs.Common.{Makes, MayTotalAdd, did}
use Rattle.cpu_words.proofs.seats.Seating.{step_is_shown}
use Rattle.passive_list.specs.declared.keeper.KeptSlot.{KeptSlot}
use Rattle.passive_list.specs.Common.{OnPlainKeeper, IsOurKeeper, no_row, row_at, state_of, states_of, total_or_bias}
use Rattle.passive_list.proofs.Marks.{look_below}
use Rattle.passive_list.proofs.Rows.{adding_fits, keeper_is, retired_in, row_read}
use Rattle.local_count.specs.Draining.{HasCollectedInto, keeper_after_collect}
use Rattle.local_count.proofs.GivenUp.{collected_keeper, row_with_total}
use Rattle.local_count.proofs.collecting.collect.Goals.{After-total_or_bias}
use Rattle.local_count.proofs.collecting.collect.Goals as goal

-- the slot is one of the table's
within : (c : After-total_or_bias) → c.args.slot < c.keeper.inside.settings.slots
within c = (retired_in _ _ _ _ _ c.keeper.invariant.0.rows (ap (λ (x : OnPlainKeeper). slot_at x.keeper.slots c.args.slot) c.keeper.view_is ∙ c.requires.retired.1)).0

-- the total that was read is its row's
read : (c : After-total_or_bias) → c.total_or_bias.result ≡ total_or_bias (row_at c.keeper.inside.rows.items c.args.slot)
read c = c.total_or_bias.ensures ∙ ap total_or_bias (row_read _ _ _ _ _ c.keeper.invariant.0.rows (within c) c.index.ensures)

-- what the row says of the total and of the word
tells : (c : After-total_or_bias) → (bias ≤ c.total_or_bias.result + c.collect-word.result) × (c.total_or_bias.result + c.collect-word.result < 2 ^ 64)
    × MayTotalAdd c.collect-word.new.keeper.view c.args.slot c.collect-word.result (c.total_or_bias.result + c.collect-word.result - bias)
tells c =
    let l = c.collect-word.new.keeper.view in
    let w = c.collect-word.result in
    let change = c.collect-word.ensures.change in
    let due = ap (λ (y : KeeperView). y.due) change in
    let total : c.total_or_bias.result ≡ total_at l.totals c.args.slot =
    read c ∙ (c.keeper.invariant.0.rows.each c.args.slot (within c)).total ∙ sym (ap (λ (y : KeeperView). total_at y.totals c.args.slot) change) in
    let range = adding_fits l c.args.slot w (step_is_shown c.collect-word.ensures.step.event) due in
    (omega (arith, range.0, total), omega (arith, range.1, total), record { due = due; sum = ap (λ (u : ℕ). u + w - bias) total })

pub collect-word-requires-clause-place : goal.collect-word-requires-clause-place
collect-word-requires-clause-place c =
    let retired = ap (λ (x : OnPlainKeeper). slot_at x.keeper.slots c.args.slot) c.keeper.view_is ∙ c.requires.retired.1 in (
      subst (λ (z : Settings). c.args.cpu < z.cpus) (sym c.requires.words.1) c.requires.cpu,
      subst (λ (z : Settings). c.args.slot < z.slots) (ap (λ (x : OnPlainKeeper). x.words.settings) c.keeper.view_is ∙ sym c.requires.words.1)
          (retired_in _ _ _ _ _ c.keeper.invariant.0.rows retired).0,
    )

pub overflow_add-total : goal.overflow_add-total
overflow_add-total c = omega (arith, (tells (goal.at.overflow_add-total c).After-total_or_bias).1)

pub overflow_sub-total : goal.overflow_sub-total
overflow_sub-total c = (tells (goal.at.overflow_sub-total c).After-total_or_bias).0

pub total_add-requires-clause-may : goal.total_add-requires-clause-may
total_add-requires-clause-may c = (c.collect-word.result, (tells (goal.at.total_add-requires-clause-may c).After-total_or_bias).2)

pub index-requires-2 : goal.index-requires-2
index-requires-2 c =
    search (rules, look_below _ _ _ _ _ _ _ _ _ c.keeper.invariant.0.rows c.keeper.invariant.1 c.keeper.view_is c.requires.retired.1 c.requires.cpu c.mark_place-at.ensures)

pub index_mut-requires-2 : goal.index_mut-requires-2
index_mut-requires-2 c =
    search (rules, look_below _ _ _ _ _ _ _ _ _ c.keeper.invariant.0.rows c.keeper.invariant.1 c.keeper.view_is c.requires.retired.1 c.requires.cpu c.mark_place-at.ensures)

pub invariant_of-keeper : goal.invariant_of-keeper
invariant_of-keeper c =
    let a = c.keeper.inside.settings in
    let t = c.args.slot in
    let rows = c.keeper.inside.rows.items in
    let b = c.total_add.new.keeper.view in
    let cpu = subst (λ (x : OnPlainKeeper). c.args.cpu < x.words.settings.cpus) (sym c.keeper.view_is) c.requires.cpu in
    let row = row_read _ _ _ _ _ c.keeper.invariant.0.rows (within (goal.at.invariant_of-keeper c).After-total_or_bias) c.index_mut.ensures.value in
    let are = collected_keeper _ _ _ _ _ _ _ _ _ _ _ _ _ _ _ _ c.keeper.invariant.0 c.keeper.invariant.1 (keeper_is c.keeper.view_is) c.requires.retired.1 cpu c.mark_place-at.ensures
    c.index-2.ensures c.collect-word.ensures.change c.collected.ensures c.total_add.ensures.change c.total_add.ensures.step.event in
    let total = c.total_or_bias.result + c.collect-word.result - bias in
    (subst (λ (r : KeptSlot). IsOurKeeper a b (set rows t (row_with_total r total)) c.keeper.inside.changes) (sym row) are.0, are.1)

pub returns-clause-change : goal.returns-clause-change
returns-clause-change c =
    let at = (goal.at.returns-clause-change c).After-total_or_bias in
    let our = c.keeper.invariant.0 in
    let k = c.keeper.inside.seat.view in
    let b = c.total_add.new.keeper.view in
    let rows = c.keeper.inside.rows.items in
    let t = c.args.slot in
    let w = c.collect-word.result in
    let v = c.total_or_bias.result + w - bias in
    let new = row_with_total c.index_mut.result.now v in
    let change = c.collect-word.ensures.change in
    let row = row_read _ _ _ _ _ our.rows (within at) c.index_mut.ensures.value in
    let total : v ≡ total_at k.totals t + w - bias = ap (λ (u : ℕ). u + w - bias) (read at ∙ (our.rows.each t (within at)).total) in
    subst (λ (x : OnPlainKeeper). HasCollectedInto x.keeper t c.args.cpu (record { view = b; slots = states_of (set rows t new); log = c.total_add.new.keeper.log })) c.keeper.view_is record {
      word = w;
      collected = subst (λ (y : KeeperView). Makes (Collect t c.args.cpu) (Word w) (Keeper k) (Keeper y)) change c.collect-word.ensures.step.event;
      added = subst (λ (y : KeeperView). Makes (TotalAdd t) Done (Keeper y) (Keeper b)) change c.total_add.ensures.step.event;
      view = c.total_add.ensures.change ∙ ap (λ (y : KeeperView). record y { totals = set y.totals t v; due = Rest }) change
          ∙ (λ i. record (keeper_after_collect k t c.args.cpu w) { totals = set k.totals t (total i); due = sym our.view.rest i });
      slots = map-set_same state_of rows t new no_row (ap state_of row);
      log = c.total_add.ensures.step.log ∙ ap (λ (ds : List LogItem). ds ++ did (TotalAdd t) Done) c.collect-word.ensures.step.log;
    }
