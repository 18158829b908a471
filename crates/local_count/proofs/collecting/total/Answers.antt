use Rattle.std.proofs.Common.{◌≡◌, ◌∙◌, ap, rules}
use Rattle.registry_values.specs.Common.{slot_at}
use Rattle.passive_list.specs.Common.{OnPlainKeeper, row_at, total_or_bias}
use Rattle.passive_list.proofs.Rows.{retired_in, row_read}
use Rattle.local_count.proofs.GivenUp.{total_tells}
use Rattle.local_count.proofs.collecting.total.Goals.{After-total_or_bias}
use Rattle.local_count.proofs.collecting.total.Goals as goal

-- the total that was read is the slot's row's
read : (c : After-total_or_bias) → c.total_or_bias.result ≡ total_or_bias (row_at c.keeper.inside.rows.items c.args.slot)
read c =
    let retired = ap (λ (x : OnPlainKeeper). slot_at x.keeper.slots c.args.slot) c.keeper.view_is ∙ c.requires.retired.1 in
    let agree = c.keeper.invariant.0.rows in
    c.total_or_bias.ensures ∙ ap total_or_bias (row_read _ _ _ _ _ agree (retired_in _ _ _ _ _ agree retired).0 c.index.ensures)

pub overflow_sub-result : goal.overflow_sub-result
overflow_sub-result c = (total_tells _ _ _ _ _ _ _ _ c.keeper.invariant.0 c.keeper.view_is (read (goal.at.overflow_sub-result c).After-total_or_bias) c.requires.retired.1 c.requires.collected).floor

pub returns : goal.returns
returns c =
    let told = total_tells _ _ _ _ _ _ _ _ c.keeper.invariant.0 c.keeper.view_is (read (goal.at.returns c).After-total_or_bias) c.requires.retired.1 c.requires.collected in
    record { value = told.is; held = told.held; same = search rules }
