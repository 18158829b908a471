-- One slot more.
use Rattle.std.proofs.Common.{◌+◌, sym, ap, ◌∙◌, arith}
use Rattle.name_registry.specs.Common.{entries_in}
use Rattle.name_registry.proofs.Lent.{occupied_few, occupied_next, one_at_most}
use Rattle.name_registry.proofs.auditing.count_entries.Goals as goal

pub overflow_add-count : goal.overflow_add-count
overflow_add-count c =
    omega (arith, c.loop-t.invariant, c.entries_in-count.ensures, occupied_few c.args.keeper.now.keeper c.loop-t.t, one_at_most c.slot.result)

pub loop-t-preserved : goal.loop-t-preserved
loop-t-preserved c =
    (λ i. c.loop-t.invariant i + (c.entries_in-count.ensures ∙ ap entries_in c.slot.ensures) i) ∙ sym (occupied_next c.args.keeper.now.keeper c.loop-t.t)
