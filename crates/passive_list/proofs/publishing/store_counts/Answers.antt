use Rattle.std.proofs.Common.{◌≡◌, ◌+◌, ◌++◌, ℕ, suc, List, ap, ◌∙◌, subst, arith}
use Rattle.passive_list.specs.Types.{LogItem, StoreSlot, Done}
use Rattle.registry_values.specs.Common.{bias}
use Rattle.cpu_words.specs.Common.{did}
use Rattle.passive_list.specs.Common.{logged_counts}
use Rattle.passive_list.proofs.Preparing.{counts_next}
use Rattle.passive_list.proofs.publishing.store_counts.Goals as goal

pub loop-c-preserved : goal.loop-c-preserved
loop-c-preserved c =
    let next : suc c.loop-c.c ≡ c.loop-c.c + 1 = omega arith in (
      c.store_count.ensures.step.table ∙ c.loop-c.invariant.0,
      counts_next c.args.seat.now.view c.loop-c.seat.view c.store_count.new.keeper.view c.args.slot c.loop-c.c c.requires.sized c.requires.may.slot
          (omega (arith, c.loop-c-test.true, c.requires.fit.2)) c.loop-c.invariant.1 c.store_count.ensures.change,
      subst (λ (n : ℕ). c.store_count.new.keeper.log ≡ logged_counts c.args.slot n c.args.seat.now.log) next
          (c.store_count.ensures.step.log ∙ ap (λ (log : List LogItem). log ++ did (StoreSlot c.args.slot (5 + c.loop-c.c) bias) Done) c.loop-c.invariant.2),
    )
