-- `sum`: that each turn of its loop keeps the invariants.
use Rattle.std.proofs.Common.{arith}
use Rattle.std.proofs.lemmas.Int.{ints, to_z-of_z}
use Rattle.std.proofs.lemmas.List.Sums.{fold_more}
use Rattle.registry_values.proofs.balance.sum.Goals as goal

pub loop-number-preserved : goal.loop-number-preserved
loop-number-preserved c =
    let low = c.requires.low c.loop-number.number-index c.loop-number-test.true in
    let high = c.requires.high c.loop-number.number-index c.loop-number-test.true in
    record {
      so_far = grind (arith, ints, to_z-of_z, fold_more);
      low = omega (arith, ints, low, high);
      high = omega (arith, ints, low, high);
    }
