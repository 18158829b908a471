use Rattle.std.proofs.Common.{◌≡◌, ◌*◌, ◌^◌, ◌≤ℤ◌, neg_ℤ, pos, take}
use Rattle.registry_values.specs.Common.{sum_of}
use Rattle.registry_values.proofs.balance.sum.Given as goal

-- the sum so far, and how far it goes
abbrev pub invariant-loop-number : goal.invariant-loop-number
invariant-loop-number l = record {
  so_far : l.sum ≡ sum_of (take l.number-index l.numbers);
  low : neg_ℤ (pos (2 ^ 50 * l.number-index)) ≤ℤ l.sum;
  high : l.sum ≤ℤ pos (2 ^ 50 * l.number-index);
}
