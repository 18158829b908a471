use Rattle.std.proofs.Common.{ℕ, List, ap, arith, sum_by, take}
use Rattle.registry_examples.proofs.Searched.{total_first}
use Rattle.registry_examples.proofs.packet_loop.Tally.total.Goals as goal

pub returns : goal.returns
returns c =
    let i = c.loop-count.count-index in
    omega (arith, c.loop-count.invariant.0, total_first c.args.self.now.0 i, ap (λ (l : List ℕ). sum_by (λ (n : ℕ). n) (take i l)) c.loop-count.invariant.1)
