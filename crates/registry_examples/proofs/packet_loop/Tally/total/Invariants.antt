use Rattle.std.specs.Prelude.{◌≡◌, ◌≤◌, ℕ, sum_by, take}
use Rattle.registry_examples.proofs.packet_loop.Tally.total.Given as goal

-- it is at most what the places so far have
abbrev pub invariant-loop-count : goal.invariant-loop-count
invariant-loop-count l = (l.total ≤ sum_by (λ (n : ℕ). n) (take l.count-index l.count-items)) × (l.count-items ≡ l.fn.self.0)
