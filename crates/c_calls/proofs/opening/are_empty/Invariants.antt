use Rattle.std.proofs.Common.{◌≡◌, ◌<◌, ℕ, None}
use Rattle.c_calls.specs.Opening.{bodies_of, body_at}
use Rattle.c_calls.proofs.opening.are_empty.Given as goal

-- those so far are empty, and all are as before
abbrev pub invariant-loop-c : goal.invariant-loop-c
invariant-loop-c l = (bodies_of l.cpus ≡ bodies_of l.fn.cpus) × ((k : ℕ) → k < l.c → body_at (bodies_of l.fn.cpus) k ≡ None)
