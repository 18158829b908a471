use Rattle.std.proofs.Common.{◌≡◌, ◌<◌, ℕ, None}
use Rattle.c_calls.specs.Opening.{bodies_of, body_at}
use Rattle.c_calls.proofs.opening.close_cpus.Given as goal

-- those so far are empty
abbrev pub invariant-loop-c : goal.invariant-loop-c
invariant-loop-c l = (k : ℕ) → k < l.c → body_at (bodies_of l.cpus) k ≡ None
