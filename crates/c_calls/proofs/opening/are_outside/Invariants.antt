use Rattle.std.proofs.Common.{◌≡◌, ◌<◌, ℕ, false}
use Rattle.c_calls.specs.Opening.{bodies_of, body_at, is_inside_of}
use Rattle.c_calls.proofs.opening.are_outside.Given as goal

-- those so far are outside, and all are as before
abbrev pub invariant-loop-c : goal.invariant-loop-c
invariant-loop-c l = (bodies_of l.cpus ≡ bodies_of l.fn.cpus) × ((k : ℕ) → k < l.c → is_inside_of (body_at (bodies_of l.fn.cpus) k) ≡ false)
