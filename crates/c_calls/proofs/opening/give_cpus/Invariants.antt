use Rattle.std.proofs.Common.{◌≡◌, ◌-◌, ◌≤◌, ℕ, length, take, None}
use Rattle.c_calls.specs.Opening.{AreGiven, bodies_of, body_at, boxed}
use Rattle.c_calls.proofs.opening.give_cpus.Given as goal

-- the handles so far have their boxes, from the last, and the others are left, and empty
abbrev pub invariant-loop-c : goal.invariant-loop-c
invariant-loop-c l =
    (boxed l.bodies.items ≡ take (length l.fn.cpus - l.c) (boxed l.fn.bodies.items)) × AreGiven (boxed l.fn.bodies.items) (length l.fn.cpus) (bodies_of l.cpus) l.c
    × ((k : ℕ) → l.c ≤ k → body_at (bodies_of l.cpus) k ≡ None)
