use Rattle.std.specs.Prelude.{◌≡◌, ◌≤◌, All, vec_len, vec_capacity}
use Rattle.registry_storm.proofs.workers.fn.work_all.scope.Given as goal

-- the workers of the CPUs so far were started, and there is room for the rest
abbrev pub invariant-loop-cpu : goal.invariant-loop-cpu
invariant-loop-cpu g l = (vec_len l.started ≡ l.cpu-index) × (l.cpu-index-end ≤ vec_capacity l.started) × All (λ h. h.promise ≡ l.turns) l.started.items
