use Rattle.std.specs.Prelude.{◌≡◌, ◌+◌, ◌*◌, ◌≤◌, All, vec_len}
use Rattle.std.specs.Vec.Iter.{into_iter_items, into_iter_len}
use Rattle.registry_storm.proofs.workers.join_all.Given as goal

-- two lookups a turn of each worker that has been joined
abbrev pub invariant-loop-worker : goal.invariant-loop-worker
invariant-loop-worker g l =
    All (λ h. h.promise ≡ l.fn.turns) (into_iter_items l.worker-iterator)
    × (into_iter_len l.worker-iterator ≤ vec_len l.fn.started)
    × (l.counts.lookups + 2 * l.fn.turns.0 * into_iter_len l.worker-iterator ≡ 2 * l.fn.turns.0 + 2 * l.fn.turns.0 * vec_len l.fn.started)
