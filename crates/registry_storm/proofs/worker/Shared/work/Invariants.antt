use Rattle.std.specs.Prelude.{◌≡◌, ◌*◌}
use Rattle.registry_storm.proofs.worker.Shared.work.Given as goal

-- two lookups of each turn were counted
abbrev pub invariant-loop-turn : goal.invariant-loop-turn
invariant-loop-turn g l = l.done.counts.lookups ≡ 2 * l.turn
