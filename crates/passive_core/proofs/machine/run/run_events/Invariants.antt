use Rattle.std.proofs.Common.{◌≡◌, ◌+◌, take}
use Rattle.protocol.specs.Common.{narrow_run_of_events, empty_run}
use Rattle.passive_core.proofs.machine.run.run_events.Given as goal

-- the state and the counts are those of the events so far
abbrev pub invariant-loop-done : goal.invariant-loop-done
invariant-loop-done l = record {
  so_far : narrow_run_of_events (empty_run l.fn.core) (take l.done l.events) ≡ record { state = l.core; counted = l.counted };
  each : l.counted.taken + l.counted.refused ≡ l.done;
}
