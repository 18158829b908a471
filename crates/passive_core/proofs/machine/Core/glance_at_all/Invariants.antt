use Rattle.std.proofs.Common.{◌≡◌, ◌<◌, ℕ, length, slice_index_or, not, false, true}
use Rattle.passive_core.specs.Types.{MOST_CPUS}
use Rattle.protocol.specs.Common.{is_inside}
use Rattle.passive_core.proofs.machine.Core.glance_at_all.Given as goal

-- of the CPUs so far it is known who is outside, and none is taken to be that isn't
abbrev pub invariant-loop-c : goal.invariant-loop-c
invariant-loop-c l = record {
  same : l.self ≡ l.fn.self;
  long : length l.seen ≡ MOST_CPUS;
  seen : (d : ℕ) → d < l.c → slice_index_or l.seen d false ≡ not (is_inside l.fn.self d);
  sound : (d : ℕ) → slice_index_or l.seen d false ≡ true → is_inside l.fn.self d ≡ false;
}
