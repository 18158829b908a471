use Rattle.std.proofs.Common.{◌≡◌, ◌<◌, ℕ, length, slice_index_or}
use Rattle.passive_core.specs.Types.{MOST_CPUS}
use Rattle.protocol.specs.Common.{section_at}
use Rattle.passive_core.proofs.machine.Core.snapshot_all.Given as goal

-- the words of the CPUs so far
abbrev pub invariant-loop-c : goal.invariant-loop-c
invariant-loop-c l = record {
  same : l.self ≡ l.fn.self;
  long : length l.words ≡ MOST_CPUS;
  words : (d : ℕ) → d < l.c → slice_index_or l.words d 0 ≡ section_at l.fn.self d;
}
