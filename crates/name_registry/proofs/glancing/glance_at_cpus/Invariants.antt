use Rattle.std.proofs.Common.{◌≡◌, ◌≤◌, ℕ, length}
use Rattle.name_registry.specs.Common.{GlancesBelow, is_seen, looking}
use Rattle.name_registry.proofs.glancing.glance_at_cpus.Given as goal
use Rattle.name_registry.specs.Types.{MOST_CPUS}

-- the CPUs so far were glanced at, and of the others is known what was
abbrev pub invariant-loop-cpu : goal.invariant-loop-cpu
invariant-loop-cpu l = record {
  words : l.keeper.words ≡ l.fn.keeper.words;
  slots : l.keeper.keeper.slots ≡ l.fn.keeper.keeper.slots;
  looks : GlancesBelow l.snapshots l.fn.seen l.seen l.cpu (looking l.fn.keeper.keeper) (looking l.keeper.keeper);
  size : length l.seen ≡ MOST_CPUS;
  later : (c : ℕ) → l.cpu ≤ c → is_seen l.seen c ≡ is_seen l.fn.seen c;
}
