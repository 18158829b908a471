use Rattle.std.proofs.Common.{◌≡◌, ◌<◌, ◌≤◌, ℕ, length}
use Rattle.std.specs.Option.{unwrap_or}
use Rattle.registry_values.specs.Common.{retired_number, slot_at}
use Rattle.name_registry.specs.Common.{word_of}
use Rattle.name_registry.specs.Types.{MOST_SLOTS}
use Rattle.name_registry.proofs.glancing.write_retired.Given as goal

-- the numbers of the slots so far are there, and no other
abbrev pub invariant-loop-slot : goal.invariant-loop-slot
invariant-loop-slot l = record {
  size : length l.retired ≡ MOST_SLOTS;
  there : (t : ℕ) → t < l.slot → word_of l.retired t ≡ unwrap_or (retired_number (slot_at l.keeper.keeper.slots t)) 0;
  later : (t : ℕ) → l.slot ≤ t → word_of l.retired t ≡ 0;
}
