use Rattle.std.proofs.Common.{◌≡◌, ◌<◌, ℕ, length, slice_index_or, None}
use Rattle.passive_core.specs.Types.{MOST_SLOTS}
use Rattle.registry_values.specs.Common.{retired_number, slot_at}
use Rattle.passive_core.proofs.machine.Core.retired_numbers.Given as goal

-- the numbers of the slots so far
abbrev pub invariant-loop-t : goal.invariant-loop-t
invariant-loop-t l = record {
  long : length l.numbers ≡ MOST_SLOTS;
  numbers : (u : ℕ) → u < l.t → slice_index_or l.numbers u None ≡ retired_number (slot_at l.self.slots u);
}
