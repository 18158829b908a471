-- The capacity and the usual ranges of settings, and that the capacity leaves room.
use Rattle.std.specs.Prelude.{ℕ, ◌+◌, ◌*◌, ◌<◌, ◌≤◌, Bool, ◌&&◌, nat_le, ◌^◌}
use Rattle.registry_values.specs.declared.settings.Settings.{Settings}
use Rattle.registry_values.specs.declared.limits.TheConstants.{BIAS, MOST_CHANGES, MOST_COUNT, MOST_CPUS, MOST_DEPTH, MOST_SECTIONS, MOST_SLOTS, USUAL_CHANGES, USUAL_COUNT, USUAL_CPUS, USUAL_SECTIONS, USUAL_SLOTS}

-- both ends included
abbrev pub is_within : ℕ → ℕ → ℕ → Bool
is_within least most number = nat_le least number && nat_le number most

-- how large a registry is: each from 1 to the number given
abbrev pub are_sizes_within : ℕ → ℕ → ℕ → Settings → Bool
are_sizes_within cpus slots changes s = is_within 1 cpus s.cpus && is_within 1 slots s.slots && is_within 1 changes s.change_limit

-- how far its counts may go, in the same way
abbrev pub are_limits_within : ℕ → ℕ → Settings → Bool
are_limits_within sections count s = is_within 1 sections s.section_limit && is_within 1 count s.passive_limit && is_within 1 count s.count_limit

abbrev pub are_sizes_fit : Settings → Bool
are_sizes_fit s = are_sizes_within MOST_CPUS MOST_SLOTS MOST_CHANGES s

abbrev pub are_limits_fit : Settings → Bool
are_limits_fit s = are_limits_within MOST_SECTIONS MOST_COUNT s

-- each setting is within the capacity
abbrev pub are_fit : Settings → Bool
are_fit s = are_sizes_fit s && are_limits_fit s

-- each setting is in its usual range
abbrev pub are_usual : Settings → Bool
are_usual s = are_sizes_within USUAL_CPUS USUAL_SLOTS USUAL_CHANGES s && are_limits_within USUAL_SECTIONS USUAL_COUNT s

-- What the capacity must leave: the usual ranges are within it, each number has its type's room, a count word in use is never 0, and no word passes its end.
pub record LimitsLeaveRoom : Type 0 where
  pub cpus : (USUAL_CPUS ≤ MOST_CPUS) × (MOST_CPUS ≤ 128)
  pub slots : (USUAL_SLOTS ≤ MOST_SLOTS) × (MOST_SLOTS ≤ 255)
  pub changes : (USUAL_CHANGES ≤ MOST_CHANGES) × (MOST_CHANGES ≤ 2 ^ 40)
  pub sections : (USUAL_SECTIONS ≤ MOST_SECTIONS) × (MOST_SECTIONS ≤ 2 ^ 62)
  pub counts : (USUAL_COUNT ≤ MOST_COUNT) × (MOST_COUNT ≤ 2 ^ 40)
  pub depth : (1 ≤ MOST_DEPTH) × (MOST_DEPTH ≤ 255)
  pub biased : MOST_CPUS * MOST_COUNT < BIAS
  pub summed : (MOST_CPUS + 2) * (BIAS + MOST_COUNT) < 2 ^ 60
