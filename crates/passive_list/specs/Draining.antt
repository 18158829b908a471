-- A retired slot that is drained, as the keeper has it, and what it leaves vacant.
use Rattle.std.specs.Prelude.{◌≡◌, ℕ, List, ◌++◌, slice_set, None, Bool, ◌&&◌, ◌==◌}
use Rattle.passive_list.specs.Types.{Entry, Done, Vacant, Retired, Keeper, Mark, Hear, Vacate}
use Rattle.registry_values.specs.Common.{slot_at, bias, is_retired, have_passed, are_clear, are_collected}
use Rattle.cpu_words.specs.Common.{IsFreedFrom, did, Makes, IsDrained, keeper_after_vacate}
use Rattle.passive_list.specs.declared.keeper.KeptSlot.{KeptSlot}
use Rattle.passive_list.specs.Keepers.{OnKeeper, total_or_bias}

-- it is retired in the keeper's slots, so it wasn't vacated yet, and all marks and the total are those of a drained slot
pub record IsDrainedOn (x : OnKeeper) (t : ℕ) : Type 0 where
  pub retired : (e : Entry) × (slot_at x.slots t ≡ Retired e)
  pub drained : IsDrained x.view t

-- the row and the marks of a slot say so
abbrev pub is_drained_row : ℕ → KeptSlot → List Mark → Bool
is_drained_row cpus r marks = is_retired r.state && (have_passed cpus marks && (are_clear cpus marks && (are_collected cpus marks && total_or_bias r == bias)))

-- the slot is vacant: Vacate, and a Hear; the entry that it had is gone from there, by the log
pub record HasVacated (a : OnKeeper) (t : ℕ) (b : OnKeeper) : Type 0 where
  pub made : Makes (Vacate t) Done (Keeper a.view) (Keeper b.view)
  pub heard : Makes (Hear None) Done (Keeper b.view) (Keeper b.view)
  pub view : b.view ≡ keeper_after_vacate a.view t
  pub slots : b.slots ≡ slice_set a.slots t Vacant
  pub log : b.log ≡ a.log ++ did (Vacate t) Done ++ did (Hear None) Done
  pub freed : (e : Entry) → slot_at a.slots t ≡ Retired e → IsFreedFrom t e.number b.log
