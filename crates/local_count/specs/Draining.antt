-- The keeper's side of local references (localcount(9)): what its calls leave of the keeper.
use Rattle.std.specs.Prelude.{◌≡◌, ℕ, ◌+◌, ◌-◌, List, ◌++◌, slice_set, position, Option, Some, None}
use Rattle.passive_list.specs.Types.{Entry, Collect, TotalAdd, TotalSub, JoinKeeper, Keep, KeptSub, Done, Word, Vacant, Retired, Adding, KeeperView, ReferenceView, Keeper, Reference}
use Rattle.registry_values.specs.Common.{has_number, slot_at, bias}
use Rattle.registry_values.specs.Slots.{mark_after_collect as collected_mark}
use Rattle.protocol.specs.Common.{held_at, State, with_cell, mark_at, total_at}
use Rattle.cpu_words.specs.Common.{IsAttachedKeeping, IsFreedFrom, keeper_after_join, HasKeptSub, keeper_after_keep, Good, did, Makes, JoinsBy, KeeperShown, one_more}
use Rattle.passive_list.specs.declared.keeper.KeptSlot.{KeptSlot}
use Rattle.passive_list.specs.Common.{OnKeeper, state_of, HasAttached, HasReplacedIn}

-- Collecting

-- the count word w of the CPU c was collected, and is to be added
abbrev pub keeper_after_collect : KeeperView → ℕ → ℕ → ℕ → KeeperView
keeper_after_collect k t c w = record k { marks = with_cell k.marks t c (collected_mark (mark_at k.marks t c)); due = Adding t w }

-- the word was collected, and added to the total of the slot without its bias; nothing else changes
pub record HasCollectedInto (a : OnKeeper) (t c : ℕ) (b : OnKeeper) : Type 0 where
  pub word : ℕ
  pub collected : Makes (Collect t c) (Word word) (Keeper a.view) (Keeper (keeper_after_collect a.view t c word))
  pub added : Makes (TotalAdd t) Done (Keeper (keeper_after_collect a.view t c word)) (Keeper b.view)
  pub view : b.view ≡ record a.view { marks = with_cell a.view.marks t c (collected_mark (mark_at a.view.marks t c)); totals = slice_set a.view.totals t (total_at a.view.totals t + word - bias) }
  pub slots : b.slots ≡ a.slots
  pub log : b.log ≡ a.log ++ did (Collect t c) (Word word) ++ did (TotalAdd t) Done

-- the local references held to the retired entry in the slot t are n, in any state of the core that shows the keeper's view
pub record AreHeld (k : KeeperView) (t n : ℕ) : Type 0 where
  pub e : Entry
  pub retired : slot_at k.slots t ≡ Retired e
  pub held : (g : State) → Good g → KeeperShown g k → held_at g.locals g.hands g.keeps g.due e.number t ≡ n

-- Giving up under the interlock

-- the reference was given up: the total of its entry's slot is one less; nothing else changes
pub record HasGivenUp (a : OnKeeper) (v : ReferenceView) (b : OnKeeper) : Type 0 where
  pub joined : JoinsBy JoinKeeper (Keeper a.view) (Reference v) (Keeper (keeper_after_join a.view v))
  pub subtracted : Makes (TotalSub v.entry.slot) Done (Keeper (keeper_after_join a.view v)) (Keeper b.view)
  pub view : b.view ≡ record a.view { totals = slice_set a.view.totals v.entry.slot (total_at a.view.totals v.entry.slot - 1); given_up = one_more a.view.given_up v.entry.number }
  pub slots : b.slots ≡ a.slots
  pub log : b.log ≡ a.log ++ did (JoinKeeper v.entry.number) Done ++ did (TotalSub v.entry.slot) Done

-- Interfaces

-- the slot keeps the reference, and then the entry is published in it
pub record HasAttachedKeeping (a : OnKeeper) (v : ReferenceView) (e : Entry) (b : OnKeeper) : Type 0 where
  pub kept : JoinsBy (Keep e.slot) (Keeper a.view) (Reference v) (Keeper (keeper_after_keep a.view e.slot v))
  pub attached : HasAttached (record a { view = keeper_after_keep a.view e.slot v }) e b
  -- by the log
  pub keeping : IsAttachedKeeping e.slot e.number v.entry.number b.log

-- the slot keeps the reference, and then the entry takes the place of f in the slot u
pub record HasReplacedKeeping (a : OnKeeper) (v : ReferenceView) (u : ℕ) (f e : Entry) (b : OnKeeper) : Type 0 where
  pub kept : JoinsBy (Keep e.slot) (Keeper a.view) (Reference v) (Keeper (keeper_after_keep a.view e.slot v))
  pub replaced : HasReplacedIn (record a { view = keeper_after_keep a.view e.slot v }) u f e b
  -- by the log
  pub keeping : IsAttachedKeeping e.slot e.number v.entry.number b.log

-- the row that shows the live or retired entry n
abbrev pub place_of : ℕ → List KeptSlot → Option ℕ
place_of n rows = position (λ r. has_number n (state_of r)) rows

-- and the one with the number kept
abbrev pub kept_slot : Option ℕ → List KeptSlot → Option ℕ
kept_slot None rows = None
kept_slot (Some d) rows = place_of d rows

-- the interface's slot is vacant, and the reference that it kept to the driver in the slot u is given up; the interface is gone from there, by the log
pub record HasFreed (a : OnKeeper) (t : ℕ) (b : OnKeeper) : Type 0 where
  pub u : ℕ
  pub made : Makes (KeptSub t) Done (Keeper a.view) (Keeper b.view)
  pub view : HasKeptSub a.view t u b.view
  pub slots : b.slots ≡ slice_set a.slots t Vacant
  pub log : b.log ≡ a.log ++ did (KeptSub t) Done
  pub freed : (e : Entry) → slot_at a.slots t ≡ Retired e → IsFreedFrom t e.number b.log
