-- The bodies of the handles, to a contract. A CPU's handle has an `OnPlainCpu`, the keeper's an `OnPlainKeeper`.
use Rattle.std.specs.Prelude.{◌≡◌, ◌<◌, ℕ, Bool, true, false, Option, None, Some}
use Rattle.atomic_table.specs.Seated.{TableId}
use Rattle.c_handles.specs.Types.{ReferenceView, MOST_SLOTS}
use Rattle.registry_values.specs.Common.{kind_word}
use Rattle.cpu_words.specs.Common.{Named}
use Rattle.c_handles.specs.declared.values.plain.CEntry.{CEntry}
use Rattle.c_handles.specs.values.Texts.{entry_out, no_entry}

-- a local reference, and its table
pub record OnLocalBody : Type 0 where
  pub table : TableId
  pub reference : ReferenceView

-- it is of the registry with these words: its table is theirs, and its entry is in one of their slots
abbrev pub IsReferenceOf : Named → OnLocalBody → Type 0
IsReferenceOf w v = (v.table ≡ w.table) × (v.reference.entry.slot < w.settings.slots)

-- 1 where a release found its CPU's count collected, and else 0
abbrev pub back_word : Option ℕ → ℕ
back_word None = 0
back_word (Some place) = 1

-- What is kept beside the seat: the reference's number, slot and kind, and whether it came back.
-- Number and slot are an entry's.
pub record IsOurLocal (v : ReferenceView) (n t k b : ℕ) : Type 0 where
  pub number : n ≡ v.entry.number
  pub slot : t ≡ v.entry.slot
  pub kind : k ≡ kind_word v.entry.rec.kind
  pub back : b ≡ back_word v.collected
  pub begun : 0 < v.entry.number
  pub few : v.entry.slot < MOST_SLOTS

-- A local reference as C has it.

-- the reference, and whether it was copied: then it may be one of several, and the last one that is released is the reference's
pub record OnLocal : Type 0 where
  pub held : OnLocalBody
  pub copied : Bool

abbrev pub as_copied : OnLocal → OnLocal
as_copied v = record v { copied = true }

-- by what its block has, and what the block has that it shares
abbrev pub local_of : Option OnLocalBody → Option (Option OnLocalBody) → Option OnLocal
local_of (Some b) share = Some (record { held = b; copied = false })
local_of None (Some (Some b)) = Some (record { held = b; copied = true })
local_of None (Some None) = None
local_of None None = None

-- the entry beside it is the reference's
pub record IsEntryOf (v : OnLocalBody) (e : CEntry) : Type 0 where
  pub entry : e ≡ entry_out v.reference.entry
  pub begun : 0 < v.reference.entry.number
  pub few : v.reference.entry.slot < MOST_SLOTS

-- There is one block at most, and the entry is its reference's; or all is 0.
abbrev pub IsBeside : Option OnLocalBody → Option (Option OnLocalBody) → CEntry → Type 0
IsBeside None None e = e ≡ no_entry
IsBeside None (Some (Some v)) e = IsEntryOf v e
IsBeside None (Some None) e = ⊥
IsBeside (Some v) None e = IsEntryOf v e
IsBeside (Some v) (Some share) e = ⊥

-- a block that is shared has a reference
abbrev pub IsShared : Option OnLocalBody → Type 0
IsShared shared = (v : OnLocalBody) × (shared ≡ Some v)
