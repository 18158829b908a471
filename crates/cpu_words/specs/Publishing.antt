-- Publish and Unpublish by the keeper's seat, what it stores before, the driver that a slot keeps, and the live words.
use Rattle.std.specs.Prelude.{◌≡◌, ℕ, ◌-◌, slice_set, Some, None, suc, ◌+◌, ◌*◌, ◌<◌, ◌≤◌, true, false, List, length, replicate, slice_index_or, Option}
use Rattle.cpu_words.specs.Types.{Event, StoreSlot, StoreNext, Driver, MOST_CPUS, Entry, Attach, Detach, Replace, Publish, Unpublish, Republish, Slot, Vacant, Live, Retired, Rest, Snapshots, Show, Hide}
use Rattle.registry_values.specs.Common.{key_of, slot_at, is_taken, live_count, bias, no_mark}
use Rattle.protocol.specs.Common.{row_at, with_cell, with_word, kept_at, after_change, count_at, total_at, live_at, entry_of, keeps_rightly}
use Rattle.protocol.specs.History.{rank_at}
use Rattle.cpu_words.specs.declared.view.KeeperView.{KeeperView}
use Rattle.cpu_words.specs.declared.view.ReferenceView.{ReferenceView}
use Rattle.cpu_words.specs.declared.view.View.{View}
use Rattle.cpu_words.specs.declared.view.View.TheVariants.{Keeper}
use Rattle.cpu_words.specs.Views.{keeper_of, reference_of}
use Rattle.cpu_words.specs.Draining.{MayWrite}
use Rattle.cpu_words.specs.declared.layout.TheConstants.{HEAD, NEXTS, STRIDE}

-- The words of a slot that the keeper stores before it publishes an entry there.

-- the slot's record word j is v
abbrev pub HasRecordWord : KeeperView → ℕ → ℕ → ℕ → KeeperView → Type 0
HasRecordWord k t j v l = l ≡ record k { rows = slice_set k.rows t (with_word (row_at k.rows t) j v) }

-- the count word of the CPU c for it is v
abbrev pub HasCountWord : KeeperView → ℕ → ℕ → ℕ → KeeperView → Type 0
HasCountWord k t c v l = l ≡ record k { counts = with_cell k.counts t c v }

-- its link is v
abbrev pub HasLink : KeeperView → ℕ → ℕ → KeeperView → Type 0
HasLink k t v l = l ≡ record k { next = slice_set k.next t v }

-- what each store tells, by its event

abbrev pub RecordStored : Event → KeeperView → KeeperView → Type 0
RecordStored (StoreSlot t j v) k l = HasRecordWord k t j v l
RecordStored e k l = ⊥

abbrev pub CountStored : Event → KeeperView → KeeperView → Type 0
CountStored (StoreSlot t j v) k l = HasCountWord k t (j - 5) v l
CountStored e k l = ⊥

abbrev pub LinkStored : Event → KeeperView → KeeperView → Type 0
LinkStored (StoreNext t v) k l = HasLink k t v l
LinkStored e k l = ⊥

-- A slot keeps a reference to a driver: the reference's seat is joined into the keeper's.

-- the keeper may write into the slot, which keeps nothing, and the reference is to a driver
pub record MayKeep (k : KeeperView) (t : ℕ) (v : ReferenceView) : Type 0 where
  pub write : MayWrite k t
  pub nothing : kept_at k.keeps t ≡ None
  pub driver : v.entry.rec.kind ≡ Driver

-- the slot keeps the reference
abbrev pub keeper_after_keep : KeeperView → ℕ → ReferenceView → KeeperView
keeper_after_keep k t v = record k { keeps = slice_set k.keeps t (Some v.entry.number) }

-- the keeper's view as a reference is joined into it, to be kept by the slot t
abbrev pub with_kept : ℕ → View → View → View
with_kept t v u = Keeper (keeper_after_keep (keeper_of v) t (reference_of u))

-- Publish and Unpublish by the keeper's seat: one store of a link each, which the keeper knows from the live numbers of its own view.

-- the link x leads to the greatest live rank below n, or to the end where there is none
pub data LeadsBelow (rank : ℕ → ℕ) (slots : List Slot) (n : ℕ) : ℕ → Type 0 where
  To_end : ((t : ℕ) (f : Entry) → slot_at slots t ≡ Live f → rank f.number < n → ⊥) → LeadsBelow rank slots n 0
  To_slot : (t : ℕ) (f : Entry) → slot_at slots t ≡ Live f → rank f.number < n → ((u : ℕ) (h : Entry) → slot_at slots u ≡ Live h → rank h.number < n → rank h.number ≤ rank f.number)
      → LeadsBelow rank slots n (suc t)

-- the slot of the live entry with the least rank above n, or none where there is none
abbrev pub IsBefore : (ℕ → ℕ) → List Slot → ℕ → Option ℕ → Type 0
IsBefore rank slots n None = (t : ℕ) (f : Entry) → slot_at slots t ≡ Live f → rank f.number ≤ n
IsBefore rank slots n (Some q) = (f : Entry) × (slot_at slots q ≡ Live f) × (n < rank f.number) × ((u : ℕ) (h : Entry) → slot_at slots u ≡ Live h → n < rank h.number → rank f.number ≤ rank h.number)

-- Publish

-- all is stored in the vacant slot t that the entry e needs: its record, its counts, its total, its link to the newest live entry, and the driver that it keeps
pub record MayPublish (k : KeeperView) (t : ℕ) (e : Entry) : Type 0 where
  pub rest : k.due ≡ Rest
  pub slot : t < k.settings.slots
  pub vacant : slot_at k.slots t ≡ Vacant
  pub entry : entry_of t (row_at k.rows t) ≡ Some e
  pub number : e.number ≡ suc (length k.history)
  pub free : is_taken (key_of e) k.slots ≡ false
  pub room : length k.history + live_count k.slots + 2 ≤ k.settings.change_limit
  pub link : LeadsBelow (rank_at k.history) k.slots (suc (length k.history)) (slice_index_or k.next t 0)
  pub counts : (c : ℕ) → c < k.settings.cpus → count_at k.counts c t ≡ bias
  pub total : total_at k.totals t ≡ bias
  pub keeps : keeps_rightly (kept_at k.keeps t) e.rec.kind ≡ true

-- the head leads to the slot t, whose entry e is live, and the history ends with its attach
abbrev pub HasPublished : KeeperView → ℕ → Entry → KeeperView → Type 0
HasPublished k t e l = l ≡ record k { head = t + 1; history = after_change k.history (Attach e); slots = slice_set k.slots t (Live e) }

-- what a publishing tells, by its event
abbrev pub PublishTold : Event → KeeperView → KeeperView → Type 0
PublishTold (Publish t) k l = (e : Entry) × MayPublish k t e × HasPublished k t e l
PublishTold e k l = ⊥

-- Unpublish

-- the link of the entry before, or the head where there is none
abbrev pub link_index : Option ℕ → ℕ
link_index None = HEAD
link_index (Some q) = NEXTS + STRIDE * q

-- the slot is one of a table with so many
abbrev pub IsLinkPlace : ℕ → Option ℕ → Type 0
IsLinkPlace slots None = Unit {0}
IsLinkPlace slots (Some q) = q < slots

-- the slot t is live, p is the slot before it, and the link v leads to what is below it; and its live word is 0
pub record MayUnpublish (k : KeeperView) (t : ℕ) (p : Option ℕ) (v : ℕ) : Type 0 where
  pub rest : k.due ≡ Rest
  pub e : Entry
  pub live : slot_at k.slots t ≡ Live e
  pub before : IsBefore (rank_at k.history) k.slots (rank_at k.history e.number) p
  pub link : LeadsBelow (rank_at k.history) k.slots (rank_at k.history e.number) v
  pub hidden : live_at k.lives t ≡ 0

-- the head and the links, as the link v is stored where the slot before tells
abbrev pub head_with : ℕ → Option ℕ → ℕ → ℕ
head_with head None v = v
head_with head (Some q) v = head

abbrev pub links_with : List ℕ → Option ℕ → ℕ → List ℕ
links_with next None v = next
links_with next (Some q) v = slice_set next q v

-- the link before the slot t leads past it; its entry e is retired without marks, and all snapshots are due
abbrev pub keeper_after_unpublish : KeeperView → ℕ → Entry → Option ℕ → ℕ → KeeperView
keeper_after_unpublish k t e p v = record k {
  head = head_with k.head p v;
  next = links_with k.next p v;
  history = after_change k.history (Detach e.number);
  slots = slice_set k.slots t (Retired e);
  marks = slice_set k.marks t (replicate MOST_CPUS no_mark);
  due = Snapshots t 0;
}

abbrev pub HasUnpublished : KeeperView → ℕ → Option ℕ → ℕ → KeeperView → Type 0
HasUnpublished k t p v l = (e : Entry) × (slot_at k.slots t ≡ Live e) × (l ≡ keeper_after_unpublish k t e p v)

-- what an unpublishing tells, by its event and the word stored
abbrev pub UnpublishTold : Event → ℕ → ℕ → KeeperView → KeeperView → Type 0
UnpublishTold (Unpublish t) w v k l = (p : Option ℕ) → link_index p ≡ w → HasUnpublished k t p v l
UnpublishTold e w v k l = ⊥

-- Republish

-- all is stored in the vacant slot t that the entry e needs to take the place of the slot u's live one, f: its link leads where f's does, and p is the slot before u
pub record MayRepublish (k : KeeperView) (t u : ℕ) (p : Option ℕ) : Type 0 where
  pub rest : k.due ≡ Rest
  pub slot : t < k.settings.slots
  pub vacant : slot_at k.slots t ≡ Vacant
  pub e : Entry
  pub entry : entry_of t (row_at k.rows t) ≡ Some e
  pub number : e.number ≡ suc (length k.history)
  pub f : Entry
  pub live : slot_at k.slots u ≡ Live f
  pub alike : key_of e ≡ key_of f
  pub room : length k.history + live_count k.slots + 2 ≤ k.settings.change_limit
  pub before : IsBefore (rank_at k.history) k.slots (rank_at k.history f.number) p
  pub link : LeadsBelow (rank_at k.history) k.slots (rank_at k.history f.number) (slice_index_or k.next t 0)
  pub hidden : live_at k.lives u ≡ 0
  pub counts : (c : ℕ) → c < k.settings.cpus → count_at k.counts c t ≡ bias
  pub total : total_at k.totals t ≡ bias
  pub keeps : keeps_rightly (kept_at k.keeps t) e.rec.kind ≡ true

-- the link before the slot u leads to t; its entry f is retired without marks, and all snapshots are due
abbrev pub keeper_after_republish : KeeperView → ℕ → ℕ → Entry → Entry → Option ℕ → KeeperView
keeper_after_republish k t u e f p = record k {
  head = head_with k.head p (t + 1);
  next = links_with k.next p (t + 1);
  history = after_change k.history (Replace f.number (rank_at k.history f.number) e);
  slots = slice_set (slice_set k.slots t (Live e)) u (Retired f);
  marks = slice_set k.marks u (replicate MOST_CPUS no_mark);
  due = Snapshots u 0;
}

abbrev pub HasRepublished : KeeperView → ℕ → ℕ → Option ℕ → KeeperView → Type 0
HasRepublished k t u p l = (e : Entry) × (f : Entry) × (entry_of t (row_at k.rows t) ≡ Some e) × (slot_at k.slots u ≡ Live f) × (l ≡ keeper_after_republish k t u e f p)

-- what a replacing tells, by its event and where its word is stored
abbrev pub RepublishTold : Event → ℕ → KeeperView → KeeperView → Type 0
RepublishTold (Republish t u) w k l = (p : Option ℕ) → link_index p ≡ w → HasRepublished k t u p l
RepublishTold e w k l = ⊥

-- The live words, by the keeper's seat: it stores the number of an entry once it is published, and 0 before it is unpublished.

-- the live word of the slot t is v
abbrev pub keeper_after_live : KeeperView → ℕ → ℕ → KeeperView
keeper_after_live k t v = record k { lives = slice_set k.lives t v }

-- n is the number of the slot's live entry
pub record MayShow (k : KeeperView) (t n : ℕ) : Type 0 where
  pub rest : k.due ≡ Rest
  pub entry : Entry
  pub live : slot_at k.slots t ≡ Live entry
  pub number : entry.number ≡ n

pub record MayHide (k : KeeperView) (t : ℕ) : Type 0 where
  pub rest : k.due ≡ Rest
  pub slot : t < k.settings.slots

-- what the step tells that stored v, by its event
abbrev pub LiveTold : Event → ℕ → KeeperView → KeeperView → Type 0
LiveTold (Show t) v k l = l ≡ keeper_after_live k t v
LiveTold (Hide t) v k l = l ≡ keeper_after_live k t v
LiveTold e v k l = ⊥
