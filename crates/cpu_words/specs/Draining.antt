-- Draining by the keeper's seat (psref(9), localcount(9)): snapshots, looks, counts, and the slot that becomes vacant.
use Rattle.std.specs.Prelude.{◌≡◌, ℕ, suc, ◌+◌, ◌<◌, nat_lt, if◌then◌else◌, Some, None, [], replicate, slice_index_or, slice_set, true, ◌-◌, ◌⊎◌, List, false}
use Rattle.cpu_words.specs.Types.{Entry, Event, Look, Snapshot, Word, Reply, Retired, Due, Rest, Snapshots, Settings, MOST_CPUS, Vacate, Vacant, Iface, PassiveLook, Collect, TotalAdd, TotalSub, KeptSub, Mark, Slot, Adding, Subtracting}
use Rattle.registry_values.specs.Common.{slot_at, mark_after_look, bias, have_passed, are_clear, are_collected, slot_of, mark_after_passive_look, mark_after_collect}
use Rattle.protocol.specs.Common.{mark_at, with_cell, snapshot_mark, total_at, kept_at}
use Rattle.cpu_words.specs.declared.view.KeeperView.{KeeperView}
use Rattle.cpu_words.specs.declared.view.ReferenceView.{ReferenceView}
use Rattle.cpu_words.specs.declared.view.View.{View}
use Rattle.cpu_words.specs.declared.view.View.TheVariants.{Keeper}
use Rattle.cpu_words.specs.Views.{one_more, keeper_of, reference_of}

-- Grace by the keeper's seat: snapshots, looks, and what they leave in its view.

-- the keeper is at rest, and the CPU is one of the table's
pub record MayGlance (k : KeeperView) (c : ℕ) : Type 0 where
  pub rest : k.due ≡ Rest
  pub cpu : c < k.settings.cpus

-- .. and the slot's entry is retired
pub record MayLook (k : KeeperView) (t c : ℕ) : Type 0 where
  pub glance : MayGlance k c
  pub retired : (e : Entry) × (slot_at k.slots t ≡ Retired e)

-- one more look, and its answer
abbrev pub keeper_after_look : KeeperView → Event → Reply → KeeperView
keeper_after_look k e r = record k { looks = suc k.looks; last_look = Some (record { event = e; reply = r }) }

-- the CPU's mark says what its section word, which was w, tells
abbrev pub HasLooked : KeeperView → Event → Reply → ℕ → ℕ → ℕ → KeeperView → Type 0
HasLooked k e r t c w l = l ≡ record (keeper_after_look k e r) { marks = with_cell k.marks t c (mark_after_look (mark_at k.marks t c) w) }

-- the keeper must take the snapshot of the CPU c for t next
abbrev pub MaySnapshot : KeeperView → ℕ → ℕ → Type 0
MaySnapshot k t c = k.due ≡ Snapshots t c

-- what it must do after the snapshot of c
abbrev pub due_next : Settings → ℕ → ℕ → Due
due_next z t c = if nat_lt (c + 1) z.cpus then Snapshots t (c + 1) else Rest

-- the snapshot of the CPU c for t is w
abbrev pub HasSnapshot : KeeperView → ℕ → ℕ → ℕ → KeeperView → Type 0
HasSnapshot k t c w l = l ≡ record k { marks = with_cell k.marks t c (snapshot_mark w); due = due_next k.settings t c }

-- what a load of a section word tells, by its event
abbrev pub LookTold : Event → KeeperView → ℕ → KeeperView → Type 0
LookTold (Look (Some t) c) k w l = HasLooked k (Look (Some t) c) (Word w) t c w l
LookTold (Look None c) k w l = l ≡ keeper_after_look k (Look None c) (Word w)
LookTold (Snapshot (Some t) c) k w l = HasSnapshot k t c w l
LookTold (Snapshot None c) k w l = l ≡ keeper_after_look k (Snapshot None c) (Word w)
LookTold e k w l = ⊥

-- A retired slot with all its marks is vacated, and a vacant slot may be written. Vacate changes no word: the load that tells of it is one of the head.

-- all marks are set, nothing is held, and no keeper's operation is half done
pub record IsDrained (k : KeeperView) (t : ℕ) : Type 0 where
  pub rest : k.due ≡ Rest
  pub retired : (e : Entry) × (slot_at k.slots t ≡ Retired e)
  pub passed : have_passed k.settings.cpus (slice_index_or k.marks t []) ≡ true
  pub clear : are_clear k.settings.cpus (slice_index_or k.marks t []) ≡ true
  pub collected : are_collected k.settings.cpus (slice_index_or k.marks t []) ≡ true
  pub total : total_at k.totals t ≡ bias

pub record MayVacate (k : KeeperView) (t : ℕ) : Type 0 where
  pub drained : IsDrained k t
  pub keeps_nothing : kept_at k.keeps t ≡ None

-- its count words are 0, as they were collected
abbrev pub keeper_after_vacate : KeeperView → ℕ → KeeperView
keeper_after_vacate k t = record k { slots = slice_set k.slots t Vacant; counts = slice_set k.counts t (replicate MOST_CPUS 0) }

-- the keeper is at rest and has the slot as vacant: it may write into it
pub record MayWrite (k : KeeperView) (t : ℕ) : Type 0 where
  pub rest : k.due ≡ Rest
  pub slot : t < k.settings.slots
  pub vacant : slot_at k.slots t ≡ Vacant

-- what the step tells, by its event
abbrev pub VacateTold : Event → KeeperView → KeeperView → Type 0
VacateTold (Vacate t) k l = l ≡ keeper_after_vacate k t
VacateTold e k l = ⊥

-- Draining by the keeper's seat (psref(9), localcount(9)): where it may make the step, and what changes in its view.

-- the marks of all CPUs for a slot
abbrev pub row_of : KeeperView → ℕ → List Mark
row_of k t = slice_index_or k.marks t []

-- Passive references

-- the slot's entry is retired, and all CPUs have passed
pub record MayPassiveLook (k : KeeperView) (t c : ℕ) : Type 0 where
  pub look : MayLook k t c
  pub passed : have_passed k.settings.cpus (slice_index_or k.marks t []) ≡ true

-- the CPU's mark is clear once its passive word, which was w, was 0
abbrev pub HasLookedPassive : KeeperView → ℕ → ℕ → ℕ → KeeperView → Type 0
HasLookedPassive k t c w l = l ≡ record (keeper_after_look k (PassiveLook t c) (Word w)) { marks = with_cell k.marks t c (mark_after_passive_look (mark_at k.marks t c) w) }

-- Local references

-- all CPUs have passed and are clear, and the CPU's word isn't collected
pub record MayCollect (k : KeeperView) (t c : ℕ) : Type 0 where
  pub look : MayLook k t c
  pub passed : have_passed k.settings.cpus (row_of k t) ≡ true
  pub clear : are_clear k.settings.cpus (row_of k t) ≡ true
  pub uncollected : (mark_at k.marks t c).collected ≡ false

-- the CPU's count word, which was w, is collected, and is to be added to the total
abbrev pub HasCollected : KeeperView → ℕ → ℕ → ℕ → KeeperView → Type 0
HasCollected k t c w l = l ≡ record k { marks = with_cell k.marks t c (mark_after_collect (mark_at k.marks t c)); due = Adding t w }

-- the collected word `old` is to be added, and the value is the total with it, less its bias
pub record MayTotalAdd (k : KeeperView) (t old value : ℕ) : Type 0 where
  pub due : k.due ≡ Adding t old
  pub sum : value ≡ total_at k.totals t + old - bias

-- the slot's total is the value, and the keeper is at rest
abbrev pub HasAdded : KeeperView → ℕ → ℕ → KeeperView → Type 0
HasAdded k t value l = l ≡ record k { totals = slice_set k.totals t value; due = Rest }

-- a release found a count word of the reference's entry collected, or its number is retired in a slot with a collected count
abbrev pub IsFoundCollected : List Slot → List (List Mark) → ReferenceView → Type 0
IsFoundCollected slots marks v = ((c : ℕ) × (v.collected ≡ Some c)) ⊎ ((t : ℕ) × (c : ℕ) × (e : Entry) × (slot_at slots t ≡ Retired e) × (e.number ≡ v.entry.number) × ((mark_at marks t c).collected ≡ true))

-- and the keeper is at rest
pub record MayJoinKeeper (k : KeeperView) (v : ReferenceView) : Type 0 where
  pub rest : k.due ≡ Rest
  pub is_collected : IsFoundCollected k.slots k.marks v

-- a reference is given up: it is to be subtracted from the total of its entry's slot
abbrev pub keeper_after_join : KeeperView → ReferenceView → KeeperView
keeper_after_join k v = record k { due = Subtracting v.entry.slot; given_up = one_more k.given_up v.entry.number }

abbrev pub with_given_up : View → View → View
with_given_up v u = Keeper (keeper_after_join (keeper_of v) (reference_of u))

abbrev pub MayTotalSub : KeeperView → ℕ → Type 0
MayTotalSub k t = k.due ≡ Subtracting t

-- the slot's total is one less, for the reference to its entry that was given up, and the keeper is at rest
abbrev pub HasSubtracted : KeeperView → ℕ → KeeperView → Type 0
HasSubtracted k t l = (e : Entry) × (slot_at k.slots t ≡ Retired e) × (l ≡ record k { totals = slice_set k.totals t (total_at k.totals t - 1); due = Rest })

-- The end of a drain

-- the slot t keeps a reference to the driver d, which is in the slot u
abbrev pub KeepsIn : KeeperView → ℕ → ℕ → ℕ → Type 0
KeepsIn k t d u = (kept_at k.keeps t ≡ Some d) × (slot_of k.slots d ≡ Some u)

pub record MayKeptSub (k : KeeperView) (t u : ℕ) : Type 0 where
  pub drained : IsDrained k t
  pub kind : drained.retired.0.rec.kind ≡ Iface
  pub kept : (d : ℕ) × KeepsIn k t d u

-- the total of the driver's slot u is one less, for the reference that the slot t kept and that is given up, and t is vacant and keeps nothing
abbrev pub HasKeptSub : KeeperView → ℕ → ℕ → KeeperView → Type 0
HasKeptSub k t u l = (d : ℕ) × KeepsIn k t d u × (l ≡ record k {
  totals = slice_set k.totals u (total_at k.totals u - 1);
  slots = slice_set k.slots t Vacant;
  keeps = slice_set k.keeps t None;
  counts = slice_set k.counts t (replicate MOST_CPUS 0);
  given_up = one_more k.given_up d;
})

-- what a step tells, by its event

abbrev pub LookedPassiveTold : Event → KeeperView → ℕ → KeeperView → Type 0
LookedPassiveTold (PassiveLook t c) k w l = HasLookedPassive k t c w l
LookedPassiveTold e k w l = ⊥

abbrev pub CollectTold : Event → KeeperView → ℕ → KeeperView → Type 0
CollectTold (Collect t c) k w l = HasCollected k t c w l
CollectTold e k w l = ⊥

abbrev pub TotalAddTold : Event → KeeperView → ℕ → KeeperView → Type 0
TotalAddTold (TotalAdd t) k w l = HasAdded k t w l
TotalAddTold e k w l = ⊥

abbrev pub TotalSubTold : Event → KeeperView → KeeperView → Type 0
TotalSubTold (TotalSub t) k l = HasSubtracted k t l
TotalSubTold e k l = ⊥

abbrev pub KeptSubTold : Event → KeeperView → KeeperView → Type 0
KeptSubTold (KeptSub t) k l = (u : ℕ) × HasKeptSub k t u l
KeptSubTold e k l = ⊥
