-- The events that a command makes, one after the other, and which parts two states have in common.
use Rattle.std.specs.Prelude.{◌≡◌, ℕ, zero, suc, ◌+◌, ◌-◌, ◌⊎◌, List, [], ◌∷◌, ◌++◌, All, Option, Some, None, Result, Ok, Err}
use Rattle.passive_core.specs.Types.{Entry, Refusal, StillHeld, Stage, Grace, Passive, Local, Freed, Event, Seat, Seek, LoadRecord, StoreSlot, StoreNext, Publish, Unpublish, Tell, Hear, Snapshot, Look, PassiveLook, Collect, TotalAdd, Keep, KeptSub, Vacate, RecordOf, Key}
use Rattle.registry_values.specs.Common.{bias, kind_word, retired_slot}
use Rattle.protocol.specs.Common.{IsLoadOf, State, Outcome, narrow_step}

-- Each event is allowed once those before it were made, and new is what they leave of old.
abbrev pub Makes : State → List Event → State → Type 0
Makes old [] new = new ≡ old
Makes old (event ∷ events) new = (o : Outcome) × (narrow_step old event ≡ Some o) × Makes o.state events new

-- Some events lead from old to new, and each is of one kind.
pub record MakesOnly (P : Event → Type 0) (old new : State) : Type 0 where
  pub events : List Event
  pub kind : All P events
  pub made : Makes old events new

-- the seats of so many CPUs, from c on
abbrev pub seats_from : ℕ → ℕ → List Event
seats_from c zero = []
seats_from c (suc n) = Seat c ∷ seats_from (c + 1) n

-- The seats of all CPUs that have none yet, and then these events.
abbrev pub seats_and : State → List Event → List Event
seats_and s events = seats_from s.seated (s.settings.cpus - s.seated) ++ events

-- the loads of a record's words 1 to 4
abbrev pub record_loads : (ℕ → RecordOf) → List Event
record_loads of = LoadRecord (of 1) ∷ LoadRecord (of 2) ∷ LoadRecord (of 3) ∷ LoadRecord (of 4) ∷ []

-- The events of a lookup of c: the seats, the start of its search, and loads of that search.
abbrev pub FindMakes : State → State → ℕ → Key → Type 0
FindMakes old new c key = (loads : List Event) × All (IsLoadOf c) loads × Makes old (seats_and old (Seek c key.kind key.name ∷ loads)) new

-- the snapshots for the slot t of so many CPUs, from c on
abbrev pub snapshots_from : ℕ → ℕ → ℕ → List Event
snapshots_from t c zero = []
snapshots_from t c (suc n) = Snapshot (Some t) c ∷ snapshots_from t (c + 1) n

-- The events of a detach by c of the entry in the slot t, once all CPUs are seated: c tells the keeper of its pass, the entry is unlinked
-- and each CPU's snapshot taken, and c hears of it.
abbrev pub detach_events : ℕ → ℕ → ℕ → List Event
detach_events cpus c t = Tell (Some c) ∷ Hear None ∷ Unpublish t ∷ (snapshots_from t 0 cpus ++ Tell None ∷ Hear (Some c) ∷ [])

-- Attaches

-- the stores of the words of e's record
abbrev pub record_stores : Entry → List Event
record_stores e = StoreSlot e.slot 0 e.number ∷ StoreSlot e.slot 1 (kind_word e.rec.kind) ∷ StoreSlot e.slot 2 e.rec.name.high ∷ StoreSlot e.slot 3 e.rec.name.low ∷ StoreSlot e.slot 4 e.rec.value ∷ []

-- the stores of the bias to the slot t's counts of so many CPUs, from c on
abbrev pub count_stores_from : ℕ → ℕ → ℕ → List Event
count_stores_from t c zero = []
count_stores_from t c (suc n) = StoreSlot t (5 + c) bias ∷ count_stores_from t (c + 1) n

-- All words of e's slot: its record, its counts, and its link to the entry that is the newest in s.
abbrev pub prepare_events : State → Entry → List Event
prepare_events s e = record_stores e ++ (count_stores_from e.slot 0 s.settings.cpus ++ StoreNext e.slot s.head ∷ [])

-- The words of e's slot are stored, e is linked, and c hears of it.
abbrev pub linking_events : State → ℕ → Entry → List Event
linking_events s c e = prepare_events s e ++ Publish e.slot ∷ Tell None ∷ Hear (Some c) ∷ []

-- The events of an attach of e by c, once all CPUs are seated: c tells the keeper of its pass, and e is linked.
abbrev pub attach_events : State → ℕ → Entry → List Event
attach_events s c e = Tell (Some c) ∷ Hear None ∷ linking_events s c e

-- An interface's slot takes the reference over before its first word is stored.
abbrev pub attach_iface_events : State → ℕ → ℕ → Entry → List Event
attach_iface_events s c id e = Tell (Some c) ∷ Hear None ∷ Keep e.slot id ∷ linking_events s c e

-- By the answer: none where it is refused.
abbrev pub AttachMakes : State → State → (Entry → List Event) → Result Entry Refusal → Type 0
AttachMakes old new events (Ok e) = Makes old (seats_and old (events e)) new
AttachMakes old new events (Err refusal) = Makes old [] new

-- The work on the slot t

abbrev pub IsSeat : Event → Type 0
IsSeat event = (c : ℕ) × (event ≡ Seat c)

-- a look at a section word for the slot, or a seat
abbrev pub IsLookFor : ℕ → Event → Type 0
IsLookFor t event = IsSeat event ⊎ ((c : ℕ) × (event ≡ Look (Some t) c))

-- or a look at a passive word
abbrev pub IsPassiveLookFor : ℕ → Event → Type 0
IsPassiveLookFor t event = IsLookFor t event ⊎ ((c : ℕ) × (event ≡ PassiveLook t c))

-- or a swap of a count word for 0, or its addition to the total
abbrev pub IsCollectionFor : ℕ → Event → Type 0
IsCollectionFor t event = IsPassiveLookFor t event ⊎ (((c : ℕ) × (event ≡ Collect t c)) ⊎ (event ≡ TotalAdd t))

-- or the end of the slot's use
abbrev pub IsFreeingOf : ℕ → Event → Type 0
IsFreeingOf t event = IsCollectionFor t event ⊎ ((event ≡ KeptSub t) ⊎ (event ≡ Vacate t))

-- what the work is made of that came so far
abbrev pub IsWork : Stage → ℕ → Event → Type 0
IsWork (Grace c) t event = IsLookFor t event
IsWork (Passive c) t event = IsPassiveLookFor t event
IsWork (Local k) t event = IsCollectionFor t event
IsWork (Freed u) t event = IsFreeingOf t event

-- The events of an advance, by its answer: none where it is refused.
abbrev pub AdvanceMakes : State → State → ℕ → Result Stage Refusal → Type 0
AdvanceMakes old new n (Err refusal) = Makes old [] new
AdvanceMakes old new n (Ok stage) = (t : ℕ) × (retired_slot old.slots n ≡ Some t) × MakesOnly (IsWork stage t) old new

-- The events of a destroy, by its answer.
abbrev pub HeldMakes : State → State → ℕ → Refusal → Type 0
HeldMakes old new n (StillHeld stage) = AdvanceMakes old new n (Ok stage)
HeldMakes old new n _ = Makes old [] new

abbrev pub DestroyMakes : State → State → ℕ → Result ℕ Refusal → Type 0
DestroyMakes old new n (Ok t) = AdvanceMakes old new n (Ok (Freed t))
DestroyMakes old new n (Err refusal) = HeldMakes old new n refusal

-- a seat, or a load of a section word that isn't the snapshot of an entry
abbrev pub IsWaiting : Event → Type 0
IsWaiting event = IsSeat event ⊎ (((c : ℕ) × (event ≡ Snapshot None c)) ⊎ ((to : Option ℕ) × (c : ℕ) × (event ≡ Look to c)))

-- Which parts two states have in common.

-- the list, its slots, their marks, the history, and the live words
pub record HaveSameSlots (s t : State) : Type 0 where
  pub head : s.head ≡ t.head
  pub next : s.next ≡ t.next
  pub rows : s.rows ≡ t.rows
  pub slots : s.slots ≡ t.slots
  pub marks : s.marks ≡ t.marks
  pub history : s.history ≡ t.history
  pub lives : s.lives ≡ t.lives

-- what counts references, and the local references
pub record HaveSameCounts (s t : State) : Type 0 where
  pub passive : s.passive ≡ t.passive
  pub counts : s.counts ≡ t.counts
  pub totals : s.totals ≡ t.totals
  pub nets : s.nets ≡ t.nets
  pub keeps : s.keeps ≡ t.keeps
  pub locals : s.locals ≡ t.locals

-- the sections of the CPUs, and what each has seen of the history
pub record HaveSameSections (s t : State) : Type 0 where
  pub section : s.section ≡ t.section
  pub begins : s.begins ≡ t.begins
  pub depths : s.depths ≡ t.depths
  pub seen : s.seen ≡ t.seen

-- the searches of the CPUs, what they found, and what is in their hands
pub record HaveSameSearches (s t : State) : Type 0 where
  pub searches : s.searches ≡ t.searches
  pub found : s.found ≡ t.found
  pub hands : s.hands ≡ t.hands

-- all that is known of the CPUs
pub record HaveSameCpus (s t : State) : Type 0 where
  pub seated : s.seated ≡ t.seated
  pub sections : HaveSameSections s t
  pub searches : HaveSameSearches s t
