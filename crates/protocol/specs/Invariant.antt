-- The core invariant: what is true in every state that events reach. Each clause takes only the lists that it is about, so an event passes
-- on what it leaves alone. Also what a call of the pure machine does that makes one event.
use Rattle.std.specs.Prelude.{◌≡◌, ℕ, zero, suc, ◌+◌, ◌*◌, ◌<◌, ◌≤◌, ◌%◌, ◌⊎◌, List, [], length, sum_by, Option, Some, None, Bool, true, false, IsTrue, ◌==◌, if◌then◌else◌, slice_index_or, IsSome, Result, Ok, Err}
use Rattle.protocol.specs.Types.{Driver, Entry, Change, Settings, MOST_COUNT, MOST_CPUS, MOST_DEPTH, Key, Slot, Vacant, Live, Retired, Mark}
use Rattle.registry_values.specs.Common.{are_fit, key_of, slot_at, kind_word, live_count, bias}
use Rattle.registry_values.specs.Names.{are_key_words}
use Rattle.protocol.specs.declared.state.RecordWords.{RecordWords}
use Rattle.protocol.specs.declared.state.SearchPlace.{SearchPlace}
use Rattle.protocol.specs.declared.state.SearchPlace.TheVariants.{AtHead, AtNext, AtNumber, AtKind, AtHigh, AtLow, AtValue}
use Rattle.protocol.specs.declared.state.Search.{Search}
use Rattle.protocol.specs.declared.state.Hand.{Hand}
use Rattle.protocol.specs.declared.state.Hand.TheVariants.{Empty, Taking, Giving, Back, Trying}
use Rattle.protocol.specs.declared.state.LocalPlace.{LocalPlace}
use Rattle.protocol.specs.declared.state.LocalPlace.TheVariants.{Free, Standing, Lifted}
use Rattle.protocol.specs.declared.state.Due.{Due}
use Rattle.protocol.specs.declared.state.Due.TheVariants.{Rest, Snapshots, Adding, Subtracting}
use Rattle.protocol.specs.History.{IsAttached, EndsAt, IsLiveAt, IsLegal, MayHold, rank_at}
use Rattle.protocol.specs.State.{State, row_at, mark_at, passive_at, trying_at, count_at, total_at, kept_at, local_at}
use Rattle.protocol.specs.Events.{words_of, keeps_rightly, Outcome, narrow_step, grows}
use Rattle.protocol.specs.declared.event.Event.{Event}
use Rattle.protocol.specs.declared.event.Reply.{Reply}
use Rattle.protocol.specs.declared.event.StepFault.{StepFault}
use Rattle.protocol.specs.declared.event.StepFault.TheVariants.{NotAllowed, NoMemory}

-- e is live or retired here
abbrev pub IsIn : Entry → Slot → Type 0
IsIn e x = (x ≡ Live e) ⊎ (x ≡ Retired e)

-- some slot has the entry with this number
abbrev pub Occupies : List Slot → ℕ → Type 0
Occupies slots n = (t : ℕ) × (e : Entry) × IsIn e (slot_at slots t) × (e.number ≡ n)

-- each row has a place for each CPU that there may be
abbrev pub AreRows : {X : Type 0} → List (List X) → Type 0
AreRows rows = (t : ℕ) → t < length rows → length (slice_index_or rows t []) ≡ MOST_CPUS

pub record HasShape (s : State) : Type 0 where
  pub sections : length s.section ≡ s.settings.cpus
  pub links : length s.next ≡ s.settings.slots
  pub rows : length s.rows ≡ s.settings.slots
  pub passive : length s.passive ≡ s.settings.slots
  pub passive_rows : AreRows s.passive
  pub counts : length s.counts ≡ s.settings.slots
  pub count_rows : AreRows s.counts
  pub totals : length s.totals ≡ s.settings.slots
  pub lives : length s.lives ≡ s.settings.slots
  pub begins : length s.begins ≡ s.settings.cpus
  pub depths : length s.depths ≡ s.settings.cpus
  pub seen : length s.seen ≡ s.settings.cpus
  pub searches : length s.searches ≡ s.settings.cpus
  pub found : length s.found ≡ s.settings.cpus
  pub hands : length s.hands ≡ s.settings.cpus
  pub nets : length s.nets ≡ s.settings.slots
  pub net_rows : AreRows s.nets
  pub slots : length s.slots ≡ s.settings.slots
  pub marks : length s.marks ≡ s.settings.slots
  pub mark_rows : AreRows s.marks
  pub keeps : length s.keeps ≡ s.settings.slots

-- published: the slots show the live entries, and ended ones
pub record SlotsShow (h : List Change) (slots : List Slot) : Type 0 where
  pub live : (t : ℕ) (e : Entry) → slot_at slots t ≡ Live e → IsLiveAt h (length h) e × (e.slot ≡ t)
  pub placed : (e : Entry) → IsLiveAt h (length h) e → slot_at slots e.slot ≡ Live e
  pub retired : (t : ℕ) (e : Entry) → slot_at slots t ≡ Retired e → IsAttached h e × (e.slot ≡ t) × ((p : ℕ) × EndsAt h e.number p)

-- published: an occupied slot has its entry's words, and a name that isn't both words 0
abbrev pub RowsShow : List Slot → List RecordWords → Type 0
RowsShow slots rows = (t : ℕ) (e : Entry) → IsIn e (slot_at slots t) → (row_at rows t ≡ words_of e) × (are_key_words e.rec.name.high e.rec.name.low ≡ true)

-- the link x leads to the greatest rank below n that was live after k changes, or to the end where there was none
pub data Leads (h : List Change) (k n : ℕ) : ℕ → Type 0 where
  To_end : ((f : Entry) → IsLiveAt h k f → rank_at h f.number < n → ⊥) → Leads h k n 0
  To_entry : (e : Entry) → IsLiveAt h k e → rank_at h e.number < n → ((f : Entry) → IsLiveAt h k f → rank_at h f.number < n → rank_at h f.number ≤ rank_at h e.number) → Leads h k n (suc e.slot)

-- published: the list shows exactly the live entries, by rank, newest first
pub record ListShows (h : List Change) (slots : List Slot) (head : ℕ) (next : List ℕ) : Type 0 where
  pub first : Leads h (length h) (suc (length h)) head
  pub links : (t : ℕ) (e : Entry) → slot_at slots t ≡ Live e → Leads h (length h) (rank_at h e.number) (slice_index_or next t 0)

-- an entry that an open section may hold has its slot
abbrev pub HeldStay : List Change → List Slot → List (Option ℕ) → Type 0
HeldStay h slots begins = (c b : ℕ) (e : Entry) → slice_index_or begins c None ≡ Some b → MayHold h b e → IsIn e (slot_at slots e.slot)

-- frozen links: while an open section may hold an unlinked entry, its link leads to what was below it when it was unlinked
abbrev pub LinksStay : List Change → List Slot → List ℕ → List (Option ℕ) → Type 0
LinksStay h slots next begins =
    (t p c b : ℕ) (e : Entry) → slot_at slots t ≡ Retired e → EndsAt h e.number p → slice_index_or begins c None ≡ Some b → b < p → Leads h p (rank_at h e.number) (slice_index_or next t 0)

-- grace: an open section of a CPU that has passed, or whose word differs from the snapshot, began at or after the end; words only grow, and a CPU that has passed is not in the section of its snapshot
pub record MarksHold (h : List Change) (slots : List Slot) (marks : List (List Mark)) (section : List ℕ) (begins : List (Option ℕ)) : Type 0 where
  pub passed : (t p c b : ℕ) (e : Entry) → slot_at slots t ≡ Retired e → EndsAt h e.number p → slice_index_or begins c None ≡ Some b → (mark_at marks t c).passed ≡ true → p ≤ b
  pub changed : (t p c b w : ℕ) (e : Entry) → slot_at slots t ≡ Retired e → EndsAt h e.number p → slice_index_or begins c None ≡ Some b → (mark_at marks t c).snapshot ≡ Some w
      → (slice_index_or section c 0 ≡ w → ⊥) → p ≤ b
  pub older : (t c w : ℕ) (e : Entry) → slot_at slots t ≡ Retired e → (mark_at marks t c).snapshot ≡ Some w → w ≤ slice_index_or section c 0
  pub left : (t c b w : ℕ) (e : Entry) → slot_at slots t ≡ Retired e → slice_index_or begins c None ≡ Some b → (mark_at marks t c).passed ≡ true → (mark_at marks t c).snapshot ≡ Some w
      → slice_index_or section c 0 ≡ w → ⊥

-- the snapshot of the CPU c for t is still to be taken
abbrev pub IsSnapshotDue : Due → ℕ → ℕ → Type 0
IsSnapshotDue due t c = (d : ℕ) × (due ≡ Snapshots t d) × (d ≤ c)

-- a retired entry has the snapshots of all CPUs but those that are due
abbrev pub SnapshotsStand : ℕ → List Slot → List (List Mark) → Due → Type 0
SnapshotsStand cpus slots marks due = (t c : ℕ) (e : Entry) → slot_at slots t ≡ Retired e → c < cpus → (IsSnapshotDue due t c → ⊥) → (w : ℕ) × ((mark_at marks t c).snapshot ≡ Some w)

pub record SectionsShow (z : Settings) (h : List Change) (section : List ℕ) (begins : List (Option ℕ)) (depths seen : List ℕ) : Type 0 where
  pub outside : (c : ℕ) → slice_index_or begins c None ≡ None → (slice_index_or section c 0 % 2 ≡ 0) × (slice_index_or depths c 0 ≡ 0)
  pub inside : (c b : ℕ) → slice_index_or begins c None ≡ Some b → (slice_index_or section c 0 % 2 ≡ 1) × (1 ≤ slice_index_or depths c 0)
  pub deep : (c : ℕ) → slice_index_or depths c 0 ≤ MOST_DEPTH
  pub begun : (c b : ℕ) → slice_index_or begins c None ≡ Some b → b ≤ slice_index_or seen c 0
  pub prefix : (c : ℕ) → slice_index_or seen c 0 ≤ length h
  pub limited : (c : ℕ) → slice_index_or section c 0 ≤ 2 * z.section_limit

-- a CPU without a seat has made no step
pub record SeatsShow (cpus seated : ℕ) (begins : List (Option ℕ)) (searches : List (Option Search)) (hands : List Hand) : Type 0 where
  pub within : seated ≤ cpus
  pub outside : (c : ℕ) → seated ≤ c → slice_index_or begins c None ≡ None
  pub unsearching : (c : ℕ) → seated ≤ c → slice_index_or searches c None ≡ None
  pub empty : (c : ℕ) → seated ≤ c → slice_index_or hands c Empty ≡ Empty

-- where an entry with the sought key was live at `from`, and an entry of the same rank is live at `to`, that rank is below n
abbrev pub AllBelow : List Change → ℕ → ℕ → Key → ℕ → Type 0
AllBelow h from to key n = (f g : Entry) → IsLiveAt h from f → IsLiveAt h to g → rank_at h g.number ≡ rank_at h f.number → key_of f ≡ key → rank_at h f.number < n

-- a search that started at `from` is at e, and the pass ends at `to`
pub record StandsOn (h : List Change) (from to t : ℕ) (e : Entry) : Type 0 where
  pub attached : IsAttached h e
  pub at : e.slot ≡ t
  pub begun : e.number ≤ to
  pub unended : (p : ℕ) → EndsAt h e.number p → from < p

-- what is so of the words that a search has loaded, and what it hasn't gone past
abbrev pub PlaceHolds : List Change → ℕ → ℕ → Key → SearchPlace → Type 0
PlaceHolds h from to key AtHead = Unit {0}
PlaceHolds h from to key (AtNext t) = (e : Entry) × StandsOn h from to t e × AllBelow h from to key (rank_at h e.number)
PlaceHolds h from to key (AtNumber t) = (e : Entry) × StandsOn h from to t e × AllBelow h from to key (suc (rank_at h e.number))
PlaceHolds h from to key (AtKind t n) = (e : Entry) × StandsOn h from to t e × AllBelow h from to key (suc (rank_at h e.number)) × (n ≡ e.number)
PlaceHolds h from to key (AtHigh t n k) = (e : Entry) × StandsOn h from to t e × AllBelow h from to key (suc (rank_at h e.number)) × (n ≡ e.number) × (k ≡ kind_word e.rec.kind)
PlaceHolds h from to key (AtLow t n k x) = (e : Entry) × StandsOn h from to t e × AllBelow h from to key (suc (rank_at h e.number)) × (n ≡ e.number) × (k ≡ kind_word e.rec.kind) × (x ≡ e.rec.name.high)
PlaceHolds h from to key (AtValue t n) = (e : Entry) × StandsOn h from to t e × (n ≡ e.number) × (key ≡ key_of e)

pub record SearchHolds (h : List Change) (begin : Option ℕ) (seen : ℕ) (q : Search) : Type 0 where
  pub begun : (b : ℕ) × (begin ≡ Some b) × (b ≤ q.start)
  pub started : q.start ≤ seen
  pub stands : PlaceHolds h q.start seen q.key q.place

abbrev pub SearchesHold : List Change → List (Option ℕ) → List ℕ → List (Option Search) → Type 0
SearchesHold h begins seen searches = (c : ℕ) (q : Search) → slice_index_or searches c None ≡ Some q → SearchHolds h (slice_index_or begins c None) (slice_index_or seen c 0) q

-- last found: the open section may hold it
abbrev pub FoundHold : List Change → List (Option ℕ) → List (Option Entry) → Type 0
FoundHold h begins found = (c : ℕ) (e : Entry) → slice_index_or found c None ≡ Some e → (b : ℕ) × (slice_index_or begins c None ≡ Some b) × MayHold h b e

-- passive: a word counts what its CPU is trying, and beside that its references; a vacant slot has no passive references, a clear mark stands only where a passed CPU has none, a collected one only
-- at a clear one; a CPU past the last has none
pub record PassiveShow (cpus limit : ℕ) (slots : List Slot) (marks : List (List Mark)) (passive : List (List ℕ)) (hands : List Hand) : Type 0 where
  pub counted : (c t : ℕ) → trying_at hands c t ≤ passive_at passive c t
  pub vacant : (c t : ℕ) → slot_at slots t ≡ Vacant → passive_at passive c t ≡ trying_at hands c t
  pub clear : (c t : ℕ) (e : Entry) → slot_at slots t ≡ Retired e → (mark_at marks t c).clear ≡ true → ((mark_at marks t c).passed ≡ true) × (passive_at passive c t ≡ trying_at hands c t)
  pub collected : (c t : ℕ) (e : Entry) → slot_at slots t ≡ Retired e → (mark_at marks t c).collected ≡ true → (mark_at marks t c).clear ≡ true
  pub beyond : (c t : ℕ) → cpus ≤ c → passive_at passive c t ≡ 0
  pub limited : (c t : ℕ) → passive_at passive c t ≤ limit

-- How many local references to n are in a place, in a hand, in a slot that keeps them, or wait for the keeper's subtraction at the slot t.
abbrev pub one_if : Bool → ℕ
one_if b = if b then 1 else 0

abbrev pub standing_of : ℕ → LocalPlace → ℕ
standing_of n Free = 0
standing_of n (Standing m) = one_if (m == n)
standing_of n (Lifted c) = 0

abbrev pub in_hand : ℕ → Hand → ℕ
in_hand n Empty = 0
in_hand n (Taking m) = one_if (m == n)
in_hand n (Giving m id) = one_if (m == n)
in_hand n (Back m id) = one_if (m == n)
in_hand n (Trying t m) = 0

abbrev pub kept_of : ℕ → Option ℕ → ℕ
kept_of n None = 0
kept_of n (Some m) = one_if (m == n)

abbrev pub subtraction_due_at : ℕ → Due → ℕ
subtraction_due_at t Rest = 0
subtraction_due_at t (Snapshots u c) = 0
subtraction_due_at t (Adding u old) = 0
subtraction_due_at t (Subtracting u) = one_if (u == t)

-- the local references held to the entry n in the slot t (localcount(9))
abbrev pub held_at : List LocalPlace → List Hand → List (Option ℕ) → Due → ℕ → ℕ → ℕ
held_at locals hands keeps due n t = sum_by (standing_of n) locals + sum_by (in_hand n) hands + sum_by (kept_of n) keeps + subtraction_due_at t due

-- what was collected of t and isn't in its total yet, and the bias that came with it
abbrev pub addition_due_at : ℕ → Due → ℕ
addition_due_at t Rest = 0
addition_due_at t (Snapshots u c) = 0
addition_due_at t (Adding u old) = if u == t then old else 0
addition_due_at t (Subtracting u) = 0

abbrev pub is_adding_at : ℕ → Due → ℕ
is_adding_at t Rest = 0
is_adding_at t (Snapshots u c) = 0
is_adding_at t (Adding u old) = one_if (u == t)
is_adding_at t (Subtracting u) = 0

-- 1 for a word that isn't collected
abbrev pub one_if_used : ℕ → ℕ
one_if_used zero = 0
one_if_used (suc w) = 1

abbrev pub itself : ℕ → ℕ
itself w = w

-- no count's limit is above it
abbrev pub greatest_limit : ℕ
greatest_limit = MOST_COUNT

-- the words of all CPUs, the total and what is to be added, less their biases, are the references held
pub record Balances (row : List ℕ) (total held adding is_adding : ℕ) : Type 0 where
  pub even : sum_by itself row + total + adding ≡ held + bias * (1 + sum_by one_if_used row + is_adding)
  pub capped : total + adding + greatest_limit * sum_by one_if_used row ≤ bias * (1 + is_adding) + greatest_limit * MOST_CPUS

-- the word of the CPU counts: it isn't collected
abbrev pub IsCounting : List Slot → List (List Mark) → ℕ → ℕ → Type 0
IsCounting slots marks c t = (e : Entry) × ((slot_at slots t ≡ Live e) ⊎ ((slot_at slots t ≡ Retired e) × ((mark_at marks t c).collected ≡ false)))

-- balance: of each occupied slot the local references held
pub record CountsHold (z : Settings) (slots : List Slot) (marks : List (List Mark)) (counts nets : List (List ℕ)) (totals : List ℕ) (hands : List Hand) (keeps : List (Option ℕ)) (due : Due)
    (locals : List LocalPlace) : Type 0 where
  pub counted : (c t : ℕ) → c < z.cpus → IsCounting slots marks c t → (count_at counts c t ≡ count_at nets c t) × (0 < count_at counts c t)
  pub used : (c t : ℕ) (e : Entry) → c < z.cpus → IsIn e (slot_at slots t) → 0 < count_at nets c t
  pub emptied : (c t : ℕ) (e : Entry) → slot_at slots t ≡ Retired e → (mark_at marks t c).collected ≡ true → count_at counts c t ≡ 0
  pub beyond : (c t : ℕ) → z.cpus ≤ c → count_at counts c t ≡ 0
  pub limited : (c t : ℕ) (e : Entry) → IsIn e (slot_at slots t) → count_at nets c t ≤ bias + z.count_limit
  pub balance : (t : ℕ) (e : Entry) → IsIn e (slot_at slots t)
      → Balances (slice_index_or counts t []) (total_at totals t) (held_at locals hands keeps due e.number t) (addition_due_at t due) (is_adding_at t due)
  pub vacant : (t : ℕ) → t < length slots → slot_at slots t ≡ Vacant → total_at totals t ≡ bias
  pub fresh : (c t d : ℕ) → due ≡ Snapshots t d → (mark_at marks t c).collected ≡ false

-- what is in the hand of c was lifted from its place
abbrev pub HandHolds : List Slot → List LocalPlace → ℕ → Hand → Type 0
HandHolds slots locals c Empty = Unit {0}
HandHolds slots locals c (Taking n) = Occupies slots n
HandHolds slots locals c (Giving n id) = Occupies slots n × (local_at locals id ≡ Lifted c)
HandHolds slots locals c (Back n id) = Occupies slots n × (local_at locals id ≡ Lifted c)
HandHolds slots locals c (Trying t n) = Unit {0}

-- of a CPU that has seen so many changes, a number that it tries is among these
abbrev pub IsSeenInHand : ℕ → Hand → Type 0
IsSeenInHand seen Empty = Unit {0}
IsSeenInHand seen (Taking n) = Unit {0}
IsSeenInHand seen (Giving n id) = Unit {0}
IsSeenInHand seen (Back n id) = Unit {0}
IsSeenInHand seen (Trying t n) = n ≤ seen

-- tries: each CPU tries what it has seen
abbrev pub TriesSeen : List ℕ → List Hand → Type 0
TriesSeen seen hands = (c : ℕ) → IsSeenInHand (slice_index_or seen c 0) (slice_index_or hands c Empty)

-- what the keeper must do next is at a slot where it can
abbrev pub DueHolds : ℕ → List Slot → Due → Type 0
DueHolds cpus slots Rest = Unit {0}
DueHolds cpus slots (Snapshots t c) = (c < cpus) × ((e : Entry) × (slot_at slots t ≡ Retired e))
DueHolds cpus slots (Adding t old) = (e : Entry) × (slot_at slots t ≡ Retired e)
DueHolds cpus slots (Subtracting t) = (e : Entry) × (slot_at slots t ≡ Retired e)

-- each local reference is to an entry that has its slot
pub record ReferencesHold (cpus : ℕ) (slots : List Slot) (hands : List Hand) (due : Due) (locals : List LocalPlace) : Type 0 where
  pub standing : (id n : ℕ) → local_at locals id ≡ Standing n → Occupies slots n
  pub in_hands : (c : ℕ) → HandHolds slots locals c (slice_index_or hands c Empty)
  pub due_at : DueHolds cpus slots due

-- kept drivers: each live or retired interface keeps one reference to a driver, a driver keeps none, and what is kept has its slot
pub record DriversKept (slots : List Slot) (keeps : List (Option ℕ)) : Type 0 where
  pub rightly : (t : ℕ) (e : Entry) → IsIn e (slot_at slots t) → keeps_rightly (kept_at keeps t) e.rec.kind ≡ true
  pub drivers : (t d : ℕ) → kept_at keeps t ≡ Some d → (u : ℕ) × (e : Entry) × IsIn e (slot_at slots u) × (e.number ≡ d) × (e.rec.kind ≡ Driver)

pub record Holds (s : State) : Type 0 where
  pub fit : IsTrue (are_fit s.settings)
  pub shape : HasShape s
  pub legal : IsLegal s.history
  pub room : length s.history + live_count s.slots ≤ s.settings.change_limit
  pub slots : SlotsShow s.history s.slots
  pub rows : RowsShow s.slots s.rows
  pub list : ListShows s.history s.slots s.head s.next
  pub held : HeldStay s.history s.slots s.begins
  pub frozen_links : LinksStay s.history s.slots s.next s.begins
  pub grace : MarksHold s.history s.slots s.marks s.section s.begins
  pub snapshots : SnapshotsStand s.settings.cpus s.slots s.marks s.due
  pub seats : SeatsShow s.settings.cpus s.seated s.begins s.searches s.hands
  pub sections : SectionsShow s.settings s.history s.section s.begins s.depths s.seen
  pub searches : SearchesHold s.history s.begins s.seen s.searches
  pub last_found : FoundHold s.history s.begins s.found
  pub passive : PassiveShow s.settings.cpus s.settings.passive_limit s.slots s.marks s.passive s.hands
  pub balance : CountsHold s.settings s.slots s.marks s.counts s.nets s.totals s.hands s.keeps s.due s.locals
  pub tries : TriesSeen s.seen s.hands
  pub references : ReferencesHold s.settings.cpus s.slots s.hands s.due s.locals
  pub kept_drivers : DriversKept s.slots s.keeps

-- What a call of the pure machine that makes one event does.

-- The reply and the state after are those of the definition; both faults change nothing, and memory is refused only where a list has to grow.
abbrev pub Steps : State → State → Event → Result Reply StepFault → Type 0
Steps old new event (Ok reply) = narrow_step old event ≡ Some (record { state = new; reply = reply })
Steps old new event (Err NotAllowed) = (narrow_step old event ≡ None) × (new ≡ old)
Steps old new event (Err NoMemory) = IsTrue (grows event) × IsSome (narrow_step old event) × (new ≡ old)

-- the event is allowed here, and a list has to grow for it
abbrev pub WantsMemory : State → Event → Type 0
WantsMemory s event = IsTrue (grows event) × IsSome (narrow_step s event)

-- the invariant holds after an event, if it was allowed
abbrev pub Keeps : Option Outcome → Type 0
Keeps None = Unit {0}
Keeps (Some o) = Holds o.state
