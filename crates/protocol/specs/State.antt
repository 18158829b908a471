-- The state of the core: its words, the plain state of each CPU and of the keeper, what a row of marks says, and what a search has loaded.
use Rattle.std.specs.Prelude.{ℕ, ◌==◌, if◌then◌else◌, List, [], false, Option, None, replicate, slice_index_or, slice_set, Bool, true, ◌++◌, drop, ◌≡◌, ◌<◌, Some}
use Rattle.protocol.specs.Types.{Entry, Change, Settings, MOST_CPUS, Slot, Vacant, Mark, Key}
use Rattle.registry_values.specs.Common.{bias, no_mark, Grows, are_words_of}
use Rattle.protocol.specs.declared.state.RecordWords.{RecordWords}
use Rattle.protocol.specs.declared.state.Search.{Search}
use Rattle.protocol.specs.declared.state.Hand.{Hand}
use Rattle.protocol.specs.declared.state.Hand.TheVariants.{Empty, Taking, Giving, Back, Trying}
use Rattle.protocol.specs.declared.state.LocalPlace.{LocalPlace}
use Rattle.protocol.specs.declared.state.LocalPlace.TheVariants.{Free}
use Rattle.protocol.specs.declared.state.Due.{Due}
use Rattle.protocol.specs.declared.state.Due.TheVariants.{Rest, Snapshots, Adding, Subtracting}
use Rattle.protocol.specs.declared.state.SearchPlace.{SearchPlace}
use Rattle.protocol.specs.declared.state.SearchPlace.TheVariants.{AtHead, AtNext, AtNumber, AtKind, AtHigh, AtLow, AtValue}
use Rattle.protocol.specs.declared.state.Loaded.{Loaded}
use Rattle.protocol.specs.declared.state.Loaded.TheVariants.{On, Over}

pub record State : Type 0 where
  pub settings : Settings
  -- words: one for each CPU, one, one for each slot, one for each slot and CPU
  pub section : List ℕ
  pub head : ℕ
  pub next : List ℕ
  pub rows : List RecordWords
  pub passive : List (List ℕ)
  pub counts : List (List ℕ)
  pub totals : List ℕ
  -- one for each slot: the number of its live entry, or 0
  pub lives : List ℕ
  -- beside them
  pub history : List Change
  pub seated : ℕ
  pub begins : List (Option ℕ)
  pub depths : List ℕ
  pub seen : List ℕ
  pub searches : List (Option Search)
  pub found : List (Option Entry)
  pub hands : List Hand
  pub nets : List (List ℕ)
  pub slots : List Slot
  pub marks : List (List Mark)
  pub keeps : List (Option ℕ)
  pub due : Due
  pub locals : List LocalPlace

abbrev pub no_words : RecordWords
no_words = record { number = 0; kind = 0; high = 0; low = 0; value = 0 }

-- the place of a CPU in the row of a slot, and a row with another value there
abbrev pub cell : {X : Type 0} → X → List (List X) → ℕ → ℕ → X
cell x rows t c = slice_index_or (slice_index_or rows t []) c x

abbrev pub with_cell : {X : Type 0} → List (List X) → ℕ → ℕ → X → List (List X)
with_cell rows t c x = slice_set rows t (slice_set (slice_index_or rows t []) c x)

abbrev pub section_at : State → ℕ → ℕ
section_at s c = slice_index_or s.section c 0

abbrev pub begin_at : State → ℕ → Option ℕ
begin_at s c = slice_index_or s.begins c None

abbrev pub depth_at : State → ℕ → ℕ
depth_at s c = slice_index_or s.depths c 0

abbrev pub seen_at : State → ℕ → ℕ
seen_at s c = slice_index_or s.seen c 0

abbrev pub search_at : State → ℕ → Option Search
search_at s c = slice_index_or s.searches c None

abbrev pub found_at : State → ℕ → Option Entry
found_at s c = slice_index_or s.found c None

abbrev pub hand_at : State → ℕ → Hand
hand_at s c = slice_index_or s.hands c Empty

abbrev pub row_at : List RecordWords → ℕ → RecordWords
row_at rows t = slice_index_or rows t no_words

abbrev pub mark_at : List (List Mark) → ℕ → ℕ → Mark
mark_at marks t c = cell no_mark marks t c

-- passive references of the CPU c to the entry in t
abbrev pub passive_at : List (List ℕ) → ℕ → ℕ → ℕ
passive_at passive c t = cell 0 passive t c

abbrev pub count_at : List (List ℕ) → ℕ → ℕ → ℕ
count_at counts c t = cell 0 counts t c

abbrev pub total_at : List ℕ → ℕ → ℕ
total_at totals t = slice_index_or totals t 0

-- the live word of the slot t
abbrev pub live_at : List ℕ → ℕ → ℕ
live_at lives t = slice_index_or lives t 0

abbrev pub kept_at : List (Option ℕ) → ℕ → Option ℕ
kept_at keeps t = slice_index_or keeps t None

abbrev pub local_at : List LocalPlace → ℕ → LocalPlace
local_at locals id = slice_index_or locals id Free

-- all words are 0 but the totals, all slots are vacant, and no CPU has its seat
abbrev pub opening : Settings → State
opening z = record {
  settings = z;
  section = replicate z.cpus 0;
  head = 0;
  next = replicate z.slots 0;
  rows = replicate z.slots no_words;
  passive = replicate z.slots (replicate MOST_CPUS 0);
  counts = replicate z.slots (replicate MOST_CPUS 0);
  totals = replicate z.slots bias;
  lives = replicate z.slots 0;
  history = [];
  seated = 0;
  begins = replicate z.cpus None;
  depths = replicate z.cpus 0;
  seen = replicate z.cpus 0;
  searches = replicate z.cpus None;
  found = replicate z.cpus None;
  hands = replicate z.cpus Empty;
  nets = replicate z.slots (replicate MOST_CPUS 0);
  slots = replicate z.slots Vacant;
  marks = replicate z.slots (replicate MOST_CPUS no_mark);
  keeps = replicate z.slots None;
  due = Rest;
  locals = [];
}

abbrev pub is_empty : Hand → Bool
is_empty Empty = true
is_empty (Taking n) = false
is_empty (Giving n id) = false
is_empty (Back n id) = false
is_empty (Trying t n) = false

-- 1 if the hand is trying to get a reference in the slot t
abbrev pub trying_of : ℕ → Hand → ℕ
trying_of t Empty = 0
trying_of t (Taking n) = 0
trying_of t (Giving n id) = 0
trying_of t (Back n id) = 0
trying_of t (Trying u n) = if u == t then 1 else 0

-- of the passive word of c for t, what c is trying
abbrev pub trying_at : List Hand → ℕ → ℕ → ℕ
trying_at hands c t = trying_of t (slice_index_or hands c Empty)

abbrev pub at_rest : Due → Bool
at_rest Rest = true
at_rest (Snapshots t c) = false
at_rest (Adding t old) = false
at_rest (Subtracting t) = false

-- the count words of the first CPUs count no reference
abbrev pub with_biases : ℕ → List ℕ → List ℕ
with_biases cpus row = replicate cpus bias ++ drop cpus row

-- What a row of marks has come to say, and what it says of all CPUs.

-- what is so of the marks of all CPUs for the slot t
abbrev pub AllPassed : State → ℕ → Type 0
AllPassed s t = (c : ℕ) → c < s.settings.cpus → (mark_at s.marks t c).passed ≡ true

abbrev pub AllClear : State → ℕ → Type 0
AllClear s t = (c : ℕ) → c < s.settings.cpus → (mark_at s.marks t c).clear ≡ true

abbrev pub AllCollected : State → ℕ → Type 0
AllCollected s t = (c : ℕ) → c < s.settings.cpus → (mark_at s.marks t c).collected ≡ true

-- the rows of other slots are as they were
abbrev pub SameElsewhere : {X : Type 0} → List (List X) → List (List X) → ℕ → Type 0
SameElsewhere old new t = (u : ℕ) → (u ≡ t → ⊥) → slice_index_or new u [] ≡ slice_index_or old u []

pub record MarksGrow (old new : List (List Mark)) (t : ℕ) : Type 0 where
  pub elsewhere : SameElsewhere old new t
  pub here : (c : ℕ) → Grows (mark_at old t c) (mark_at new t c)

-- What a search does with the record words of its slot, apart from the core's state.

abbrev pub entry_with : Key → ℕ → ℕ → ℕ → Entry
entry_with key t n value = record { number = n; slot = t; rec = record { kind = key.kind; name = key.name; value = value } }

-- the last word of the name was loaded
abbrev pub loaded_of_name : ℕ → ℕ → ℕ → Bool → Loaded
loaded_of_name t n l true = On (AtValue t n) l
loaded_of_name t n l false = On (AtNext t) l

abbrev pub loaded_at : Search → SearchPlace → RecordWords → Option Loaded
loaded_at q AtHead r = None
loaded_at q (AtNext t) r = None
loaded_at q (AtNumber t) r = Some (On (AtKind t r.number) r.number)
loaded_at q (AtKind t n) r = Some (On (AtHigh t n r.kind) r.kind)
loaded_at q (AtHigh t n k) r = Some (On (AtLow t n k r.high) r.high)
loaded_at q (AtLow t n k h) r = Some (loaded_of_name t n r.low (are_words_of q.key k h r.low))
loaded_at q (AtValue t n) r = Some (Over (entry_with q.key t n r.value))

-- the slot that a place is at is below a bound
abbrev pub SlotWithin : SearchPlace → ℕ → Type 0
SlotWithin AtHead size = Unit {0}
SlotWithin (AtNext t) size = t < size
SlotWithin (AtNumber t) size = t < size
SlotWithin (AtKind t n) size = t < size
SlotWithin (AtHigh t n k) size = t < size
SlotWithin (AtLow t n k h) size = t < size
SlotWithin (AtValue t n) size = t < size

-- the record words of the slot that a place is at
abbrev pub row_of_place : List RecordWords → SearchPlace → RecordWords
row_of_place rows AtHead = no_words
row_of_place rows (AtNext t) = row_at rows t
row_of_place rows (AtNumber t) = row_at rows t
row_of_place rows (AtKind t n) = row_at rows t
row_of_place rows (AtHigh t n k) = row_at rows t
row_of_place rows (AtLow t n k h) = row_at rows t
row_of_place rows (AtValue t n) = row_at rows t
