-- A session over the core, what it shows of a registry, and what a call gave and left.
use Rattle.std.specs.Prelude.{◌≡◌, ℕ, true, List, length, Option, Some, None, Result, Ok, Err, replicate, slice_index_or, ◌+◌, ◌*◌, ◌<◌, sum_by, count_by, is_some, Bool, false}
use Rattle.registry_report.specs.Types.{CorePsref, Entry, Change, Hand, Slot, Retired, Mark, LocalPlace, NoMemory, Command}
use Rattle.registry_values.specs.Common.{bias, slot_at, live_count, slot_of}
use Rattle.protocol.specs.Common.{Holds, State, mark_at, count_at, total_at, kept_at, local_at, EndsAt, number_standing, IsIn, standing_of, one_if, Model, number_in, passive_in}
use Rattle.passive_core.specs.Common.{IsQuiet, is_live_local}
use Rattle.registry_report.specs.declared.hitch.Hitch.{Hitch}
use Rattle.registry_report.specs.declared.hitch.Hitch.TheVariants.{NoLabel, Refused}
use Rattle.registry_report.specs.Registry.{is_attach, is_detach, Registry}
use Rattle.registry_report.specs.Report.{after}

-- The core, and the references of the labels.

pub record SessionState : Type 0 where
  pub core : State
  -- by the place of the label
  pub passives : List (Option CorePsref)
  pub locals : List (Option ℕ)

-- with another core
abbrev pub with_core : SessionState → State → SessionState
with_core s core = record s { core = core }

-- the reference of a label
abbrev pub label_at : {X : Type 0} → List (Option X) → ℕ → Option X
label_at labels x = slice_index_or labels x None

-- each label of local references names a live one, and no two the same
pub record IsSession (s : SessionState) : Type 0 where
  pub quiet : IsQuiet s.core
  pub holds : Holds s.core
  pub passive_labels : length s.passives ≡ 26
  pub local_labels : length s.locals ≡ 26
  pub live : (x id : ℕ) → slice_index_or s.locals x None ≡ Some id → is_live_local s.core id ≡ true
  pub apart : (x y id : ℕ) → slice_index_or s.locals x None ≡ Some id → slice_index_or s.locals y None ≡ Some id → x ≡ y

-- no label has a reference
abbrev pub without_labels : State → SessionState
without_labels core = record { core = core; passives = replicate 26 None; locals = replicate 26 None }

-- the reference of a label, if it has one
abbrev pub label_answer : {X : Type 0} → Option X → Result X Hitch
label_answer None = Err NoLabel
label_answer (Some x) = Ok x

-- What a session shows of a registry: each number and list of the core that an answer depends on, as the registry has it.

-- the history, who found what, who holds what, and what is in the slots
pub record ShowsModel (h : List Change) (begins : List (Option ℕ)) (found : List (Option Entry)) (passive : List (List ℕ)) (hands : List Hand) (slots : List Slot) (locals : List LocalPlace)
    (keeps : List (Option ℕ)) (m : Model) : Type 0 where
  pub history : m.history ≡ h
  pub sections : (c : ℕ) → m.sections c ≡ slice_index_or begins c None
  pub last_found : (c : ℕ) → m.found c ≡ slice_index_or found c None
  pub held : (c n : ℕ) → m.passive c n ≡ passive_in passive hands c (slot_of slots n)
  pub counted : (n : ℕ) → m.locals n ≡ sum_by (standing_of n) locals
  pub occupants : (t : ℕ) → m.occupants t ≡ number_in (slot_at slots t)
  pub kept : (t : ℕ) → m.keeps t ≡ kept_at keeps t

-- how deep the sections are, and how many were begun: a word is one more at each outermost enter and exit
pub record ShowsSections (section depths : List ℕ) (begins : List (Option ℕ)) (nested begun : ℕ → ℕ) : Type 0 where
  pub deep : (c : ℕ) → nested c ≡ slice_index_or depths c 0
  pub turns : (c : ℕ) → slice_index_or section c 0 + one_if (is_some (slice_index_or begins c None)) ≡ 2 * begun c

-- attaches less detaches are the live slots
abbrev pub CountsLive : List Change → List Slot → Type 0
CountsLive h slots = count_by is_attach h ≡ count_by is_detach h + live_count slots

-- a section with the snapshot's word was begun before the entry's end
abbrev pub SnapshotsFollow : List Change → List Slot → List (List Mark) → List ℕ → List (Option ℕ) → Type 0
SnapshotsFollow h slots marks section begins = (t p c b w : ℕ) (e : Entry) → slot_at slots t ≡ Retired e → EndsAt h e.number p → slice_index_or begins c None ≡ Some b
    → (mark_at marks t c).snapshot ≡ Some w → slice_index_or section c 0 ≡ w → b < p

-- a number that is to come has no counts
pub record IsFresh (acquired released : ℕ → ℕ → ℕ) (given_up : ℕ → ℕ) (is_collected : ℕ → Bool) (n : ℕ) : Type 0 where
  pub unacquired : (c : ℕ) → acquired c n ≡ 0
  pub unreleased : (c : ℕ) → released c n ≡ 0
  pub kept : given_up n ≡ 0
  pub uncollected : is_collected n ≡ false

-- the net counts are what was acquired less what was released; before the drain each word is its net count and the total what was given up
pub record ShowsTallies (cpus : ℕ) (h : List Change) (slots : List Slot) (counts nets : List (List ℕ)) (totals : List ℕ) (acquired released : ℕ → ℕ → ℕ) (given_up : ℕ → ℕ)
    (is_collected : ℕ → Bool) : Type 0 where
  pub net : (t c : ℕ) (e : Entry) → IsIn e (slot_at slots t) → c < cpus → count_at nets c t + released c e.number ≡ bias + acquired c e.number
  pub word : (t c : ℕ) (e : Entry) → IsIn e (slot_at slots t) → c < cpus → is_collected e.number ≡ false → count_at counts c t ≡ count_at nets c t
  pub total : (t : ℕ) (e : Entry) → IsIn e (slot_at slots t) → is_collected e.number ≡ false → total_at totals t + given_up e.number ≡ bias
  pub collected : (t c : ℕ) (e : Entry) → IsIn e (slot_at slots t) → is_collected e.number ≡ true → count_at counts c t ≡ 0
  pub fresh : (n : ℕ) → length h < n → IsFresh acquired released given_up is_collected n

-- the number that the live reference with an id is to
abbrev pub number_at : List LocalPlace → Option ℕ → Option ℕ
number_at places None = None
number_at places (Some id) = number_standing (local_at places id)

pub record ShowsLabels (places : List LocalPlace) (passives : List (Option CorePsref)) (locals : List (Option ℕ)) (passive_labels : ℕ → Option CorePsref) (local_labels : ℕ → Option ℕ) : Type 0 where
  pub passive : (x : ℕ) → passive_labels x ≡ slice_index_or passives x None
  pub local : (x : ℕ) → local_labels x ≡ number_at places (slice_index_or locals x None)

pub record Shows (s : SessionState) (r : Registry) : Type 0 where
  pub settings : r.settings ≡ s.core.settings
  pub model : ShowsModel s.core.history s.core.begins s.core.found s.core.passive s.core.hands s.core.slots s.core.locals s.core.keeps r.model
  pub sections : ShowsSections s.core.section s.core.depths s.core.begins r.depths r.begun
  pub live : CountsLive s.core.history s.core.slots
  pub grace : SnapshotsFollow s.core.history s.core.slots s.core.marks s.core.section s.core.begins
  pub tallies : ShowsTallies s.core.settings.cpus s.core.history s.core.slots s.core.counts s.core.nets s.core.totals r.acquired r.released r.given_up r.is_collected
  pub labels : ShowsLabels s.core.locals s.passives s.locals r.passive_labels r.local_labels

-- What a call gave and left, against the answer and the registry that are due.

-- the answer is the one given, unless memory was refused
abbrev pub Gives : {X : Type 0} → Result X Hitch → Result X Hitch → Type 0
Gives (Err (Refused NoMemory)) answer = Unit {0}
Gives given answer = answer ≡ given

-- what is left is the one due, unless memory was refused
abbrev pub Leaves : {X : Type 0} → Result X Hitch → Type 0 → Type 0
Leaves (Err (Refused NoMemory)) due = Unit {0}
Leaves given due = due

-- The same of a session's call, for each registry that the session showed

-- the answer is the one due
abbrev pub AnswersFor : {X : Type 0} → (Registry → Type 0) → (Registry → Result X Hitch) → Result X Hitch → Type 0
AnswersFor shown due given = (r : Registry) → shown r → Gives given (due r)

-- the session shows then what the command leaves
abbrev pub LeavesFor : {X : Type 0} → (Registry → Type 0) → (Registry → Type 0) → Command → Result X Hitch → Type 0
LeavesFor shown shows c given = (r : Registry) → shown r → Leaves given (shows (after r c))
