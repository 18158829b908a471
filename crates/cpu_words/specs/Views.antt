-- What a view shows of a state of the core.
use Rattle.std.specs.Prelude.{◌≡◌, ◌≢◌, ℕ, suc, ◌+◌, ◌*◌, ◌<◌, ◌≤◌, ◌==◌, Bool, true, false, if◌then◌else◌, List, [], ◌∷◌, ◌++◌, length, take, replicate, count_by, sum_by, slice_index_or, slice_set}
use Rattle.std.specs.Prelude.{Option, Some, None}
use Rattle.std.specs.List.{Contains, zip}
use mathlib.Core.List.{IsPrefix}
use Rattle.atomic_table.specs.Seated.{TableId}
use Rattle.cpu_words.specs.Types.{Entry, Driver, Change, Settings, MOST_CPUS, Slot, Vacant, Live, Retired, Mark, Hand, Empty, Taking, Giving, Back, Trying, Rest}
use Rattle.protocol.specs.Common.{IsAttached, State, is_honest, live_at, no_words, section_at, begin_at, depth_at, seen_at, search_at, found_at, hand_at, mark_at, passive_at, count_at, total_at, AreRows, IsIn, Occupies}
use Rattle.protocol.specs.Common.{subtraction_due_at, addition_due_at, is_adding_at}
use Rattle.registry_values.specs.Common.{bias, no_mark, slot_at}
use Rattle.cpu_words.specs.declared.view.InHand.{InHand}
use Rattle.cpu_words.specs.declared.view.InHand.TheVariants.{Empty as NoEntry, Taking as TakingEntry, Giving as GivingEntry, Back as BackEntry, Trying as TryingEntry}
use Rattle.cpu_words.specs.declared.view.LogItem.{LogItem}
use Rattle.cpu_words.specs.declared.view.Teller.{Teller}
use Rattle.cpu_words.specs.declared.view.CpuView.{CpuView}
use Rattle.cpu_words.specs.declared.view.EndedSeat.{EndedSeat}
use Rattle.cpu_words.specs.declared.view.KeeperView.{KeeperView}
use Rattle.cpu_words.specs.declared.view.ReferenceView.{ReferenceView}
use Rattle.cpu_words.specs.declared.view.View.{View}
use Rattle.cpu_words.specs.declared.view.View.TheVariants.{Keeper, Cpu, Reference, Note, Spent}

-- a seat, to a contract
pub record Seated (X : Type 0) : Type 0 where
  pub table : TableId
  pub view : X
  -- what the seat did, in order
  pub log : List LogItem
  -- what it has heard of the keeper's log, and what the note beside its view knows of that
  pub known_log : List LogItem
  pub noted_log : List LogItem
  -- of a note, who told it; of another seat, who told the note beside its view
  pub teller : Option Teller
  -- the list of all events, as the seat's last step on a word left it
  pub list : List (ℕ × LogItem)
  -- the seats that it took over as they ended
  pub ends : List EndedSeat

-- a table and what it was made for, to a contract
pub record Named : Type 0 where
  pub table : TableId
  pub settings : Settings

-- Counts by number, and passive references

-- what a list by numbers has at n; past its end it has 0
abbrev pub number_at : List ℕ → ℕ → ℕ
number_at l n = slice_index_or l n 0

-- v at i, where the list may end before i
abbrev pub with_number : List ℕ → ℕ → ℕ → List ℕ
with_number l i v = slice_set (l ++ replicate (suc i) 0) i v

-- one more at n
abbrev pub one_more : List ℕ → ℕ → List ℕ
one_more l n = with_number l n (suc (number_at l n))

abbrev pub is_to : ℕ → Entry → Bool
is_to n e = e.number == n

-- how many of the references are to n
abbrev pub references_to : ℕ → List Entry → ℕ
references_to n es = count_by (is_to n) es

-- one reference to n less
abbrev pub without : ℕ → List Entry → List Entry
without n [] = []
without n (e ∷ es) = if is_to n e then es else e ∷ without n es

-- What of the view of the CPU c, and of the keeper's, the core says; the rest is the view's own

abbrev pub cpu_view : State → ℕ → CpuView → CpuView
cpu_view g c x = record x {
  settings = g.settings;
  id = c;
  section = section_at g c;
  begin = begin_at g c;
  pass = take (seen_at g c) g.history;
  search = search_at g c;
  found = found_at g c;
}

abbrev pub keeper_view : State → KeeperView → KeeperView
keeper_view g k = record k {
  settings = g.settings;
  seated = g.seated;
  history = g.history;
  slots = g.slots;
  marks = g.marks;
  keeps = g.keeps;
  due = g.due;
  head = g.head;
  next = g.next;
  rows = g.rows;
  totals = g.totals;
  lives = g.lives;
}

-- the hand of the core, by entry
abbrev pub SameHand : Hand → InHand → Type 0
SameHand Empty NoEntry = Unit {0}
SameHand (Taking n) (TakingEntry e) = n ≡ e.number
SameHand (Giving n id) (GivingEntry e) = n ≡ e.number
SameHand (Back n id) (BackEntry e) = n ≡ e.number
SameHand (Trying t n) (TryingEntry e) = (t ≡ e.slot) × (n ≡ e.number)
SameHand h k = ⊥

-- the CPU's count word for e was collected, and e still has its slot
abbrev pub IsCollectedFor : List Slot → List (List Mark) → Entry → ℕ → Type 0
IsCollectedFor slots marks e c = (slot_at slots e.slot ≡ Retired e) × ((mark_at marks e.slot c).collected ≡ true)

-- a local reference in a hand is to an entry of the history; one that goes back was found collected
abbrev pub HandFits : List Change → List Slot → List (List Mark) → ℕ → InHand → Type 0
HandFits h slots marks c NoEntry = Unit {0}
HandFits h slots marks c (TakingEntry e) = IsAttached h e
HandFits h slots marks c (GivingEntry e) = IsAttached h e
HandFits h slots marks c (BackEntry e) = IsAttached h e × IsCollectedFor slots marks e c
HandFits h slots marks c (TryingEntry e) = Unit {0}

-- 1 if the CPU is trying to get a passive reference in the slot t
abbrev pub trying_in : ℕ → InHand → ℕ
trying_in t NoEntry = 0
trying_in t (TakingEntry e) = 0
trying_in t (GivingEntry e) = 0
trying_in t (BackEntry e) = 0
trying_in t (TryingEntry e) = if e.slot == t then 1 else 0

-- inner enters and exits are no events
abbrev pub depth_of : Option ℕ → ℕ
depth_of None = 0
depth_of (Some b) = 1

pub record CpuShown (g : State) (x : CpuView) : Type 0 where
  pub seated : x.id < g.seated
  pub is : x ≡ cpu_view g x.id x
  pub hand : SameHand (hand_at g x.id) x.hand
  pub in_hand : HandFits g.history g.slots g.marks x.id x.hand
  pub depth : depth_at g x.id ≡ depth_of x.begin
  -- its passive words count its references to the occupants, and beside them what it is trying; and it has none to another entry
  pub passive : (t : ℕ) (e : Entry) → IsIn e (slot_at g.slots t) → passive_at g.passive x.id t ≡ references_to e.number x.references + trying_in t x.hand
  pub gone : (n : ℕ) → (Occupies g.slots n → ⊥) → references_to n x.references ≡ 0
  -- its net count for an occupant is what it acquired less what it released
  pub nets : (t : ℕ) (e : Entry) → IsIn e (slot_at g.slots t) → count_at g.nets x.id t + number_at x.released e.number ≡ bias + number_at x.acquired e.number
  pub later : (n : ℕ) → length g.history < n → (number_at x.acquired n ≡ 0) × (number_at x.released n ≡ 0)
  -- an occupant that it has counted is the one that it met last in that slot
  pub met : (t : ℕ) (e : Entry) → IsIn e (slot_at g.slots t) → 0 < number_at x.acquired e.number + number_at x.released e.number → number_at x.met t ≡ e.number
  -- what it met in a slot was attached there
  pub there : (t : ℕ) → number_at x.met t ≢ 0 → (e : Entry) × IsAttached g.history e × (e.number ≡ number_at x.met t) × (e.slot ≡ t)
  -- what it found and refers to is in its pass
  pub found : (e : Entry) → x.found ≡ Some e → IsAttached x.pass e
  pub references : (e : Entry) → Contains x.references e → IsAttached x.pass e
  pub noted_pass : IsPrefix x.noted_pass g.history

-- of one CPU: its net count where its word was collected
abbrev pub collected_net : Mark × ℕ → ℕ
collected_net p = if p.0.collected then p.1 else 0

-- 1 where its word was collected
abbrev pub collected_one : Mark × ℕ → ℕ
collected_one p = if p.0.collected then 1 else 0

-- the total of a retired entry's slot is the net counts collected into it, less the references given up under the interlock: one that is given up as the keeper joins it is subtracted by the step
-- after
abbrev pub GivesUp : State → List ℕ → ℕ → ℕ → Type 0
GivesUp g given_up t n = let row = zip (slice_index_or g.marks t []) (slice_index_or g.nets t []) in
    total_at g.totals t + addition_due_at t g.due + number_at given_up n + bias * sum_by collected_one row ≡ bias * (1 + is_adding_at t g.due) + sum_by collected_net row + subtraction_due_at t g.due

-- each live word is 0, or the number of the slot's live entry
abbrev pub LivesShow : List Slot → List ℕ → Type 0
LivesShow slots lives = (t : ℕ) → is_honest (live_at lives t) (slot_at slots t) ≡ true

pub record KeeperShown (g : State) (k : KeeperView) : Type 0 where
  pub is : k ≡ keeper_view g k
  -- the count words of a vacant slot are the keeper's alone
  pub counts : (c t : ℕ) → slot_at g.slots t ≡ Vacant → count_at g.counts c t ≡ count_at k.counts c t
  pub sized : length k.counts ≡ g.settings.slots
  pub rows : AreRows k.counts
  -- nothing was collected for a live entry, and nothing is to be subtracted: the marks of its slot are an earlier entry's
  pub live_total : (t : ℕ) (e : Entry) → slot_at g.slots t ≡ Live e → total_at g.totals t + number_at k.given_up e.number ≡ bias
  pub gives_up : (t : ℕ) (e : Entry) → slot_at g.slots t ≡ Retired e → GivesUp g k.given_up t e.number
  pub later : (n : ℕ) → length g.history < n → number_at k.given_up n ≡ 0
  pub beyond : (c t : ℕ) → g.settings.cpus ≤ c → (mark_at g.marks t c).collected ≡ false
  pub honest : LivesShow g.slots g.lives
  pub noted_pass : IsPrefix k.noted_pass g.history

pub record ReferenceShown (g : State) (v : ReferenceView) : Type 0 where
  pub attached : IsAttached g.history v.entry
  pub collected : (c : ℕ) → v.collected ≡ Some c → IsCollectedFor g.slots g.marks v.entry c

-- the state shows this view
abbrev pub Shown : State → View → Type 0
Shown g (Keeper k) = KeeperShown g k
Shown g (Cpu x) = CpuShown g x
Shown g (Reference v) = ReferenceShown g v
Shown g (Note h) = IsPrefix h g.history
Shown g Spent = Unit {0}

-- The views of new seats

abbrev pub new_keeper : Settings → KeeperView
new_keeper z = record {
  settings = z;
  seated = 0;
  history = [];
  slots = replicate z.slots Vacant;
  marks = replicate z.slots (replicate MOST_CPUS no_mark);
  keeps = replicate z.slots None;
  due = Rest;
  head = 0;
  next = replicate z.slots 0;
  rows = replicate z.slots no_words;
  totals = replicate z.slots bias;
  lives = replicate z.slots 0;
  counts = replicate z.slots (replicate MOST_CPUS 0);
  given_up = [];
  looks = 0;
  last_look = None;
  noted_pass = [];
}

abbrev pub first_view : Settings → View
first_view z = Keeper (new_keeper z)

abbrev pub new_cpu : Settings → ℕ → CpuView
new_cpu z c = record {
  settings = z;
  id = c;
  section = 0;
  begin = None;
  pass = [];
  search = None;
  found = None;
  hand = NoEntry;
  references = [];
  acquired = [];
  released = [];
  met = [];
  noted_pass = [];
}

abbrev pub no_table : TableId
no_table = record { words = 0; slots = 0; views_name = 0; atom = 0; block = 0; offset = 0; slot_names = [] }

abbrev pub no_settings : Settings
no_settings = record { cpus = 0; slots = 0; change_limit = 0; section_limit = 0; passive_limit = 0; count_limit = 0 }

abbrev pub no_entry : Entry
no_entry = record { number = 0; slot = 0; rec = record { kind = Driver; name = record { high = 0; low = 0 }; value = 0 } }

-- the view of a seat by its kind; for the other kinds some view, which nothing is said about

abbrev pub cpu_of : View → CpuView
cpu_of (Cpu x) = x
cpu_of (Keeper k) = new_cpu no_settings 0
cpu_of (Reference v) = new_cpu no_settings 0
cpu_of (Note h) = new_cpu no_settings 0
cpu_of Spent = new_cpu no_settings 0

abbrev pub keeper_of : View → KeeperView
keeper_of (Keeper k) = k
keeper_of (Cpu x) = new_keeper no_settings
keeper_of (Reference v) = new_keeper no_settings
keeper_of (Note h) = new_keeper no_settings
keeper_of Spent = new_keeper no_settings

abbrev pub reference_of : View → ReferenceView
reference_of (Reference v) = v
reference_of (Keeper k) = record { entry = no_entry; collected = None }
reference_of (Cpu x) = record { entry = no_entry; collected = None }
reference_of (Note h) = record { entry = no_entry; collected = None }
reference_of Spent = record { entry = no_entry; collected = None }

abbrev pub note_of : View → List Change
note_of (Note h) = h
note_of (Keeper k) = []
note_of (Cpu x) = []
note_of (Reference v) = []
note_of Spent = []
