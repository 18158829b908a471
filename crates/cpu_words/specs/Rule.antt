-- The rule of the table: its words and the views of all seats show a state of the core, and a list of events leads to it.
use Rattle.std.specs.Prelude.{◌≡◌, ℕ, ◌<◌, ◌≤◌, List, [], ◌∷◌, ◌++◌, Option, Some, None, length, sum_by, slice_index}
use mathlib.Core.Option.{some}
use lib.ListN.{get_elem?}
use Rattle.atomic_table.specs.Table.{State as Table}
use Rattle.cpu_words.specs.Types.{Entry, Settings, Event, LoadRecord, JoinRef, JoinKeeper, Keep, RecordOf, Local, Reply, Ref}
use Rattle.protocol.specs.Common.{Outcome, number_standing, step, Run, empty_run, run_with_event, State, opening, section_at, depth_at, seen_at, passive_at, count_at, local_at, IsIn, one_if}
use Rattle.protocol.specs.Common.{standing_of, Holds, after}
use Rattle.registry_values.specs.Common.{bias, slot_at}
use Rattle.cpu_words.specs.Spots.{Spot, index, IsSpot, word_at, words_of}
use Rattle.cpu_words.specs.Views.{Shown, is_to}
use Rattle.cpu_words.specs.declared.view.CpuView.{CpuView}
use Rattle.cpu_words.specs.declared.view.KeeperView.{KeeperView}
use Rattle.cpu_words.specs.declared.view.LogItem.{LogItem}
use Rattle.cpu_words.specs.declared.view.View.{View}
use Rattle.cpu_words.specs.declared.view.View.TheVariants.{Keeper, Cpu, Reference, Note, Spent}

-- none of the words is at that place
abbrev pub IsUnused : Settings → ℕ → Type 0
IsUnused z i = (i < words_of z) × ((p : Spot) → IsSpot z p → index z p ≡ i → ⊥)

-- the table has the words of the core, and 0 at each other place: no step writes anything else there
pub record Agrees (z : Settings) (words : List ℕ) (g : State) : Type 0 where
  pub settings : g.settings ≡ z
  pub size : length words ≡ words_of z
  pub at : (p : Spot) → IsSpot g.settings p → slice_index words (index z p) ≡ word_at g p
  pub unused : (i : ℕ) → IsUnused z i → slice_index words i ≡ 0

-- the keeper has the first seat, and each CPU one
abbrev pub Sits : (ℕ → ℕ) → ℕ → View → Type 0
Sits seat i (Keeper k) = i ≡ 0
Sits seat i (Cpu x) = i ≡ seat x.id
Sits seat i (Reference v) = Unit {0}
Sits seat i (Note h) = Unit {0}
Sits seat i Spent = Unit {0}

-- 1 for the seat of a local reference to n
abbrev pub reference_to : ℕ → View → ℕ
reference_to n (Keeper k) = 0
reference_to n (Cpu x) = 0
reference_to n (Reference v) = one_if (is_to n v.entry)
reference_to n (Note h) = 0
reference_to n Spent = 0

-- the keeper's view is at the first seat, and the view of each CPU below n at its own
pub record HaveViews (seat : ℕ → ℕ) (n : ℕ) (views : List View) : Type 0 where
  pub keeper : (k : KeeperView) × (get_elem? views 0 ≡ some (Keeper k))
  pub cpus : (c : ℕ) → c < n → (x : CpuView) × (get_elem? views (seat c) ≡ some (Cpu x)) × (x.id ≡ c)

-- each view is shown, no seated CPU's is missing, and the seats of references to n are as many as the core's live references to n
pub record ShowsViews (g : State) (seat : ℕ → ℕ) (views : List View) : Type 0 where
  pub fits : (i : ℕ) (v : View) → get_elem? views i ≡ some v → Sits seat i v × Shown g v
  pub each : HaveViews seat g.seated views
  pub references : (n : ℕ) → sum_by (reference_to n) views ≡ sum_by (standing_of n) g.locals

-- a CPU that has no seat yet has made no step
pub record IsFresh (g : State) (c : ℕ) : Type 0 where
  pub section : section_at g c ≡ 0
  pub depth : depth_at g c ≡ 0
  pub seen : seen_at g c ≡ 0
  pub passive : (t : ℕ) → passive_at g.passive c t ≡ 0
  pub nets : (t : ℕ) (e : Entry) → IsIn e (slot_at g.slots t) → count_at g.nets c t ≡ bias

-- a state of the core that a table can show
pub record Good (g : State) : Type 0 where
  pub holds : Holds g
  pub fresh : (c : ℕ) → g.seated ≤ c → c < g.settings.cpus → IsFresh g c

-- some such state shows the view
pub record IsShownAs (v : View) : Type 0 where
  pub g : State
  pub good : Good g
  pub shown : Shown g v

-- the keeper's, and a CPU's

abbrev pub IsShown : KeeperView → Type 0
IsShown k = IsShownAs (Keeper k)

abbrev pub IsShownCpu : CpuView → Type 0
IsShownCpu x = IsShownAs (Cpu x)

-- An event as its seat knows it. The ids of local references are the core's alone: in their place stands the number of the reference's entry.

abbrev pub number_or_none : Option ℕ → ℕ
number_or_none (Some n) = n
number_or_none None = 0

-- the number of the entry that the live reference is to
abbrev pub number_of_id : State → ℕ → ℕ
number_of_id s id = number_or_none (number_standing (local_at s.locals id))

abbrev pub record_by_number : State → RecordOf → RecordOf
record_by_number s (Local id k) = Local (number_of_id s id) k
record_by_number s r = r

abbrev pub by_number : State → Event → Event
by_number s (JoinRef c id) = JoinRef c (number_of_id s id)
by_number s (JoinKeeper id) = JoinKeeper (number_of_id s id)
by_number s (Keep t id) = Keep t (number_of_id s id)
by_number s (LoadRecord of) = LoadRecord (record_by_number s of)
by_number s e = e

abbrev pub reply_without_id : Reply → Reply
reply_without_id (Ref id) = Ref 0
reply_without_id r = r

-- an event with its reply; no note was heard
abbrev pub log_item : Event → Reply → LogItem
log_item e r = record { event = e; reply = r; teller = None }

-- exactly this event, as its seat knows it, with this reply
abbrev pub did : Event → Reply → List LogItem
did e r = log_item e (reply_without_id r) ∷ []

abbrev pub log_with : State → Event → Option Outcome → List LogItem → List LogItem
log_with s e None ds = ds
log_with s e (Some o) ds = did (by_number s e) o.reply ++ ds

-- the events of a run that were made, in order, each with its reply
abbrev pub log_from : Run → List Event → List LogItem
log_from r [] = []
log_from r (e ∷ es) = log_with r.state e (step r.state e) (log_from (run_with_event r (step r.state e)) es)

abbrev pub log_of_events : Settings → List Event → List LogItem
log_of_events z events = log_from (empty_run (opening z)) events

-- a list of events leads from the opening of the settings to the state
pub record Reached (z : Settings) (g : State) : Type 0 where
  pub events : List Event
  pub run : g ≡ after (opening z) events
  -- all were made: none was left out
  pub made : length (log_of_events z events) ≡ length events

-- there is a state of the core that the table shows, and events lead to it
pub record Ruled (z : Settings) (s : Table ℕ View) : Type 0 where
  pub g : State
  pub seat : ℕ → ℕ
  pub settings : g.settings ≡ z
  pub good : Good g
  pub reached : Reached z g
  pub words : Agrees z s.words g
  pub shows : ShowsViews g seat s.views

-- the table t is shown by a run that goes on with just these events and replies, and no CPU's seat is another
pub record GoesOn (z : Settings) (s : Table ℕ View) (r : Ruled z s) (new : List LogItem) (t : Table ℕ View) : Type 0 where
  pub ruled : Ruled z t
  pub goes_on : log_of_events z ruled.reached.events ≡ log_of_events z r.reached.events ++ new
  pub seated : r.g.seated ≤ ruled.g.seated
  pub seats : (c : ℕ) → c < r.g.seated → ruled.seat c ≡ r.seat c
