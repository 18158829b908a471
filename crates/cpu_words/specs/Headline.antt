-- The laws of the protocol on the words, of any table under the rule: the headline, holders, honest marks, the balance over all seats.
use Rattle.std.specs.Prelude.{◌≡◌, ◌⊎◌, ℕ, ◌<◌, List, length, Some, true, slice_index, ◌+◌, ◌*◌, sum_by}
use mathlib.Core.Option.{some}
use mathlib.Core.List.{IsPrefix}
use lib.ListN.{get_elem?}
use Rattle.atomic_table.specs.Table.{State as Table}
use Rattle.cpu_words.specs.Types.{Entry, Change, Mark, Settings, Retired, Event, Rest}
use Rattle.registry_values.specs.Common.{slot_at, bias}
use Rattle.protocol.specs.Common.{IsAttached, MayHold, opening, mark_at, kept_at, IsIn, empty_model, IsUnheld, IsModelRun, HasConfirm, picture, after, ObeysLaws, one_if, one_if_used, kept_of, addition_due_at, is_adding_at, subtraction_due_at}
use Rattle.cpu_words.specs.declared.view.InHand.{InHand}
use Rattle.cpu_words.specs.declared.view.InHand.TheVariants.{Empty, Taking, Giving, Back, Trying}
use Rattle.cpu_words.specs.declared.view.CpuView.{CpuView}
use Rattle.cpu_words.specs.declared.view.KeeperView.{KeeperView}
use Rattle.cpu_words.specs.declared.view.LogItem.{LogItem}
use Rattle.cpu_words.specs.declared.view.Logged.{Logged}
use Rattle.cpu_words.specs.declared.view.View.{View}
use Rattle.cpu_words.specs.declared.view.View.TheVariants.{Keeper, Cpu, Reference, Note, Spent}
use Rattle.cpu_words.specs.Spots.{passive_of, count_of, index, total_of}
use Rattle.cpu_words.specs.Views.{references_to, trying_in, is_to}
use Rattle.cpu_words.specs.Rule.{Agrees, ShowsViews, Good, Ruled, log_of_events, reference_to}
use Rattle.cpu_words.specs.Steps.{part}
use Rattle.cpu_words.specs.Logs.{without_logs, events_of, IsStanding, AreByOwn, AreToldBefore, HasHeardAll, Knows, LoggedRuled}
use Rattle.cpu_words.specs.Draining.{IsDrained}
use Rattle.cpu_words.specs.KeeperLog.{sum_below}

-- The laws of the protocol on the words: of any table under the rule, a list of events leads to a state that the words and all views show,
-- and that state obeys all laws. So what a seat holds has its slot, and marks are honest.

-- The headline of the running words

-- a list of events from the opening, and a seat for each CPU, such that the state after the events is what the table shows; and it obeys the laws
pub record RunsLawfully (z : Settings) (s : Table ℕ View) : Type 0 where
  pub events : List Event
  pub seat : ℕ → ℕ
  -- the words and the views of all seats show the state
  pub settings : (after (opening z) events).settings ≡ z
  pub words : Agrees z s.words (after (opening z) events)
  pub shows : ShowsViews (after (opening z) events) seat s.views
  -- it has the core invariant, and a CPU without a seat has made no step
  pub good : Good (after (opening z) events)
  -- a run of the model reaches its picture; where no event is a Confirm, it takes no reference without a section
  pub modelled : IsModelRun (HasConfirm (opening z) events) empty_model (picture (after (opening z) events))
  -- all laws of the protocol hold: the headline, safe reuse, drivers that outlive interfaces, lawful and fresh answers, whole passes, balance at
  -- rest, the grace law and what is kept
  pub laws : ObeysLaws (after (opening z) events)

-- and what the seats did is that list: each event with its reply and the place of the seat that made it, and each seat's log is its part
pub record RunsAsLogged (z : Settings) (s : Table ℕ Logged) : Type 0 where
  pub run : RunsLawfully z (without_logs s)
  pub acts : List (ℕ × LogItem)
  pub are : events_of acts ≡ log_of_events z run.events
  pub all : length acts ≡ length run.events
  pub owners : AreByOwn run.seat (after (opening z) run.events).seated acts
  pub logs : (i : ℕ) (l : Logged) → get_elem? s.views i ≡ some l → IsStanding l.view → l.log ≡ part i acts
  -- what a seat has heard of the keeper's log is a prefix of the keeper's part
  pub known : (i : ℕ) (l : Logged) → get_elem? s.views i ≡ some l → Knows l (part 0 acts)
  -- where a seat heard a CPU's note, its log says how far that CPU had come: so many events of it were made before
  pub told : AreToldBefore run.seat (after (opening z) run.events).seated acts
  -- the list that a seat's last step on a word left begins it
  pub lists : (i : ℕ) (l : Logged) → get_elem? s.views i ≡ some l → IsPrefix l.list acts
  -- what a CPU knows of the keeper's log is all that the keeper had done as that CPU heard last, or more
  pub heard : (i : ℕ) (l : Logged) → get_elem? s.views i ≡ some l → IsStanding l.view → HasHeardAll i l acts

-- so it is of any table under the rule
abbrev pub RunningHeadline : Type 0
RunningHeadline = (z : Settings) (s : Table ℕ Logged) → LoggedRuled z s → RunsAsLogged z s

-- Holders: h is the keeper's history

-- an open section of the CPU may hold e
abbrev pub SectionMayHold : List Change → Entry → CpuView → Type 0
SectionMayHold h e x = (b : ℕ) × (x.begin ≡ Some b) × MayHold h b e

-- a local reference to n is in the hand; what a CPU is trying is no reference
abbrev pub IsInHand : ℕ → InHand → Type 0
IsInHand n Empty = ⊥
IsInHand n (Taking e) = e.number ≡ n
IsInHand n (Giving e) = e.number ≡ n
IsInHand n (Back e) = e.number ≡ n
IsInHand n (Trying e) = ⊥

-- a CPU's open section may hold e, or it has a passive reference to e, or a local one in its hand
abbrev pub CpuHolds : List Change → Entry → CpuView → Type 0
CpuHolds h e x = SectionMayHold h e x ⊎ (0 < references_to e.number x.references) ⊎ IsInHand e.number x.hand

-- what the seat knows of holds e: a CPU; a local reference to e; a slot of the keeper's that keeps one
abbrev pub SeatHolds : List Change → Entry → View → Type 0
SeatHolds h e (Keeper k) = (t : ℕ) × (kept_at k.keeps t ≡ Some e.number)
SeatHolds h e (Cpu x) = CpuHolds h e x
SeatHolds h e (Reference v) = v.entry.number ≡ e.number
SeatHolds h e (Note l) = ⊥
SeatHolds h e Spent = ⊥

-- an entry that some seat holds has its slot, live or retired
abbrev pub HeldHaveSlots : Type 0
HeldHaveSlots = (z : Settings) (s : Table ℕ View) (i j : ℕ) (k : KeeperView) (v : View) (e : Entry) → Ruled z s → get_elem? s.views i ≡ some (Keeper k) → get_elem? s.views j ≡ some v
    → IsAttached k.history e → SeatHolds k.history e v → IsIn e (slot_at k.slots e.slot)

-- Honest marks

-- nothing holds e: in the state that the table shows, and no seat
pub record IsFree (z : Settings) (s : Table ℕ View) (h : List Change) (e : Entry) : Type 0 where
  pub run : RunsLawfully z s
  pub unheld : IsUnheld (picture (after (opening z) run.events)) e.number
  pub seats : (j : ℕ) (v : View) → get_elem? s.views j ≡ some v → SeatHolds h e v → ⊥

-- the keeper's seat has all marks of the slot t, and its total is only the bias: its entry is free
abbrev pub DrainedIsFree : Type 0
DrainedIsFree = (z : Settings) (s : Table ℕ View) (i t : ℕ) (k : KeeperView) → Ruled z s → get_elem? s.views i ≡ some (Keeper k)
    → (drained : IsDrained k t) → IsFree z s k.history drained.retired.0

-- what the mark m of one CPU at the slot t of e tells: of its view, and of its own words for the slot
pub record MarkTells (z : Settings) (words : List ℕ) (h : List Change) (t : ℕ) (e : Entry) (m : Mark) (x : CpuView) : Type 0 where
  pub passed : m.passed ≡ true → SectionMayHold h e x → ⊥
  -- the passive word counts what the CPU is trying there, and no reference
  pub clear : m.clear ≡ true → (m.passed ≡ true) × (references_to e.number x.references ≡ 0) × (slice_index words (index z (passive_of x.id t)) ≡ trying_in t x.hand)
  pub collected : m.collected ≡ true → (m.clear ≡ true) × (slice_index words (index z (count_of x.id t)) ≡ 0)

-- each mark of a retired entry's slot is so of its CPU
abbrev pub MarksAreHonest : Type 0
MarksAreHonest = (z : Settings) (s : Table ℕ View) (i j t : ℕ) (k : KeeperView) (x : CpuView) (e : Entry) → Ruled z s → get_elem? s.views i ≡ some (Keeper k) → get_elem? s.views j ≡ some (Cpu x)
    → slot_at k.slots t ≡ Retired e → MarkTells z s.words k.history t e (mark_at k.marks t x.id) x

-- what a CPU found last its open section may hold
abbrev pub FoundIsHeld : Type 0
FoundIsHeld = (z : Settings) (s : Table ℕ View) (i j : ℕ) (k : KeeperView) (x : CpuView) (e : Entry) → Ruled z s → get_elem? s.views i ≡ some (Keeper k) → get_elem? s.views j ≡ some (Cpu x)
    → x.found ≡ Some e → SectionMayHold k.history e x

-- The balance over all seats (localcount(9)): the words of a slot and the views of the seats say how many local references to its entry there are, and no state of the core does.

-- the words of the slot t: the CPU c's count word, and the total

abbrev pub count_word : Settings → List ℕ → ℕ → ℕ → ℕ
count_word z words t c = slice_index words (index z (count_of c t))

abbrev pub total_word : Settings → List ℕ → ℕ → ℕ
total_word z words t = slice_index words (index z (total_of t))

-- 1 where a local reference to n is in the hand
abbrev pub in_hand_to : ℕ → InHand → ℕ
in_hand_to n Empty = 0
in_hand_to n (Taking e) = one_if (is_to n e)
in_hand_to n (Giving e) = one_if (is_to n e)
in_hand_to n (Back e) = one_if (is_to n e)
in_hand_to n (Trying e) = 0

-- 1 for the seat of a CPU that has a reference to n in its hand
abbrev pub hand_to : ℕ → View → ℕ
hand_to n (Keeper k) = 0
hand_to n (Cpu x) = in_hand_to n x.hand
hand_to n (Reference v) = 0
hand_to n (Note h) = 0
hand_to n Spent = 0

-- the local references to n: live seats of references, hands of CPUs, and slots that keep one
abbrev pub held_by_seats : List View → KeeperView → ℕ → ℕ
held_by_seats views k n = sum_by (reference_to n) views + sum_by (hand_to n) views + sum_by (kept_of n) k.keeps

-- the CPU c has exactly one seat
pub record HasOneSeat (views : List View) (c : ℕ) : Type 0 where
  pub place : ℕ
  pub view : CpuView
  pub at : get_elem? views place ≡ some (Cpu view)
  pub id : view.id ≡ c
  pub only : (j : ℕ) (x : CpuView) → get_elem? views j ≡ some (Cpu x) → x.id ≡ c → j ≡ place

-- Of the entry n in the slot t: the count words of all CPUs and the total, less the bias of the total and of each count word that isn't 0, are the references held.
pub record IsBalanced (z : Settings) (cpus : ℕ) (words : List ℕ) (views : List View) (k : KeeperView) (t n : ℕ) : Type 0 where
  -- where the keeper is half way: a word that it has collected, and its bias, it still has to add to the total; a reference that it has joined it still has to subtract
  pub balance : sum_below (count_word z words t) cpus + total_word z words t + addition_due_at t k.due
      ≡ held_by_seats views k n + subtraction_due_at t k.due + bias * (1 + sum_below (λ c. one_if_used (count_word z words t c)) cpus + is_adding_at t k.due)
  pub at_rest : k.due ≡ Rest → sum_below (count_word z words t) cpus + total_word z words t ≡ held_by_seats views k n + bias * (1 + sum_below (λ c. one_if_used (count_word z words t c)) cpus)
  -- the hands are those of all CPUs that the keeper has seated, each once
  pub hands : (c : ℕ) → c < k.seated → HasOneSeat views c
  pub seated : (j : ℕ) (x : CpuView) → get_elem? views j ≡ some (Cpu x) → x.id < k.seated

-- so it is of each live or retired entry of any table under the rule
abbrev pub SeatsBalance : Type 0
SeatsBalance = (z : Settings) (s : Table ℕ View) (i t : ℕ) (k : KeeperView) (e : Entry) → Ruled z s → get_elem? s.views i ≡ some (Keeper k) → IsIn e (slot_at k.slots t)
    → IsBalanced z z.cpus s.words s.views k t e.number
