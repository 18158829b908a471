-- Destroying (psref(9), localcount(9)): what is known for good of an entry that is gone, of a driver that is kept, and of the end of a run.
use Rattle.std.specs.Prelude.{◌≡◌, ℕ, Some, ◌<◌, List, length, slice_index}
use mathlib.Core.List.{IsPrefix}
use mathlib.Core.Option.{some}
use lib.ListN.{get_elem?}
use Rattle.atomic_table.specs.Table.{State as Table}
use Rattle.cpu_words.specs.Types.{Entry, Settings, Event}
use Rattle.protocol.specs.Common.{IsAttached, EndsAt, State, opening, IsUnheld, picture, after, occupant_of, kept_at, empty_model, IsModelRun, HasConfirm, Holds, ObeysLaws}
use Rattle.cpu_words.specs.declared.view.CpuView.{CpuView}
use Rattle.cpu_words.specs.declared.view.EndedSeat.{EndedSeat}
use Rattle.cpu_words.specs.declared.view.KeeperView.{KeeperView}
use Rattle.cpu_words.specs.declared.view.Logged.{Logged}
use Rattle.cpu_words.specs.declared.view.View.{View}
use Rattle.cpu_words.specs.declared.view.View.TheVariants.{Keeper, Cpu}
use Rattle.cpu_words.specs.KeeperLog.{IsFreedFrom, IsAttachedKeeping}
use Rattle.cpu_words.specs.Logs.{without_logs, LoggedRuled, AreByOwn, events_of}
use Rattle.cpu_words.specs.Headline.{RunsAsLogged, SeatHolds}
use Rattle.cpu_words.specs.Held.{CountExactly, FreesNoLocals, FreesNoneHeld, passive_by}
use Rattle.cpu_words.specs.declared.view.LogItem.{LogItem}
use Rattle.cpu_words.specs.Spots.{index, live_of}
use Rattle.cpu_words.specs.Views.{CpuShown, KeeperShown, references_to}
use Rattle.cpu_words.specs.Rule.{Agrees, log_of_events}
use Rattle.cpu_words.specs.Steps.{part}

-- Destroying (psref(9), localcount(9)): what a seat knows of an entry for good, once it has heard that the keeper made its slot vacant.

-- In the state g, which shows these views, the entry n of the slot t is gone: it was attached and detached, has no slot, and nothing holds it.
pub record IsGone (g : State) (s : Table ℕ View) (t n : ℕ) : Type 0 where
  pub e : Entry
  pub number : e.number ≡ n
  pub slot : e.slot ≡ t
  pub attached : IsAttached g.history e
  pub ended : (p : ℕ) × EndsAt g.history n p
  -- its own slot is vacant, or has a later entry
  pub slotless : (u : ℕ) → occupant_of g u ≡ Some n → ⊥
  -- no open section may hold it, no CPU has a passive reference to it, no local reference to it is there, and no slot keeps one
  pub unheld : IsUnheld (picture g) n
  -- the same of each seat: no CPU, no local reference and no slot of the keeper's holds it
  pub seats : (j : ℕ) (v : View) → get_elem? s.views j ≡ some v → SeatHolds g.history e v → ⊥

-- so it is in the state that a list of events leads to, and that the table shows
pub record HasGone (z : Settings) (s : Table ℕ Logged) (t n : ℕ) : Type 0 where
  pub run : RunsAsLogged z s
  pub gone : IsGone (after (opening z) run.run.events) (without_logs s) t n

-- a seat has heard that the keeper made the slot vacant after the entry was detached from it: so much it knows of any later table
abbrev pub FreedIsGone : Type 0
FreedIsGone = (z : Settings) (s : Table ℕ Logged) (i : ℕ) (l : Logged) (t n : ℕ) → LoggedRuled z s → get_elem? s.views i ≡ some l → IsFreedFrom t n l.known_log → HasGone z s t n

-- and so does the keeper's own seat, by its own log
abbrev pub FreedByKeeper : Type 0
FreedByKeeper = (z : Settings) (s : Table ℕ Logged) (i : ℕ) (l : Logged) (k : KeeperView) (t n : ℕ) → LoggedRuled z s → get_elem? s.views i ≡ some l → l.view ≡ Keeper k → IsFreedFrom t n l.log
    → HasGone z s t n

-- Kept drivers: what a seat knows of an interface once it has heard that the keeper attached it in a slot that keeps a reference to its driver.

-- the slot t keeps a reference to the driver d, which has a slot
pub record KeepsDriver (g : State) (t d : ℕ) : Type 0 where
  pub kept : kept_at g.keeps t ≡ Some d
  pub slot : ℕ
  pub stands : occupant_of g slot ≡ Some d

-- as long as the interface n has the slot t, in the state that a list of events leads to, and that the table shows
pub record KeepsAsLong (z : Settings) (s : Table ℕ Logged) (t n d : ℕ) : Type 0 where
  pub run : RunsAsLogged z s
  pub keeps : occupant_of (after (opening z) run.run.events) t ≡ Some n → KeepsDriver (after (opening z) run.run.events) t d

-- a seat that has heard that the keeper attached n in the slot t, which kept d, knows this of the table, whatever it is now
abbrev pub AttachedKeeps : Type 0
AttachedKeeps = (z : Settings) (s : Table ℕ Logged) (i : ℕ) (l : Logged) (t n d : ℕ) → LoggedRuled z s → get_elem? s.views i ≡ some l → IsAttachedKeeping t n d l.known_log → KeepsAsLong z s t n d

-- The end of a run: no thread shares the words any more. What the laws say of the list of events that led to them.

-- the last words, and the settings that give them their places
pub record LastView : Type 0 where
  pub words : List ℕ
  pub settings : Settings

-- the words are those of a table under the rule, in which a CPU's seat has this view, did what its log says, and knows so much of the keeper's log
pub record HasClosed (z : Settings) (x : CpuView) (log known_log : List LogItem) (last : List ℕ) : Type 0 where
  pub table : Table ℕ Logged
  pub ruled : LoggedRuled z table
  pub words : table.words ≡ last
  pub place : ℕ
  pub seat : Logged
  pub at : get_elem? table.views place ≡ some seat
  pub view : seat.view ≡ Cpu x
  pub did : seat.log ≡ log
  pub knows : seat.known_log ≡ known_log

-- of an entry that the keeper freed: no slot has it, nothing holds it, and no live word is its number
pub record IsGoneFrom (z : Settings) (g : State) (last : List ℕ) (n : ℕ) : Type 0 where
  pub slotless : (t : ℕ) → occupant_of g t ≡ Some n → ⊥
  pub unheld : IsUnheld (picture g) n
  pub unlisted : (t : ℕ) → t < z.slots → slice_index last (index z (live_of t)) ≡ n → ⊥

-- a list of events leads from the opening to the last words: each was made, with its reply, by the seat at its place
pub record EndsRun (z : Settings) (k : KeeperView) (log : List LogItem) (last : List ℕ) : Type 0 where
  pub events : List Event
  pub acts : List (ℕ × LogItem)
  pub are : events_of acts ≡ log_of_events z events
  pub all : length acts ≡ length events
  -- the places of the CPUs' seats: the keeper's events were made by the keeper's seat, and each CPU's by that CPU's
  pub seat : ℕ → ℕ
  pub owners : AreByOwn seat (after (opening z) events).seated acts
  -- the words are those of the state that the events lead to
  pub words : Agrees z last (after (opening z) events)
  -- it has the core invariant, a run of the model reaches its picture, and all laws of the protocol hold of it
  pub holds : Holds (after (opening z) events)
  pub modelled : IsModelRun (HasConfirm (opening z) events) empty_model (picture (after (opening z) events))
  pub laws : ObeysLaws (after (opening z) events)
  -- the keeper's log is its whole part of the list, and the state has what its view has
  pub keeper : log ≡ part 0 acts
  pub shown : KeeperShown (after (opening z) events) k
  -- what the keeper freed by that log is gone
  pub gone : (t n : ℕ) → IsFreedFrom t n log → IsGoneFrom z (after (opening z) events) last n

-- so it ends for the CPU whose seat closed the table: its log is its whole part of the list, and the state has what its view has
pub record EndsRunFor (z : Settings) (x : CpuView) (log known_log : List LogItem) (last : List ℕ) : Type 0 where
  pub keeper : KeeperView
  pub keeper_log : List LogItem
  pub run : EndsRun z keeper keeper_log last
  pub own : part (run.seat x.id) run.acts ≡ log
  pub shown : CpuShown (after (opening z) run.events) x
  -- what it knew of the keeper's log and of the history begins these
  pub known : IsPrefix known_log keeper_log
  pub seen : IsPrefix x.pass keeper.history

-- so it is of every run that has ended
abbrev pub EndedRuns : Type 0
EndedRuns = (z : Settings) (x : CpuView) (log known_log : List LogItem) (last : List ℕ) → HasClosed z x log known_log last → EndsRunFor z x log known_log last

-- A run that the keeper ended, with the seats that it took over

-- a CPU's seat as it ended
abbrev pub cpu_end : CpuView → List LogItem → List LogItem → EndedSeat
cpu_end x log known_log = record { view = Cpu x; log = log; known_log = known_log }

-- the words are those of a table under the rule, in which the keeper's seat has this view, did what its log says, and took over these seats
pub record HaveClosed (z : Settings) (k : KeeperView) (log : List LogItem) (ends : List EndedSeat) (last : List ℕ) : Type 0 where
  pub table : Table ℕ Logged
  pub ruled : LoggedRuled z table
  pub words : table.words ≡ last
  pub place : ℕ
  pub seat : Logged
  pub at : get_elem? table.views place ≡ some seat
  pub view : seat.view ≡ Keeper k
  pub did : seat.log ≡ log
  pub took : seat.ends ≡ ends

-- a CPU's log is its whole part of the list, the last state has what its view has, and what it knew of the keeper's log and of the history begins these
pub record IsWholeIn {z : Settings} {k : KeeperView} {log : List LogItem} {last : List ℕ} (run : EndsRun z k log last) (x : CpuView) (did known_log : List LogItem) : Type 0 where
  pub own : part (run.seat x.id) run.acts ≡ did
  pub shown : CpuShown (after (opening z) run.events) x
  pub known : IsPrefix known_log log
  pub seen : IsPrefix x.pass k.history
  -- it has exactly the passive references that its log says
  pub references : (n : ℕ) → passive_by n did ≡ references_to n x.references

-- one list for the keeper and for each CPU that it took over
pub record EndsRunForAll (z : Settings) (k : KeeperView) (log : List LogItem) (ends : List EndedSeat) (last : List ℕ) : Type 0 where
  pub run : EndsRun z k log last
  pub each : (i : ℕ) (x : CpuView) (did known_log : List LogItem) → get_elem? ends i ≡ some (cpu_end x did known_log) → IsWholeIn run x did known_log
  -- no entry was freed while a CPU held it
  pub held : FreesNoneHeld run.seat (after (opening z) run.events).seated run.acts
  -- nor while there was a local reference to it, by all logs
  pub locals : FreesNoLocals run.seat (after (opening z) run.events).seated run.acts
  -- what the logs count is just what there was
  pub exact : CountExactly z run.events run.seat run.acts

-- so it is of every run that has ended so
abbrev pub EndedRunsForAll : Type 0
EndedRunsForAll = (z : Settings) (k : KeeperView) (log : List LogItem) (ends : List EndedSeat) (last : List ℕ) → HaveClosed z k log ends last → EndsRunForAll z k log ends last
