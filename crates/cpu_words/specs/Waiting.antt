-- Waiting for open sections (pserialize(9)), and one list that only grows: what a seat knew of it stands before all that another one has done since.
use Rattle.std.specs.Prelude.{◌≡◌, ℕ, List, ◌∷◌, ◌++◌, ◌<◌, ◌≤◌, length, take, Some, None}
use mathlib.Core.Option.{some}
use mathlib.Core.List.{IsPrefix}
use lib.ListN.{get_elem?}
use Rattle.atomic_table.specs.Table.{State as Table}
use Rattle.cpu_words.specs.Types.{Settings, Entry, Event}
use Rattle.protocol.specs.Common.{EndsAt, opening, section_at, begin_at, after, HasExit}
use Rattle.cpu_words.specs.declared.view.LogItem.{LogItem}
use Rattle.cpu_words.specs.declared.view.Logged.{Logged}
use Rattle.cpu_words.specs.Steps.{part}
use Rattle.cpu_words.specs.Logs.{IsStanding, LoggedRuled, without_logs}
use Rattle.cpu_words.specs.Headline.{RunsAsLogged, SectionMayHold}
use Rattle.cpu_words.specs.declared.view.CpuView.{CpuView}
use Rattle.cpu_words.specs.declared.view.KeeperView.{KeeperView}
use Rattle.cpu_words.specs.declared.view.Teller.{Teller}
use Rattle.cpu_words.specs.declared.view.View.TheVariants.{Keeper, Cpu}
use Rattle.cpu_words.specs.KeeperLog.{changes_in, HasHeardFrom, HasWaited, IsSeenOut}

-- One list that only grows: what a seat knew of it at one moment stands, at any later one, before all that any seat did since.

-- A table at two moments, s and later t, and two of its seats, or one twice. By the contracts of the steps the list that a seat knows only grows, and so does its log.
pub record TwoMoments (z : Settings) (s t : Table ℕ Logged) (i j : ℕ) : Type 0 where
  pub earlier : LoggedRuled z s
  pub later : LoggedRuled z t
  -- the seat i knew the list `list` at s
  pub knower : Logged
  pub knew : get_elem? s.views i ≡ some knower
  pub knows : Logged
  pub now : get_elem? t.views i ≡ some knows
  pub grows : IsPrefix knower.list knows.list
  -- the seat j did `since` after s
  pub doer : Logged
  pub did : get_elem? s.views j ≡ some doer
  pub stood : IsStanding doer.view
  pub does : Logged
  pub done : get_elem? t.views j ≡ some does
  pub stands : IsStanding does.view
  pub since : List LogItem
  pub goes_on : does.log ≡ doer.log ++ since

-- The item of j's is in the list past all that i knew at s.
pub record StandsPast {z : Settings} {s t : Table ℕ Logged} {i j : ℕ} (m : TwoMoments z s t i j) (r : RunsAsLogged z t) (before : List LogItem) (d : LogItem) : Type 0 where
  pub first : List (ℕ × LogItem)
  pub rest : List (ℕ × LogItem)
  pub are : r.acts ≡ first ++ (j, d) ∷ rest
  pub own : part j first ≡ m.doer.log ++ before
  pub past : IsPrefix m.knower.list first

-- so is each item of `since`, in any list that explains the table at t
abbrev pub OrderedInTime : Type 0
OrderedInTime = (z : Settings) (s t : Table ℕ Logged) (i j : ℕ) (m : TwoMoments z s t i j) (r : RunsAsLogged z t) (before after : List LogItem) (d : LogItem) → m.since ≡ before ++ d ∷ after
    → StandsPast m r before d

-- Waiting for open sections (pserialize(9)): what a seat knows of all CPUs by what it has heard of the keeper's log.

-- Of one CPU: the keeper took its section word in `looks`, after it had done `before`. The section that was open on this CPU at that load has ended, also one that began after `before`.
pub record HasEndedOn (z : Settings) (s : Table ℕ Logged) (r : RunsAsLogged z s) (before looks : List LogItem) (c : ℕ) : Type 0 where
  pub seen : IsSeenOut c looks
  -- the events until the load, and those since
  pub earlier : List Event
  pub later : List Event
  pub are : r.run.events ≡ earlier ++ later
  pub did : part 0 (take (length earlier) r.acts) ≡ before ++ seen.before
  pub taken : section_at (after (opening z) earlier) c ≡ seen.old
  -- there was its exit
  pub exits : (b : ℕ) → begin_at (after (opening z) earlier) c ≡ Some b → HasExit (after (opening z) earlier) c later
  -- so a section of it that is open now began later
  pub begun : (b : ℕ) → begin_at (after (opening z) r.run.events) c ≡ Some b → length (after (opening z) earlier).history ≤ b

-- The list was cut in two at some moment. Each section that was open at that moment, on any CPU, has ended, and the history had no more
-- changes then.
pub record HasEndedSince (z : Settings) (first rest : List Event) (most : ℕ) : Type 0 where
  pub exits : (c b : ℕ) → c < z.cpus → begin_at (after (opening z) first) c ≡ Some b → HasExit (after (opening z) first) c rest
  pub changes : length (after (opening z) first).history ≤ most

-- The moment is one before the CPU of h had made so many events: the part of its seat until then is shorter.
abbrev pub IsBeforeTelling : {z : Settings} {s : Table ℕ Logged} → RunsAsLogged z s → Teller → List Event → Type 0
IsBeforeTelling r h first = length (part (r.run.seat h.cpu) (take (length first) r.acts)) < h.events

-- Before it told, the CPU of h had heard a note of k's: in its own log, which is the part of its seat.
pub record HadHeard {z : Settings} {s : Table ℕ Logged} (r : RunsAsLogged z s) (h k : Teller) : Type 0 where
  pub log : List LogItem
  pub more : List LogItem
  pub own : part (r.run.seat h.cpu) r.acts ≡ log ++ more
  pub few : length log < h.events
  pub heard : HasHeardFrom (Some h.cpu) k log

-- Each section that was open when the keeper had done just `before` has ended: so it is of a list of events that leads to what the table shows.
pub record HaveEnded (z : Settings) (s : Table ℕ Logged) (before looks : List LogItem) : Type 0 where
  pub run : RunsAsLogged z s
  -- the events until then, and those since
  pub earlier : List Event
  pub since : List Event
  pub are : run.run.events ≡ earlier ++ since
  pub did : part 0 (take (length earlier) run.acts) ≡ before
  -- the history had as many changes then as the keeper's log says
  pub changes : length (after (opening z) earlier).history ≡ changes_in before
  -- a section of a CPU that was open then has ended: there was its exit
  pub exits : (c b : ℕ) → c < z.cpus → begin_at (after (opening z) earlier) c ≡ Some b → HasExit (after (opening z) earlier) c since
  -- and so has the section that was open on a CPU as the keeper took this CPU's word
  pub each : (c : ℕ) → c < z.cpus → HasEndedOn z s run before looks c
  -- if the keeper had heard a note by then, so has each section that was open at a moment before the note was told. The begin of the call
  -- that told it is such a moment
  pub told : (h : Teller) (first rest : List Event) → HasHeardFrom None h before → run.run.events ≡ first ++ rest → IsBeforeTelling run h first → HasEndedSince z first rest (changes_in before)
  -- and before any note was told that the teller had heard by then: so what the teller knew of by notes is among it
  pub heard : (h k : Teller) (first rest : List Event) → HasHeardFrom None h before → HadHeard run h k → run.run.events ≡ first ++ rest → IsBeforeTelling run k first
      → HasEndedSince z first rest (changes_in before)
  -- so a section that is open now began later
  pub begun : (c b : ℕ) → begin_at (after (opening z) run.run.events) c ≡ Some b → changes_in before ≤ b
  -- and no open section may hold an entry that was detached by then
  pub none : (i j p : ℕ) (k : KeeperView) (x : CpuView) (e : Entry) → get_elem? (without_logs s).views i ≡ some (Keeper k) → get_elem? (without_logs s).views j ≡ some (Cpu x)
      → EndsAt k.history e.number p → p ≤ changes_in before → SectionMayHold k.history e x → ⊥

-- a seat that has heard that the keeper saw each CPU out of a section, after it had done `before`, knows this of the table, whatever it is now
abbrev pub WaitingEnds : Type 0
WaitingEnds = (z : Settings) (s : Table ℕ Logged) (i : ℕ) (l : Logged) (before since : List LogItem) → LoggedRuled z s → get_elem? s.views i ≡ some l → l.known_log ≡ before ++ since
    → HasWaited since z.cpus → HaveEnded z s before since
