-- What each seat did, and what it has heard of the keeper's log: beside its view stands its log, and the rule says that this is the list's part by that seat.
use Rattle.std.specs.Prelude.{true, false, ◌≡◌, ℕ, suc, ◌<◌, ◌≤◌, List, [], ◌∷◌, ◌++◌, map, length, Option, Some, None}
use mathlib.Core.Option.{some}
use mathlib.Core.List.{IsPrefix}
use lib.ListN.{get_elem?}
use Rattle.atomic_table.specs.Table.{State as Table, Step, Me}
use Rattle.cpu_words.specs.Types.{Settings, Event, Seat, Enter, Exit, Seek, LoadLink, LoadRecord, Tell, Hear, PassiveAdd, PassiveSub, CountAdd, SplitRef, JoinRef, CountDown, SplitBack, Recall, RecallHead, Refind, Try, Confirm, TakeBack}
use Rattle.cpu_words.specs.Types.{StoreSlot, StoreNext, Publish, Unpublish, Republish, Snapshot, Look, PassiveLook, Collect, TotalAdd, JoinKeeper, TotalSub, Keep, KeptSub, Vacate, Show, Hide, Passive, Local, Compared, Done, Ref}
use Rattle.protocol.specs.declared.event.RecordOf.TheVariants.{Search as OfSearch}
use Rattle.cpu_words.specs.declared.view.InHand.{InHand}
use Rattle.cpu_words.specs.declared.view.InHand.TheVariants.{Empty as NoEntry, Taking as TakingEntry, Giving as GivingEntry, Back as BackEntry, Trying as TryingEntry}
use Rattle.cpu_words.specs.declared.view.CpuView.{CpuView}
use Rattle.cpu_words.specs.declared.view.EndedSeat.{EndedSeat}
use Rattle.cpu_words.specs.declared.view.KeeperView.{KeeperView}
use Rattle.cpu_words.specs.declared.view.LogItem.{LogItem}
use Rattle.cpu_words.specs.declared.view.Teller.{Teller}
use Rattle.cpu_words.specs.declared.view.Logged.{Logged}
use Rattle.cpu_words.specs.declared.view.View.{View}
use Rattle.cpu_words.specs.declared.view.View.TheVariants.{Keeper, Cpu, Reference, Note, Spent}
use Rattle.cpu_words.specs.Steps.{part, is_border, is_hear, HasNone, ListGoesOn}
use Rattle.cpu_words.specs.Views.{Seated, first_view, cpu_of, keeper_of, reference_of}
use Rattle.cpu_words.specs.Rule.{did, log_item, log_of_events, Ruled}
use Rattle.cpu_words.specs.KeeperLog.{KnownLogGrows, heard_from, IsOwnLog, IsShownAfter}

-- the table without the logs
abbrev pub without_logs : Table ℕ Logged → Table ℕ View
without_logs s = record { words = s.words; homes = s.homes; views = map (λ (l : Logged). l.view) s.views }

-- Who told the notes that were heard

-- the CPU had made so many events by then: they are in its seat's part
pub record HasCome (seat : ℕ → ℕ) (n : ℕ) (acts : List (ℕ × LogItem)) (h : Teller) : Type 0 where
  pub seated : h.cpu < n
  pub events : h.events ≤ length (part (seat h.cpu) acts)

abbrev pub HasComeIf : (ℕ → ℕ) → ℕ → List (ℕ × LogItem) → Option Teller → Type 0
HasComeIf seat n acts None = Unit {0}
HasComeIf seat n acts (Some h) = HasCome seat n acts h

-- only a Hear has a teller
abbrev pub teller_if : Event → Option Teller → Option Teller
teller_if (Hear by) h = h
teller_if e h = None

-- where a seat heard a CPU's note, that CPU had come so far before
pub record IsToldBefore (seat : ℕ → ℕ) (n : ℕ) (first : List (ℕ × LogItem)) (d : LogItem) : Type 0 where
  pub only : d.teller ≡ teller_if d.event d.teller
  pub before : HasComeIf seat n first d.teller

-- so it is of each item, by what was done before it
abbrev pub AreToldBefore : (ℕ → ℕ) → ℕ → List (ℕ × LogItem) → Type 0
AreToldBefore seat n acts = (i : ℕ) (d : LogItem) (first rest : List (ℕ × LogItem)) → acts ≡ first ++ (i, d) ∷ rest → IsToldBefore seat n first d

-- an item as its event and reply alone
abbrev pub untold : LogItem → LogItem
untold d = log_item d.event d.reply

abbrev pub events_of : List (ℕ × LogItem) → List LogItem
events_of acts = map (λ (a : ℕ × LogItem). untold a.1) acts

-- a seat that wasn't joined into another
abbrev pub IsStanding : View → Type 0
IsStanding (Keeper k) = Unit {0}
IsStanding (Cpu x) = Unit {0}
IsStanding (Reference v) = Unit {0}
IsStanding (Note h) = Unit {0}
IsStanding Spent = ⊥

-- Whose an event is: the keeper's, a CPU's, or neither's, as a local reference's load is
pub data Maker : Type 0 where
  the_keeper : Maker
  the_cpu : ℕ → Maker
  another : Maker

abbrev pub maker_of_note : Option ℕ → Maker
maker_of_note None = the_keeper
maker_of_note (Some c) = the_cpu c

abbrev pub maker : Event → Maker
maker (Seat c) = the_keeper
maker (Enter c) = the_cpu c
maker (Exit c) = the_cpu c
maker (Seek c kind name) = the_cpu c
maker (LoadLink c) = the_cpu c
maker (LoadRecord (OfSearch c)) = the_cpu c
maker (LoadRecord (Passive c n k)) = the_cpu c
maker (LoadRecord (Local id k)) = another
maker (LoadRecord (Compared c)) = the_cpu c
maker (StoreSlot t k v) = the_keeper
maker (StoreNext t v) = the_keeper
maker (Publish t) = the_keeper
maker (Unpublish t) = the_keeper
maker (Republish t u) = the_keeper
maker (Tell who) = maker_of_note who
maker (Hear who) = maker_of_note who
maker (Snapshot t c) = the_keeper
maker (Look t c) = the_keeper
maker (PassiveAdd c n) = the_cpu c
maker (PassiveSub c n) = the_cpu c
maker (PassiveLook t c) = the_keeper
maker (CountAdd c) = the_cpu c
maker (SplitRef c) = the_cpu c
maker (JoinRef c id) = the_cpu c
maker (CountDown c) = the_cpu c
maker (SplitBack c) = the_cpu c
maker (Collect t c) = the_keeper
maker (TotalAdd t) = the_keeper
maker (JoinKeeper id) = the_keeper
maker (TotalSub t) = the_keeper
maker (Keep t id) = the_keeper
maker (KeptSub t) = the_keeper
maker (Vacate t) = the_keeper
maker (Show t) = the_keeper
maker (Hide t) = the_keeper
maker (Recall c t) = the_cpu c
maker (RecallHead c) = the_cpu c
maker (Refind c t n) = the_cpu c
maker (Try c t n) = the_cpu c
maker (Confirm c) = the_cpu c
maker (TakeBack c) = the_cpu c

abbrev pub who : View → Maker
who (Keeper k) = the_keeper
who (Cpu x) = the_cpu x.id
who (Reference v) = another
who (Note h) = another
who Spent = another

-- all are events of one maker
abbrev pub AreBy : Maker → List LogItem → Type 0
AreBy m [] = Unit {0}
AreBy m (d ∷ ds) = (maker d.event ≡ m) × AreBy m ds

-- the seat i is the maker's: the keeper has the first, and each of the n CPUs its own
abbrev pub IsSeatOf : (ℕ → ℕ) → ℕ → ℕ → Maker → Type 0
IsSeatOf seat n i the_keeper = i ≡ 0
IsSeatOf seat n i (the_cpu c) = (i ≡ seat c) × (c < n)
IsSeatOf seat n i another = Unit {0}

-- each event was made by the seat whose it is
abbrev pub AreByOwn : (ℕ → ℕ) → ℕ → List (ℕ × LogItem) → Type 0
AreByOwn seat n [] = Unit {0}
AreByOwn seat n (a ∷ rest) = IsSeatOf seat n a.0 (maker a.1.event) × AreByOwn seat n rest

-- of what the keeper did, which is `all`, the seat has heard a prefix, and so had the teller of the note beside its view
abbrev pub Knows : Logged → List LogItem → Type 0
Knows l all = IsPrefix l.known_log all × IsPrefix l.noted_log all

-- the list that the seat knows has each enter and exit of its own: what it lacks of the log are no such events
pub record HasItsSections (i : ℕ) (l : Logged) : Type 0 where
  pub lacks : List LogItem
  pub are : l.log ≡ part i l.list ++ lacks
  pub none : HasNone is_border lacks

-- where the seat, a CPU's, heard a note, it knows since all that the keeper had done by then
abbrev pub HasHeardAll : ℕ → Logged → List (ℕ × LogItem) → Type 0
HasHeardAll i l acts = (d : LogItem) (first rest : List (ℕ × LogItem)) → acts ≡ first ++ (i, d) ∷ rest → is_hear d.event ≡ true → IsPrefix (part 0 first) l.known_log

-- Seats that have ended

-- the seat as it is, for whoever takes it over
abbrev pub end_of : Logged → EndedSeat
end_of l = record { view = l.view; log = l.log; known_log = l.known_log }

-- the seat has ended, and is still there as it was
pub record IsStillThere (views : List Logged) (e : EndedSeat) : Type 0 where
  pub place : ℕ
  pub seat : Logged
  pub at : get_elem? views place ≡ some seat
  pub ended : seat.ended ≡ true
  pub is : end_of seat ≡ e

-- so is each of them
abbrev pub AreStillThere : List Logged → List EndedSeat → Type 0
AreStillThere views ends = (n : ℕ) (e : EndedSeat) → get_elem? ends n ≡ some e → IsStillThere views e

-- the rule: the list's events are those of the seats' logs, each by its own seat; each log is its seat's part, and each known log is a prefix of the keeper's
pub record LoggedRuled (z : Settings) (s : Table ℕ Logged) : Type 0 where
  pub run : Ruled z (without_logs s)
  pub acts : List (ℕ × LogItem)
  pub are : events_of acts ≡ log_of_events z run.reached.events
  pub owners : AreByOwn run.seat run.g.seated acts
  pub logs : (i : ℕ) (l : Logged) → get_elem? s.views i ≡ some l → IsStanding l.view → l.log ≡ part i acts
  -- a seat that isn't there yet did nothing
  pub unseated : (i : ℕ) → length s.views ≤ i → part i acts ≡ []
  -- a seat's known log, and that of the note beside its view, are prefixes of what the keeper did
  pub known : (i : ℕ) (l : Logged) → get_elem? s.views i ≡ some l → Knows l (part 0 acts)
  -- where a seat heard a note, and where a note stands or lies beside a view, its teller had come so far
  pub told : AreToldBefore run.seat run.g.seated acts
  pub tellers : (i : ℕ) (l : Logged) → get_elem? s.views i ≡ some l → HasComeIf run.seat run.g.seated acts l.teller
  -- the list that a seat's last step left begins the list
  pub lists : (i : ℕ) (l : Logged) → get_elem? s.views i ≡ some l → IsPrefix l.list acts
  -- and has each section of the seat's own
  pub sections : (i : ℕ) (l : Logged) → get_elem? s.views i ≡ some l → IsStanding l.view → HasItsSections i l
  -- what a CPU knows of the keeper's log is all that the keeper had done as that CPU heard last, or more
  pub heard : (i : ℕ) (l : Logged) → get_elem? s.views i ≡ some l → IsStanding l.view → HasHeardAll i l acts
  -- what a seat took over is still there as it was
  pub ends : (i : ℕ) (l : Logged) → get_elem? s.views i ≡ some l → AreStillThere s.views l.ends

-- the keeper's seat, alone
abbrev pub first_logged : Settings → Logged
first_logged z = record { view = first_view z; log = []; known_log = []; noted_log = []; teller = None; list = []; ends = []; ended = false }

-- What a step is told: the seat stays of its kind, takes no slots, its log goes on with just these events, its known log stays, and the tale holds

abbrev pub IsTold : {X : Type 0} → (X → View) → (View → X) → (X → ℕ → List LogItem) → (X → ℕ → X → Type 0) → Step ℕ → Me ℕ Logged → ℕ → Me ℕ Logged → Type 0
IsTold as_view of_view does tells st m n l =
    (l ≡ (record m.0 { view = as_view (of_view l.0.view); log = l.0.log; list = l.0.list }, m.1)) × (l.0.log ≡ m.0.log ++ does (of_view m.0.view) n) × tells (of_view m.0.view) n (of_view l.0.view)
    × ListGoesOn m.0.list l.0.log l.0.list

-- A load that hears. A CPU's seat has heard then what the keeper did: what it had heard, and what the note told, are prefixes of that, and some state shows its view in which the keeper had done just
-- this
abbrev pub heard_by_cpu : (CpuView → CpuView → Type 0) → Step ℕ → Me ℕ Logged → ℕ → Me ℕ Logged → Type 0
heard_by_cpu tells st m n l = (l ≡ (record m.0 { view = Cpu (cpu_of l.0.view); log = l.0.log; known_log = l.0.known_log; list = l.0.list }, m.1))
    × (l.0.log ≡ m.0.log ++ heard_from (Some (cpu_of m.0.view).id) m.0.teller) × tells (cpu_of m.0.view) (cpu_of l.0.view) × KnownLogGrows m.0.known_log m.0.noted_log l.0.known_log
    × IsShownAfter l.0.known_log (Cpu (cpu_of m.0.view)) × ListGoesOn m.0.list l.0.log l.0.list

-- the keeper finds what the note told in its own log, and its history as long as that says
abbrev pub heard_by_keeper : (KeeperView → ℕ → List LogItem) → (KeeperView → ℕ → KeeperView → Type 0) → Step ℕ → Me ℕ Logged → ℕ → Me ℕ Logged → Type 0
heard_by_keeper does tells st m n l = IsTold Keeper keeper_of does tells st m n l × IsOwnLog m.0.log m.0.noted_log (keeper_of m.0.view)

-- The keeper's load that hears a note: its log says who told it

abbrev pub hears_note : (KeeperView → KeeperView → Type 0) → Step ℕ → Me ℕ Logged → ℕ → Me ℕ Logged → Type 0
hears_note tells st m n l = (l ≡ (record m.0 { view = Keeper (keeper_of l.0.view); log = l.0.log; list = l.0.list }, m.1)) × (l.0.log ≡ m.0.log ++ heard_from None m.0.teller)
    × tells (keeper_of m.0.view) (keeper_of l.0.view) × IsOwnLog m.0.log m.0.noted_log (keeper_of m.0.view) × ListGoesOn m.0.list l.0.log l.0.list

-- How seats are cut and joined: the log goes on, and a new seat's is empty

abbrev pub logged_after_split : (View → View) → (View → List LogItem) → Logged → Logged
logged_after_split left does l = record l { view = left l.view; log = l.log ++ does l.view }

-- what a new seat has heard of the keeper's log as it is cut off: nothing; a CPU's note what the CPU has; the keeper's note all that the keeper did

abbrev pub no_log : Logged → List LogItem
no_log l = []

abbrev pub known_log_of : Logged → List LogItem
known_log_of l = l.known_log

abbrev pub whole_log : (View → List LogItem) → Logged → List LogItem
whole_log does l = l.log ++ does l.view

-- and who told it: where it is a CPU's note that CPU, which has made one event more by that

abbrev pub no_teller : Logged → Option Teller
no_teller l = None

abbrev pub teller_of : CpuView → List LogItem → Teller
teller_of x log = record { cpu = x.id; events = suc (length log) }

abbrev pub told_by_cpu : Logged → Option Teller
told_by_cpu l = Some (teller_of (cpu_of l.view) l.log)

abbrev pub fresh : (View → View) → (Logged → List LogItem) → (Logged → Option Teller) → Logged → Logged
fresh right tells by l = record { view = right l.view; log = []; known_log = tells l; noted_log = []; teller = by l; list = []; ends = []; ended = false }

abbrev pub joined_seat : (View → View → View) → (View → View → List LogItem) → Logged → Logged → Logged
joined_seat both does l m = record l { view = both l.view m.view; log = l.log ++ does l.view m.view }

-- a note is laid beside the view: this is no event
abbrev pub logged_with_note : (View → View → View) → Logged → Logged → Logged
logged_with_note both l m = record l { view = both l.view m.view; noted_log = m.known_log; teller = m.teller }

abbrev pub spent_seat : Logged
spent_seat = record { view = Spent; log = []; known_log = []; noted_log = []; teller = None; list = []; ends = []; ended = false }

-- a seat takes over another one, which has ended then and stays as it was

abbrev pub with_end : Logged → Logged → Logged
with_end l m = record l { ends = end_of m ∷ l.ends }

abbrev pub ended_seat : Logged → Logged
ended_seat m = record m { ended = true }

-- all that is kept with a CPU's view, which hasn't ended
abbrev pub logged_cpu : Seated CpuView → Logged
logged_cpu s = record { view = Cpu s.view; log = s.log; known_log = s.known_log; noted_log = s.noted_log; teller = s.teller; list = s.list; ends = s.ends; ended = false }

-- What a cut or a join does

abbrev pub seats_next : View → List LogItem
seats_next v = did (Seat (keeper_of v).seated) Done

abbrev pub tells_pass : View → List LogItem
tells_pass v = did (Tell (Some (cpu_of v).id)) Done

abbrev pub tells_history : View → List LogItem
tells_history v = did (Tell None) Done

abbrev pub leaves_hand : ℕ → InHand → List LogItem
leaves_hand c NoEntry = []
leaves_hand c (TakingEntry e) = did (SplitRef c) (Ref 0)
leaves_hand c (GivingEntry e) = []
leaves_hand c (BackEntry e) = did (SplitBack c) (Ref 0)
leaves_hand c (TryingEntry e) = []

abbrev pub cuts_off : View → List LogItem
cuts_off v = leaves_hand (cpu_of v).id (cpu_of v).hand

abbrev pub takes_in : View → View → List LogItem
takes_in v u = did (JoinRef (cpu_of v).id (reference_of u).entry.number) Done

abbrev pub gives_up : View → View → List LogItem
gives_up v u = did (JoinKeeper (reference_of u).entry.number) Done

abbrev pub keeps_for : ℕ → View → View → List LogItem
keeps_for t v u = did (Keep t (reference_of u).entry.number) Done
