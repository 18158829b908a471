-- Fresh lookups (pserialize(9)): what a CPU's own log says of its searches and recalls, by their places in the one list; and what a CPU has seen
-- as it enters, as it hears, and as it recalls.
use Rattle.std.specs.Prelude.{◌≡◌, ℕ, ◌≤◌, List, [], ◌∷◌, ◌++◌, length, take, Option, Some}
use Rattle.std.specs.List.{AllByRecursion}
use mathlib.Core.List.{IsPrefix}
use mathlib.Core.Option.{some}
use lib.ListN.{get_elem?}
use Rattle.atomic_table.specs.Table.{State as Table}
use Rattle.cpu_words.specs.Types.{Key, Entry, Settings, Event, Enter, Hear, Recall, RecallHead, Refind, Confirm, Done, Word}
use Rattle.protocol.specs.Common.{IsAttached, IsLiveAt, IsLookup, IsNewestAt, opening, seen_at, after, IsLoadOf, answer_of, IsNoSeek, IsFreshAnswer, seek_for}
use Rattle.cpu_words.specs.declared.view.CpuView.{CpuView}
use Rattle.cpu_words.specs.declared.view.LogItem.{LogItem}
use Rattle.cpu_words.specs.declared.view.Logged.{Logged}
use Rattle.cpu_words.specs.declared.view.Teller.{Teller}
use Rattle.cpu_words.specs.declared.view.View.TheVariants.{Cpu}
use Rattle.cpu_words.specs.KeeperLog.{has_heard_from}
use Rattle.cpu_words.specs.Steps.{part}
use Rattle.cpu_words.specs.Headline.{RunsAsLogged}
use Rattle.cpu_words.specs.Rule.{log_item}
use Rattle.cpu_words.specs.Waiting.{IsBeforeTelling}

abbrev pub has_sought : ℕ → Key → LogItem
has_sought c key = log_item (seek_for c key) Done

-- By its log the CPU c began a search for the key, began no other since, and a load of it replied the answer.
pub record HasAnswered (c : ℕ) (key : Key) (answer : Option Entry) (log : List LogItem) : Type 0 where
  pub before : List LogItem
  pub between : List LogItem
  pub load : LogItem
  pub after : List LogItem
  pub are : log ≡ before ++ has_sought c key ∷ (between ++ load ∷ after)
  pub none : AllByRecursion (λ d. IsNoSeek c d.event) between
  pub loads : IsLoadOf c load.event
  pub replied : answer_of load.reply ≡ Some answer

-- the events until the search began, until just before it replied, and with its reply

abbrev pub until_reply : List Event → ℕ → Key → List Event → List Event
until_reply first c key since = first ++ seek_for c key ∷ since

abbrev pub with_reply : List Event → ℕ → Key → List Event → Event → List Event
with_reply first c key since load = first ++ seek_for c key ∷ (since ++ load ∷ [])

-- This search's place in the list of all events, and its result by that list.
pub record IsAnsweredFreshly {z : Settings} {s : Table ℕ Logged} (r : RunsAsLogged z s) (c : ℕ) (key : Key) (answer : Option Entry) {log : List LogItem} (a : HasAnswered c key answer log) : Type 0 where
  pub first : List Event
  pub since : List Event
  pub load : Event
  pub later : List Event
  pub are : r.run.events ≡ first ++ seek_for c key ∷ (since ++ load ∷ later)
  -- the CPU had done just so much before its Seek, and before its reply
  pub sought : part (r.run.seat c) (take (length first) r.acts) ≡ a.before
  pub replied : part (r.run.seat c) (take (length (until_reply first c key since)) r.acts) ≡ a.before ++ has_sought c key ∷ a.between
  -- the answer is the registry's at some point from the history's length at the Seek to that at the reply; what was live at both is found, and what was detached before isn't
  pub fresh : IsFreshAnswer (after (opening z) first).history (after (opening z) (with_reply first c key since load)).history (seen_at (after (opening z) (with_reply first c key since load)) c) key answer

-- for any list that explains the table: each search in the log of a CPU's seat returned so
abbrev pub LookupsAreFresh : Type 0
LookupsAreFresh = (z : Settings) (s : Table ℕ Logged) (r : RunsAsLogged z s) (i : ℕ) (l : Logged) (x : CpuView) (key : Key) (answer : Option Entry) → get_elem? s.views i ≡ some l → l.view ≡ Cpu x
    → (a : HasAnswered x.id key answer l.log) → IsAnsweredFreshly r x.id key answer a

abbrev pub history_length : Settings → List Event → ℕ
history_length z events = length (after (opening z) events).history

-- The search takes effect at one point of the list, between its Seek and its reply: its result is the registry's there.
pub record TakesEffect {z : Settings} {s : Table ℕ Logged} (r : RunsAsLogged z s) (c : ℕ) (key : Key) (answer : Option Entry) {log : List LogItem} (a : HasAnswered c key answer log) : Type 0 where
  pub place : IsAnsweredFreshly r c key answer a
  pub point : List Event
  pub from : IsPrefix (place.first ++ seek_for c key ∷ []) point
  pub to : IsPrefix point (with_reply place.first c key place.since place.load)
  pub answered : IsLookup (after (opening z) point).history (history_length z point) key answer

-- for any list that explains the table: each search in the log of a CPU's seat took effect so
abbrev pub LookupsAreLinear : Type 0
LookupsAreLinear = (z : Settings) (s : Table ℕ Logged) (r : RunsAsLogged z s) (i : ℕ) (l : Logged) (x : CpuView) (key : Key) (answer : Option Entry) → get_elem? s.views i ≡ some l → l.view ≡ Cpu x
    → (a : HasAnswered x.id key answer l.log) → TakesEffect r x.id key answer a

-- What a CPU has seen, by the list

pub record PassesAreWhole {z : Settings} {s : Table ℕ Logged} (r : RunsAsLogged z s) : Type 0 where
  -- as a CPU begins a section, as it hears a note, and as it recalls an entry, its pass becomes the whole history
  pub entered : (c : ℕ) (first rest : List Event) → r.run.events ≡ first ++ Enter c ∷ rest → seen_at (after (opening z) (first ++ Enter c ∷ [])) c ≡ history_length z first
  pub heard : (c : ℕ) (first rest : List Event) → r.run.events ≡ first ++ Hear (Some c) ∷ rest → seen_at (after (opening z) (first ++ Hear (Some c) ∷ [])) c ≡ history_length z first
  pub recalled : (c t : ℕ) (first rest : List Event) → r.run.events ≡ first ++ Recall c t ∷ rest → seen_at (after (opening z) (first ++ Recall c t ∷ [])) c ≡ history_length z first
  pub headed : (c : ℕ) (first rest : List Event) → r.run.events ≡ first ++ RecallHead c ∷ rest → seen_at (after (opening z) (first ++ RecallHead c ∷ [])) c ≡ history_length z first
  pub refound : (c t n : ℕ) (first rest : List Event) → r.run.events ≡ first ++ Refind c t n ∷ rest → seen_at (after (opening z) (first ++ Refind c t n ∷ [])) c ≡ history_length z first
  pub confirmed : (c : ℕ) (first rest : List Event) → r.run.events ≡ first ++ Confirm c ∷ rest → seen_at (after (opening z) (first ++ Confirm c ∷ [])) c ≡ history_length z first
  -- the history at any moment before another CPU told the note is in it
  pub told : (c i : ℕ) (h : Teller) (first rest : List (ℕ × LogItem)) (earlier later : List Event) → r.acts ≡ first ++ (i, has_heard_from (Some c) (Some h)) ∷ rest → r.run.events ≡ earlier ++ later
      → IsBeforeTelling r h earlier → history_length z earlier ≤ history_length z (take (length first) r.run.events)

abbrev pub WholeInTheList : Type 0
WholeInTheList = (z : Settings) (s : Table ℕ Logged) (r : RunsAsLogged z s) → PassesAreWhole r

-- What is recalled, by the list

-- By its log the CPU c loaded the live word of the slot t, and found n.
pub record HasFoundLive (c t n : ℕ) (log : List LogItem) : Type 0 where
  pub before : List LogItem
  pub after : List LogItem
  pub are : log ≡ before ++ log_item (Recall c t) (Word n) ∷ after

-- That load's place in the list of all events: the CPU had done just so much before it, and an entry with the number n is live there
pub record IsLiveThere {z : Settings} {s : Table ℕ Logged} (r : RunsAsLogged z s) (c t n : ℕ) {log : List LogItem} (a : HasFoundLive c t n log) : Type 0 where
  pub first : List Event
  pub later : List Event
  pub are : r.run.events ≡ first ++ Recall c t ∷ later
  pub own : part (r.run.seat c) (take (length first) r.acts) ≡ a.before
  pub live : (e : Entry) → IsAttached (after (opening z) first).history e → e.number ≡ n → IsLiveAt (after (opening z) first).history (history_length z first) e × (e.slot ≡ t)

-- for any list that explains the table: what a CPU's seat recalled was live as it was loaded
abbrev pub RecallsAreLive : Type 0
RecallsAreLive = (z : Settings) (s : Table ℕ Logged) (r : RunsAsLogged z s) (i : ℕ) (l : Logged) (x : CpuView) (t n : ℕ) → get_elem? s.views i ≡ some l → l.view ≡ Cpu x
    → (a : HasFoundLive x.id t n l.log) → IsLiveThere r x.id t n a

-- By its log the CPU c loaded the head outside of any search, and found w.
pub record HasFoundHead (c w : ℕ) (log : List LogItem) : Type 0 where
  pub before : List LogItem
  pub after : List LogItem
  pub are : log ≡ before ++ log_item (RecallHead c) (Word w) ∷ after

-- That load's place in the list of all events: the CPU had done just so much before it, and w leads to the newest entry that is live there
pub record IsNewestThere {z : Settings} {s : Table ℕ Logged} (r : RunsAsLogged z s) (c w : ℕ) {log : List LogItem} (a : HasFoundHead c w log) : Type 0 where
  pub first : List Event
  pub later : List Event
  pub are : r.run.events ≡ first ++ RecallHead c ∷ later
  pub own : part (r.run.seat c) (take (length first) r.acts) ≡ a.before
  pub newest : IsNewestAt (after (opening z) first).history w

-- for any list that explains the table: what the head told a CPU's seat was the newest live entry as it was loaded
abbrev pub HeadsAreNewest : Type 0
HeadsAreNewest = (z : Settings) (s : Table ℕ Logged) (r : RunsAsLogged z s) (i : ℕ) (l : Logged) (x : CpuView) (w : ℕ) → get_elem? s.views i ≡ some l → l.view ≡ Cpu x
    → (a : HasFoundHead x.id w l.log) → IsNewestThere r x.id w a

-- By its log the CPU c found the entry n of the slot t again.
pub record HasFoundAgain (c t n : ℕ) (log : List LogItem) : Type 0 where
  pub before : List LogItem
  pub after : List LogItem
  pub are : log ≡ before ++ log_item (Refind c t n) (Word n) ∷ after

-- That load's place in the list of all events: the CPU had done just so much before it, and the entry n is live there
pub record IsFoundThere {z : Settings} {s : Table ℕ Logged} (r : RunsAsLogged z s) (c t n : ℕ) {log : List LogItem} (a : HasFoundAgain c t n log) : Type 0 where
  pub first : List Event
  pub later : List Event
  pub are : r.run.events ≡ first ++ Refind c t n ∷ later
  pub own : part (r.run.seat c) (take (length first) r.acts) ≡ a.before
  pub live : (e : Entry) → IsAttached (after (opening z) first).history e → e.number ≡ n → IsLiveAt (after (opening z) first).history (history_length z first) e × (e.slot ≡ t)

-- for any list that explains the table: what a CPU's seat found again was live as its live word was loaded
abbrev pub RefindsAreLive : Type 0
RefindsAreLive = (z : Settings) (s : Table ℕ Logged) (r : RunsAsLogged z s) (i : ℕ) (l : Logged) (x : CpuView) (t n : ℕ) → get_elem? s.views i ≡ some l → l.view ≡ Cpu x
    → (a : HasFoundAgain x.id t n l.log) → IsFoundThere r x.id t n a
