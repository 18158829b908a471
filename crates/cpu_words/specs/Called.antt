-- What a wait, a destroy and an audit promise of the moment at which they were called: by the table at that moment and at a later one, and what the caller's CPU told and heard in between.
use Rattle.std.specs.Prelude.{◌≡◌, ℕ, ◌<◌, List, ◌∷◌, ◌++◌, length, true, Some, None}
use mathlib.Core.Option.{some}
use mathlib.Core.List.{IsPrefix}
use lib.ListN.{get_elem?}
use Rattle.atomic_table.specs.Table.{State as Table}
use Rattle.cpu_words.specs.Types.{Settings, Event, Exit}
use Rattle.cpu_words.specs.declared.view.CpuView.{CpuView}
use Rattle.cpu_words.specs.declared.view.LogItem.{LogItem}
use Rattle.cpu_words.specs.declared.view.Logged.{Logged}
use Rattle.cpu_words.specs.declared.view.Teller.{Teller}
use Rattle.cpu_words.specs.declared.view.View.TheVariants.{Cpu}
use Rattle.cpu_words.specs.Steps.{part, is_hear}
use Rattle.cpu_words.specs.KeeperLog.{changes_in, has_heard_from, HasHeardFrom, HasWaited}
use Rattle.cpu_words.specs.Headline.{RunsAsLogged}
use Rattle.cpu_words.specs.Waiting.{HasEndedSince, TwoMoments}

-- The seat j is a CPU's, and h is a teller's name that this CPU has earned after the first moment: it is of more events than it had made by then.
pub record HasToldSince {z : Settings} {s t : Table ℕ Logged} {i j : ℕ} (m : TwoMoments z s t i j) (h : Teller) : Type 0 where
  pub cpu : CpuView
  pub is : m.does.view ≡ Cpu cpu
  pub teller : h.cpu ≡ cpu.id
  pub since : length m.doer.log < h.events

-- The keeper heard the note that h told: by then it had done `before`. This is in the list past all that i knew at the first moment, and so is what the keeper has done since it heard.
pub record IsHeardPast {z : Settings} {s t : Table ℕ Logged} {i j : ℕ} (m : TwoMoments z s t i j) (r : RunsAsLogged z t) (h : Teller) (before : List LogItem) : Type 0 where
  pub first : List (ℕ × LogItem)
  pub rest : List (ℕ × LogItem)
  pub are : r.acts ≡ first ++ (0, has_heard_from None (Some h)) ∷ rest
  pub did : part 0 first ≡ before
  pub past : IsPrefix m.knower.list first
  -- what the keeper had done at the first moment, as far as i knew then, is in `before`
  pub knew : IsPrefix (part 0 m.knower.list) before

-- so it is where the keeper heard what a CPU told after that moment
abbrev pub KeeperHearsLater : Type 0
KeeperHearsLater = (z : Settings) (s t : Table ℕ Logged) (i j : ℕ) (m : TwoMoments z s t i j) (r : RunsAsLogged z t) (h : Teller) (before after : List LogItem) → HasToldSince m h
    → part 0 r.acts ≡ before ++ has_heard_from None (Some h) ∷ after → IsHeardPast m r h before

-- A CPU that heard after the first moment knows of the keeper's log all that i knew at that moment.
abbrev pub CpuHearsLater : Type 0
CpuHearsLater = (z : Settings) (s t : Table ℕ Logged) (i j : ℕ) (m : TwoMoments z s t i j) → RunsAsLogged z t → (d : LogItem) (before after : List LogItem) → m.since ≡ before ++ d ∷ after
    → is_hear d.event ≡ true → IsPrefix (part 0 m.knower.list) m.does.known_log

-- an exit of the CPU c is among these
pub record HasLeft (c : ℕ) (log : List LogItem) : Type 0 where
  pub before : List LogItem
  pub item : LogItem
  pub after : List LogItem
  pub are : log ≡ before ++ item ∷ after
  pub exit : item.event ≡ Exit c

-- The seat i is a CPU's. It was inside a section at the first moment, and its log has gone on by `more` since: the section's exit is in that.
abbrev pub HasLeftSince : {z : Settings} {s t : Table ℕ Logged} {i j : ℕ} → TwoMoments z s t i j → Type 0
HasLeftSince m = (x y : CpuView) (b : ℕ) (more : List LogItem) → m.knower.view ≡ Cpu x → m.knows.view ≡ Cpu y → y.id ≡ x.id → x.begin ≡ Some b → m.knows.log ≡ m.knower.log ++ more
    → HasLeft x.id more

-- All sections that were open at the first moment have ended
pub record HaveEndedAll {z : Settings} {s t : Table ℕ Logged} {i j : ℕ} (m : TwoMoments z s t i j) (r : RunsAsLogged z t) (before : List LogItem) : Type 0 where
  -- by its own log, the section in which the seat i was then
  pub left : HasLeftSince m
  -- by the list, each that was open by what i knew of it then; and no more changes had been made by then than are in `before`
  pub first : List Event
  pub rest : List Event
  pub are : r.run.events ≡ first ++ rest
  pub size : length first ≡ length m.knower.list
  pub ended : HasEndedSince z first rest (changes_in before)

-- Some seat knows that the keeper, after it had heard what a CPU told after the first moment, saw each CPU out of a section. Then all sections that were open at that moment have ended: that of any
-- seat i.
abbrev pub EndsOpenSections : Type 0
EndsOpenSections = (z : Settings) (s t : Table ℕ Logged) (i j k : ℕ) (m : TwoMoments z s t i j) (r : RunsAsLogged z t) (l : Logged) (h : Teller) (before since : List LogItem) → HasToldSince m h
    → get_elem? t.views k ≡ some l → l.known_log ≡ before ++ since → HasHeardFrom None h before → HasWaited since z.cpus → HaveEndedAll m r before
