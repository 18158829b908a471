-- A walk in a section: the row that it writes, what it leaves of the CPU, and its one search, which goes by each entry on the list.
use Rattle.std.specs.Prelude.{◌≡◌, ℕ, ◌<◌, ◌≤◌, List, length, map, take, drop, Some, None, ◌⊎◌, zero, suc}
use Rattle.std.specs.List.{AllPairs, Contains}
use mathlib.Core.List.{IsPrefix}
use Rattle.passive_list.specs.Types.{Entry, Change, MOST_SLOTS, AtNext, AtNumber, CpuView}
use Rattle.protocol.specs.Common.{IsLiveAt, MayHold, StandsOn}
use Rattle.cpu_words.specs.Common.{KeepsPlace, PassTells}
use Rattle.passive_list.specs.Cpus.{OnCpu}
use Rattle.passive_list.specs.Lookups.{HasGoneOverBy, search_at, IsUnderWay, cpu_with_search_at, nobody}
use Rattle.protocol.specs.History.{rank_at}

-- e is live at each point from `from` up to `to`: it is at both, and an entry ends once
abbrev pub IsLiveThroughout : List Change → ℕ → ℕ → Entry → Type 0
IsLiveThroughout h from to e = IsLiveAt h from e × IsLiveAt h to e

-- some entry of the row stands in f's place of the list, as the pass h tells: f itself, or one that came there by replacements
abbrev pub HasPlaceOf : List Change → List Entry → Entry → Type 0
HasPlaceOf h row f = (e : Entry) × Contains row e × (rank_at h e.number ≡ rank_at h f.number)

-- e is live at some point from `from` up to `to`
pub record WasLive (h : List Change) (from to : ℕ) (e : Entry) : Type 0 where
  pub point : ℕ
  pub from_on : from ≤ point
  pub up_to : point ≤ to
  pub live : IsLiveAt h point e

-- by ranks, as h tells them; so no entry is there twice, and of no place of the list two
abbrev pub AreNewestFirst : List Change → List Entry → Type 0
AreNewestFirst h row = AllPairs (λ (e f : Entry). rank_at h f.number < rank_at h e.number) row

-- only the pass changes and the last found entry, which is cleared, by one search alone; the row has the registry's entries at points not
-- before what the CPU had seen
pub record HasWalked (a b : OnCpu) (row : List Entry) : Type 0 where
  pub pass : IsPrefix a.view.pass b.view.pass
  pub is : b ≡ record a { view = record a.view { pass = b.view.pass; found = None }; log = b.log }
  -- each entry that was live from the start to the end is in the row
  pub all : (e : Entry) → IsLiveThroughout b.view.pass (length a.view.pass) (length b.view.pass) e → Contains row e
  -- and of each place that had an entry at the start and has one at the end one is, though an entry be replaced meanwhile
  pub places : (f : Entry) → KeepsPlace b.view.pass (length a.view.pass) f → HasPlaceOf b.view.pass row f
  -- each in it was live in between, and the open section may hold it
  pub each : (e : Entry) → Contains row e → WasLive b.view.pass (length a.view.pass) (length b.view.pass) e
  pub held : (e : Entry) (s : ℕ) → Contains row e → a.view.begin ≡ Some s → MayHold b.view.pass s e
  pub newest_first : AreNewestFirst b.view.pass row
  -- the search goes by as many entries as are in the row
  pub log : HasGoneOverBy a.view.id a.view.settings.slots (length row) a.log b.log

-- the row has what is written for each of these entries, as far as it goes, and the rest of it stays
pub record IsWritten {P : Type 0} (written : Entry → P) (met : List Entry) (old new : List P) : Type 0 where
  pub first : take (length met) new ≡ take (length old) (map written met)
  pub rest : drop (length met) new ≡ drop (length met) old

-- A walk: one search for what no entry is named goes by each entry on the list, and the walk loads all words of each.

-- a search that started at `from` may be at each of these, as the pass h tells, in a table of so many slots
pub record AreStoodOn (h : List Change) (from slots : ℕ) (es : List Entry) : Type 0 where
  pub stands : (e : Entry) → Contains es e → StandsOn h from (length h) e.slot e
  pub slot : (e : Entry) → Contains es e → (e.slot < slots) × (e.slot < MOST_SLOTS)
  pub newest_first : AreNewestFirst h es

-- the search for nobody, begun where the pass had `from` changes, is to go by the entry of the slot t
pub record MayGoBy (x : CpuView) (t : ℕ) : Type 0 where
  pub from : ℕ
  pub under_way : IsUnderWay x nobody from (AtNumber t)
  pub tells : PassTells x.begin from x.pass

-- all words of the slot t were loaded: they are those of e, on which the search may stand, and the search is to load the link there
pub record HasGoneByFrom (x : CpuView) (from t : ℕ) (e : Entry) (y : CpuView) : Type 0 where
  pub is : y ≡ cpu_with_search_at x nobody from (AtNext t)
  pub stands : StandsOn x.pass from (length x.pass) t e

abbrev pub HasGoneByOne : CpuView → ℕ → Entry → CpuView → Type 0
HasGoneByOne x t e y = (from : ℕ) → IsUnderWay x nobody from (AtNumber t) → PassTells x.begin from x.pass → HasGoneByFrom x from t e y

-- the view of a CPU whose search, begun in the view x, has loaded a link
abbrev pub view_at_link : CpuView → ℕ → List Change → CpuView
view_at_link x zero p = record x { pass = p; search = None; found = None }
view_at_link x (suc t) p = record x { pass = p; search = Some (search_at nobody (length x.pass) (AtNumber t)) }

-- what a link leads to, after es: each place that has had an entry since is among theirs or not yet gone past
abbrev pub GoesOnAt : List Change → ℕ → ℕ → List Entry → ℕ → Type 0
GoesOnAt h from slots es zero = (f : Entry) → KeepsPlace h from f → HasPlaceOf h es f
GoesOnAt h from slots es (suc t) = ((t < slots) × (t < MOST_SLOTS)) × ((e : Entry) → StandsOn h from (length h) t e
    → ((f : Entry) → Contains es f → rank_at h e.number < rank_at h f.number) × ((f : Entry) → KeepsPlace h from f → (rank_at h f.number ≤ rank_at h e.number) ⊎ HasPlaceOf h es f))

-- the search begun in the view x has gone by es, and has loaded the link
pub record IsGoingOver (x : CpuView) (es : List Entry) (link : ℕ) (y : CpuView) : Type 0 where
  pub pass : IsPrefix x.pass y.pass
  pub is : y ≡ view_at_link x link y.pass
  pub tells : PassTells x.begin (length x.pass) y.pass
  pub over : AreStoodOn y.pass (length x.pass) x.settings.slots es
  pub goes_on : GoesOnAt y.pass (length x.pass) x.settings.slots es link

-- the whole walk by a CPU's seat
pub record HasGoneOver (x y : CpuView) (row : List Entry) : Type 0 where
  pub pass : IsPrefix x.pass y.pass
  pub is : y ≡ record x { pass = y.pass; search = None; found = None }
  pub since : (b : ℕ) → x.begin ≡ Some b → b ≤ length x.pass
  pub all : (e : Entry) → IsLiveThroughout y.pass (length x.pass) (length y.pass) e → Contains row e
  pub places : (f : Entry) → KeepsPlace y.pass (length x.pass) f → HasPlaceOf y.pass row f
  pub each : (e : Entry) → Contains row e → WasLive y.pass (length x.pass) (length y.pass) e
  pub newest_first : AreNewestFirst y.pass row
