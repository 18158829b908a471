-- A lookup: which events its search makes, what a visit of a slot does, its result, and what it leaves of the CPU.
use Rattle.std.specs.Prelude.{◌≡◌, ◌⊎◌, ℕ, ◌+◌, ◌*◌, ◌≤◌, List, ◌++◌, length, Option, Some, None, zero, suc, ◌<◌, Bool, true, false}
use Rattle.std.specs.List.{All}
use mathlib.Core.List.{IsPrefix}
use Rattle.passive_list.specs.Types.{Iface, Entry, Key, Seek, LoadLink, LoadRecord, Compared, Done, Found, Missed, LogItem, MOST_SLOTS, SearchPlace, AtNext, AtNumber, AtValue, Search, CpuView}
use Rattle.protocol.specs.Common.{IsAttached, IsLawful, StandsOn, entry_with, IsLegal}
use Rattle.protocol.specs.declared.event.RecordOf.TheVariants.{Search as OfSearch}
use Rattle.cpu_words.specs.Common.{did, PassTells}
use Rattle.passive_list.specs.declared.lookup.Seen.{Seen}
use Rattle.passive_list.specs.Cpus.{OnCpu, HasEnteredOn, HasExitedOn}
use Rattle.protocol.specs.History.{rank_at}

-- Which events a search makes, by the log of the CPU's seat: it begins once, then there are loads alone, and the last one replies its answer. A walk is such a search too.

-- what no entry is looked up by: no entry's name is two words of 0
abbrev pub nobody : Key
nobody = record { kind = Iface; name = record { high = 0; low = 0 } }

-- a load by the search of the CPU c: of a link, or of a record word
abbrev pub IsLoad : ℕ → LogItem → Type 0
IsLoad c d = (d.event ≡ LoadLink c) ⊎ (d.event ≡ LoadRecord (OfSearch c))

-- the log went on by n items that are so
pub record GoesOnBySoMany (P : LogItem → Type 0) (n : ℕ) (old new : List LogItem) : Type 0 where
  pub since : List LogItem
  pub are : new ≡ old ++ since
  pub only : All P since
  pub count : length since ≡ n

-- by n such loads
abbrev pub GoesOnByLoads : ℕ → ℕ → List LogItem → List LogItem → Type 0
GoesOnByLoads c n old new = GoesOnBySoMany (IsLoad c) n old new

-- It went on by one search for the key: the search begins, and there are one load and five for each of so many entries. Which loads these are the words allow alone.
abbrev pub HasSearchedFor : ℕ → Key → ℕ → List LogItem → List LogItem → Type 0
HasSearchedFor c key visited old new = GoesOnByLoads c (1 + 5 * visited) (old ++ did (Seek c key.kind key.name) Done) new

-- the last load of a search of the CPU c, which replied its result: of a link if it missed, of the value if it found an entry
abbrev pub replied : ℕ → Option Entry → List LogItem
replied c None = did (LoadLink c) Missed
replied c (Some e) = did (LoadRecord (OfSearch c)) (Found e)

abbrev pub EndsWithAnswer : ℕ → Option Entry → List LogItem → Type 0
EndsWithAnswer c answer log = (before : List LogItem) × (log ≡ before ++ replied c answer)

-- by one search to its end, over a table of so many slots: it visited no more entries than these, and its last load replied the answer
pub record SearchesOnce (c slots : ℕ) (key : Key) (answer : Option Entry) (old new : List LogItem) : Type 0 where
  pub visited : ℕ
  pub few : visited ≤ slots
  pub loads : HasSearchedFor c key visited old new
  pub ends : EndsWithAnswer c answer new

-- A load by a walk of the CPU c: of its search, or of the value of an entry that the search goes by.
abbrev pub IsWalkLoad : ℕ → LogItem → Type 0
IsWalkLoad c d = IsLoad c d ⊎ (d.event ≡ LoadRecord (Compared c))

-- the log went on by one search for nobody, which has gone by so many entries: there are one load and six for each of them
abbrev pub HasWalkedBy : ℕ → ℕ → List LogItem → List LogItem → Type 0
HasWalkedBy c visited old new = GoesOnBySoMany (IsWalkLoad c) (1 + 6 * visited) (old ++ did (Seek c nobody.kind nobody.name) Done) new

-- by such a search to its end, over a table of so many slots: it went by no more entries than these, and its last load missed
pub record HasGoneOverBy (c slots visited : ℕ) (old new : List LogItem) : Type 0 where
  pub few : visited ≤ slots
  pub loads : HasWalkedBy c visited old new
  pub ends : EndsWithAnswer c None new

-- A search by a CPU's seat, from the head along the links: what one visit of a slot does, and where the search stands between two.

-- the search for the key, begun where the pass had `from` changes, at the place p
abbrev pub search_at : Key → ℕ → SearchPlace → Search
search_at key from p = record { key = key; start = from; place = p }

-- it is under way
abbrev pub IsUnderWay : CpuView → Key → ℕ → SearchPlace → Type 0
IsUnderWay x key from p = x.search ≡ Some (search_at key from p)

abbrev pub cpu_with_search_at : CpuView → Key → ℕ → SearchPlace → CpuView
cpu_with_search_at x key from p = record x { search = Some (search_at key from p) }

-- the search is to visit the slot t
abbrev pub MayVisit : CpuView → Key → ℕ → Type 0
MayVisit x key t = (from : ℕ) × IsUnderWay x key from (AtNumber t)

-- where the search goes on after the words of the entry n in the slot t
abbrev pub after_visit : ℕ → ℕ → Bool → SearchPlace
after_visit t n true = AtValue t n
after_visit t n false = AtNext t

-- the number, the kind and the name of the slot t were loaded: the number n is that of an entry on which the search may stand
pub record HasVisitedFrom (x : CpuView) (key : Key) (from t n : ℕ) (is_sought : Bool) (y : CpuView) : Type 0 where
  pub is : y ≡ cpu_with_search_at x key from (after_visit t n is_sought)
  pub entry : Entry
  pub stands : StandsOn x.pass from (length x.pass) t entry
  pub number : entry.number ≡ n

abbrev pub HasVisited : CpuView → Key → ℕ → ℕ → Bool → CpuView → Type 0
HasVisited x key t n is_sought y = (from : ℕ) → IsUnderWay x key from (AtNumber t) → HasVisitedFrom x key from t n is_sought y

-- the value was loaded, and the search is over: the entry is lawful, and was attached in the pass
pub record HasTakenFrom (x : CpuView) (key : Key) (from : ℕ) (e : Entry) (y : CpuView) : Type 0 where
  pub is : y ≡ record x { search = None; found = Some e }
  pub lawful : IsLawful x.pass from (length x.pass) key (Some e)
  pub attached : IsAttached x.pass e

abbrev pub HasTaken : CpuView → Key → ℕ → ℕ → Entry → CpuView → Type 0
HasTaken x key t n e y = (from : ℕ) → IsUnderWay x key from (AtValue t n) → HasTakenFrom x key from e y

-- the search that began in the view x is over, and missed
pub record HasMissed (key : Key) (x y : CpuView) : Type 0 where
  pub pass : IsPrefix x.pass y.pass
  pub is : y ≡ record x { pass = y.pass; search = None; found = None }
  pub lawful : IsLawful y.pass (length x.pass) (length y.pass) key None
  pub tells : PassTells x.begin (length x.pass) y.pass

-- it is to visit the slot t, whose entry has a rank below that of `last`, a number above all or that of the entry visited before
pub record IsOn (key : Key) (x : CpuView) (t last : ℕ) (y : CpuView) : Type 0 where
  pub pass : IsPrefix x.pass y.pass
  pub is : y ≡ record x { pass = y.pass; search = Some (search_at key (length x.pass) (AtNumber t)) }
  pub slot : (t < x.settings.slots) × (t < MOST_SLOTS)
  pub below : (e : Entry) → StandsOn y.pass (length x.pass) (length y.pass) t e → rank_at y.pass e.number < rank_at y.pass last
  pub tells : PassTells x.begin (length x.pass) y.pass

-- a link is 0 at the end of the list, else a slot plus 1
abbrev pub IsAtLink : Key → CpuView → ℕ → ℕ → CpuView → Type 0
IsAtLink key x zero last y = HasMissed key x y
IsAtLink key x (suc t) last y = IsOn key x t last y

-- the entry whose words the search for the key found
abbrev pub entry_seen : Key → Option Seen → Option Entry
entry_seen key None = None
entry_seen key (Some s) = Some (entry_with key s.slot s.number s.value)

-- the whole search, by the view before and after
pub record HasLookedUp (key : Key) (x y : CpuView) (answer : Option Entry) : Type 0 where
  pub pass : IsPrefix x.pass y.pass
  pub is : y ≡ record x { pass = y.pass; search = None; found = answer }
  pub lawful : IsLawful y.pass (length x.pass) (length y.pass) key answer
  pub seen : (e : Entry) → answer ≡ Some e → (e.slot < x.settings.slots) × (e.slot < MOST_SLOTS) × IsAttached y.pass e
  pub tells : PassTells x.begin (length x.pass) y.pass

-- A lookup: its result, and what it leaves of the CPU.

-- Only the pass and the last found entry change, by one search, which replied the result. It is the registry's at some point not before
-- what the CPU had seen. The pass is a legal history.
pub record HasFound (key : Key) (a b : OnCpu) (answer : Option Entry) : Type 0 where
  pub pass : IsPrefix a.view.pass b.view.pass
  pub is : b ≡ record a { view = record a.view { pass = b.view.pass; found = answer }; log = b.log }
  pub legal : IsLegal b.view.pass
  pub lawful : IsLawful b.view.pass (length a.view.pass) (length b.view.pass) key answer
  pub seen : (e : Entry) → answer ≡ Some e → IsAttached b.view.pass e
  pub log : SearchesOnce a.view.id a.view.settings.slots key answer a.log b.log

-- in a section of the lookup's own: an enter, a find and an exit lead from a to b, by way of some CPUs `first` and `last`
pub record HasFoundFromOutside (key : Key) (a b : OnCpu) (answer : Option Entry) : Type 0 where
  pub first : OnCpu
  pub last : OnCpu
  pub enters : HasEnteredOn a first
  pub finds : HasFound key first last answer
  pub exits : HasExitedOn last b
