-- Read sections and searches by a CPU's seat: where it may make the step, and what changes in its view.
use Rattle.std.specs.Prelude.{◌≡◌, ℕ, ◌+◌, ◌*◌, ◌<◌, length, Some, None, zero, suc, ◌≤◌, List, [], ◌++◌, Option, true}
use mathlib.Core.List.{IsPrefix}
use Rattle.cpu_words.specs.Types.{Name, Kind, Entry, Change, Settings, MOST_SLOTS, Event, Seek, LoadLink, Reply, Done, Word, Found, Missed, Key, SearchPlace, AtHead, AtNext, AtNumber, AtKind, AtHigh, AtLow, AtValue, RecordWords, Search, Loaded, On, Over}
use Rattle.registry_values.specs.Names.{are_key_words}
use Rattle.protocol.specs.Common.{word, words_of, IsAttached, IsLiveAt, IsLegal, IsLawful, StandsOn, loaded_at}
use Rattle.protocol.specs.History.{rank_at}
use Rattle.cpu_words.specs.declared.view.InHand.TheVariants.{Empty as NoEntry}
use Rattle.cpu_words.specs.declared.view.CpuView.{CpuView}
use Rattle.cpu_words.specs.Rule.{IsShownCpu, did}
use Rattle.cpu_words.specs.declared.view.View.TheVariants.{Cpu}
use Rattle.cpu_words.specs.declared.view.LogItem.{LogItem}
use Rattle.cpu_words.specs.Steps.{Makes}
use Rattle.cpu_words.specs.declared.layout.TheConstants.{RECORDS, STRIDE}

-- no search is under way, and the hand is empty
pub record IsIdle (x : CpuView) : Type 0 where
  pub search : x.search ≡ None
  pub hand : x.hand ≡ NoEntry

pub record MayEnter (x : CpuView) : Type 0 where
  pub idle : IsIdle x
  pub outside : x.begin ≡ None
  pub room : x.section < 2 * x.settings.section_limit

-- the pass is a longer prefix of the history, and the section begins at its end
abbrev pub HasEntered : CpuView → CpuView → Type 0
HasEntered x y = IsPrefix x.pass y.pass × (y ≡ record x { section = x.section + 1; begin = Some (length y.pass); pass = y.pass })

-- some state shows the CPU, and its pass is the whole history there
abbrev pub HasWholePass : CpuView → Type 0
HasWholePass x = (s : IsShownCpu x) × (x.pass ≡ s.g.history)

pub record MayExit (x : CpuView) : Type 0 where
  pub idle : IsIdle x
  pub inside : (b : ℕ) × (x.begin ≡ Some b)

-- the section is closed, and what was found in it is gone
abbrev pub HasExited : CpuView → CpuView → Type 0
HasExited x y = y ≡ record x { section = x.section + 1; begin = None; found = None }

-- Searches by a CPU's seat: from the head along the links, and in each slot over its record words.

-- Links

pub record MaySeek (x : CpuView) : Type 0 where
  pub idle : IsIdle x
  pub inside : (b : ℕ) × (x.begin ≡ Some b)

abbrev pub key_with : Kind → Name → Key
key_with kind name = record { kind = kind; name = name }

-- the search that begins now, at the end of the pass
abbrev pub search_for : Key → CpuView → Search
search_for key x = record { key = key; start = length x.pass; place = AtHead }

abbrev pub cpu_after_seek : Key → CpuView → CpuView
cpu_after_seek key x = record x { search = Some (search_for key x) }

-- the search q at another place
abbrev pub search_with_place : Search → SearchPlace → Search
search_with_place q p = record { key = q.key; start = q.start; place = p }

-- a search is under way, and is to load the link of the slot t
pub record MayLoadLink (x : CpuView) (t : ℕ) : Type 0 where
  pub search : Search
  pub under_way : x.search ≡ Some search
  pub place : search.place ≡ AtNext t

-- a link is 0 at the end of the list, else a slot plus 1
abbrev pub link_answer : ℕ → Reply
link_answer zero = Missed
link_answer (suc t) = Word (suc t)

-- the search q has loaded a link, and the pass is p
abbrev pub cpu_after_link : CpuView → Search → ℕ → List Change → CpuView
cpu_after_link x q zero p = record x { pass = p; search = None; found = None }
cpu_after_link x q (suc t) p = record x { pass = p; search = Some (search_with_place q (AtNumber t)) }

-- to have missed is lawful in the CPU's own pass, at some point from the start of the search on; else the link names a slot
abbrev pub LinkHolds : Settings → Search → ℕ → List Change → Type 0
LinkHolds z q zero p = IsLawful p q.start (length p) q.key None
LinkHolds z q (suc t) p = (t < z.slots) × (t < MOST_SLOTS)

-- the search q may be at the entry e in the slot t, as the pass p tells
abbrev pub MayStandOn : List Change → Search → ℕ → Entry → Type 0
MayStandOn p q t e = StandsOn p q.start (length p) t e

-- the link n, loaded from the slot s, leads to a lower rank; the pass was p, and is r
abbrev pub Descends : List Change → Search → ℕ → ℕ → List Change → Type 0
Descends p q s zero r = Unit {0}
Descends p q s (suc t) r = (e f : Entry) → MayStandOn p q s e → MayStandOn r q t f → rank_at r f.number < rank_at r e.number

-- f was live after the first `from` changes, and an entry is live in its place at the end of h: f itself, or one that came there by replacements
pub record KeepsPlace (h : List Change) (from : ℕ) (f : Entry) : Type 0 where
  pub live : IsLiveAt h from f
  pub now : Entry
  pub stays : IsLiveAt h (length h) now
  pub rank : rank_at h now.number ≡ rank_at h f.number

-- The link n leads past no place below the rank `above` that had an entry after the first `from` changes and has one at the end of the pass r.
abbrev pub SkipsNone : List Change → ℕ → ℕ → ℕ → Type 0
SkipsNone r from above zero = (f : Entry) → KeepsPlace r from f → rank_at r f.number < above → ⊥
SkipsNone r from above (suc t) = (e f : Entry) → StandsOn r from (length r) t e → KeepsPlace r from f → rank_at r f.number < above → rank_at r f.number ≤ rank_at r e.number

-- what a search that started at `from` tells of its pass r, and of when its section began
pub record PassTells (begin : Option ℕ) (from : ℕ) (r : List Change) : Type 0 where
  pub legal : IsLegal r
  pub since : (b : ℕ) → begin ≡ Some b → b ≤ from
  -- it may be at no more than one entry of a slot, and that has a name
  pub one : (t : ℕ) (e f : Entry) → StandsOn r from (length r) t e → StandsOn r from (length r) t f → e ≡ f
  pub named : (t : ℕ) (e : Entry) → StandsOn r from (length r) t e → are_key_words e.rec.name.high e.rec.name.low ≡ true

pub record HasFollowed (x : CpuView) (q : Search) (n : ℕ) (y : CpuView) : Type 0 where
  pub pass : IsPrefix x.pass y.pass
  pub is : y ≡ cpu_after_link x q n y.pass
  pub holds : LinkHolds x.settings q n y.pass
  pub descends : (s : ℕ) → q.place ≡ AtNext s → Descends x.pass q s n y.pass
  pub tells : PassTells x.begin q.start y.pass
  -- the head leads to the newest, the link of an entry's slot to the next one below its number
  pub first : q.place ≡ AtHead → SkipsNone y.pass q.start (suc (length y.pass)) n
  pub next : (s : ℕ) (e : Entry) → q.place ≡ AtNext s → MayStandOn x.pass q s e → SkipsNone y.pass q.start (rank_at y.pass e.number) n

-- the search that is under way has loaded the link n
abbrev pub HasLoadedLink : CpuView → ℕ → CpuView → Type 0
HasLoadedLink x n y = (q : Search) → x.search ≡ Some q → HasFollowed x q n y

-- what one load of the head tells of a Seek and of the first LoadLink of its search
-- the seat's part of the list: the search begins, and loads the head
abbrev pub sought : Event → ℕ → List LogItem
sought (Seek c kind name) n = did (Seek c kind name) Done ++ did (LoadLink c) (link_answer n)
sought _ n = []

abbrev pub HasSought : Event → CpuView → ℕ → CpuView → Type 0
HasSought (Seek c kind name) x n y = Makes (Seek c kind name) Done (Cpu x) (Cpu (cpu_after_seek (key_with kind name) x))
    × Makes (LoadLink c) (link_answer n) (Cpu (cpu_after_seek (key_with kind name) x)) (Cpu y)
    × HasFollowed (cpu_after_seek (key_with kind name) x) (search_for (key_with kind name) x) n y
HasSought _ x n y = ⊥

-- Record words

-- the place is at the record word k of the slot t: the number, the kind, the two words of the name, the value
abbrev pub IsAtWord : SearchPlace → ℕ → ℕ → Type 0
IsAtWord AtHead t k = ⊥
IsAtWord (AtNext s) t k = ⊥
IsAtWord (AtNumber s) t k = (s ≡ t) × (k ≡ 0)
IsAtWord (AtKind s n) t k = (s ≡ t) × (k ≡ 1)
IsAtWord (AtHigh s n w) t k = (s ≡ t) × (k ≡ 2)
IsAtWord (AtLow s n w h) t k = (s ≡ t) × (k ≡ 3)
IsAtWord (AtValue s n) t k = (s ≡ t) × (k ≡ 4)

-- a search is under way, and is to load the record word k of the slot t
pub record MayLoadSearched (x : CpuView) (t k : ℕ) : Type 0 where
  pub search : Search
  pub under_way : x.search ≡ Some search
  pub place : IsAtWord search.place t k

abbrev pub every_word : ℕ → RecordWords
every_word n = record { number = n; kind = n; high = n; low = n; value = n }

-- What a search makes of the word n found at its place, as the core does: of the record words it takes that one alone.
abbrev pub loaded_of : Option Search → ℕ → Option Loaded
loaded_of None n = None
loaded_of (Some q) n = loaded_at q q.place (every_word n)

abbrev pub loaded_answer : Option Loaded → Reply
loaded_answer None = Done
loaded_answer (Some (On p w)) = Word w
loaded_answer (Some (Over e)) = Found e

-- the search q has loaded a record word
abbrev pub cpu_after_record_word : CpuView → Search → Option Loaded → CpuView
cpu_after_record_word x q None = x
cpu_after_record_word x q (Some (On p w)) = record x { search = Some (search_with_place q p) }
cpu_after_record_word x q (Some (Over e)) = record x { search = None; found = Some e }

-- an entry found is lawful in the CPU's own pass, at some point from the start of the search on, and was attached in it
abbrev pub FoundHolds : Search → Option Loaded → List Change → Type 0
FoundHolds q None p = Unit {0}
FoundHolds q (Some (On place w)) p = Unit {0}
FoundHolds q (Some (Over e)) p = IsLawful p q.start (length p) q.key (Some e) × IsAttached p e

pub record HasSearched (x : CpuView) (q : Search) (n : ℕ) (y : CpuView) : Type 0 where
  pub is : y ≡ cpu_after_record_word x q (loaded_of (Some q) n)
  pub holds : FoundHolds q (loaded_of (Some q) n) y.pass
  -- a number is that of an entry on which the search may stand
  pub number : (t : ℕ) → q.place ≡ AtNumber t → (e : Entry) × MayStandOn y.pass q t e × (e.number ≡ n)
  -- a word is that of each entry that the search may be at there
  pub words : (t k : ℕ) (e : Entry) → IsAtWord q.place t k → MayStandOn y.pass q t e → word (words_of e) k ≡ n

-- the search that is under way has loaded the record word n
abbrev pub HasLoadedWord : CpuView → ℕ → CpuView → Type 0
HasLoadedWord x n y = (q : Search) → x.search ≡ Some q → HasSearched x q n y

-- The value of an entry that isn't the one sought: the search has compared it, and stays at its link.

-- n is the value of each entry that the search may be at in the slot t
abbrev pub IsValueThere : CpuView → ℕ → ℕ → Type 0
IsValueThere x t n = (q : Search) (e : Entry) → x.search ≡ Some q → MayStandOn x.pass q t e → e.rec.value ≡ n

-- what the inner step is told: of the event and the word's place
abbrev pub tells_compared : Event → ℕ → CpuView → ℕ → CpuView → Type 0
tells_compared event i x n y = Makes event (Word n) (Cpu x) (Cpu y) × (y ≡ x) × ((t : ℕ) → i ≡ RECORDS + STRIDE * t + 4 → IsValueThere x t n)
