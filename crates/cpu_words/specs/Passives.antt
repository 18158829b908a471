-- Passive references by a CPU's seat, in a section or without: where it may make the step, and what changes in its view; and an entry recalled.
use Rattle.std.specs.Prelude.{◌≡◌, ◌⊎◌, ℕ, ◌+◌, ◌*◌, ◌<◌, ◌∷◌, Some, true, ◌≢◌, ◌≤◌, List, length, None, ◌==◌, if◌then◌else◌}
use Rattle.std.specs.List.{Contains}
use mathlib.Core.List.{IsPrefix}
use Rattle.cpu_words.specs.Types.{MOST_SLOTS, Settings, Entry, Event, PassiveAdd, PassiveSub, LoadRecord, Passive, Word, Change, Recall, RecallHead, Try}
use Rattle.registry_values.specs.Names.{are_key_words}
use Rattle.protocol.specs.Common.{IsAttached, word, words_of, IsLiveAt, IsNewestAt}
use Rattle.cpu_words.specs.declared.view.CpuView.{CpuView}
use Rattle.cpu_words.specs.declared.view.View.TheVariants.{Cpu}
use Rattle.cpu_words.specs.Views.{references_to, without}
use Rattle.cpu_words.specs.Steps.{Makes}
use Rattle.cpu_words.specs.Sections.{IsIdle, HasWholePass}
use Rattle.cpu_words.specs.Spots.{passive_of, index}
use Rattle.cpu_words.specs.declared.layout.TheConstants.{RECORDS, STRIDE}
use Rattle.cpu_words.specs.declared.view.InHand.TheVariants.{Empty as NoEntry, Trying as TryingEntry}
use Rattle.cpu_words.specs.Locals.{with_hand}

-- the entry has this slot and this number
pub record IsAt (e : Entry) (t n : ℕ) : Type 0 where
  pub slot : e.slot ≡ t
  pub number : e.number ≡ n

-- the CPU has found the entry n of the slot t last, or refers to it, and has fewer references to it than the limit
pub record MayAdd (x : CpuView) (t n : ℕ) : Type 0 where
  pub idle : IsIdle x
  pub entry : Entry
  pub at : IsAt entry t n
  pub known : (x.found ≡ Some entry) ⊎ Contains x.references entry
  pub room : references_to n x.references < x.settings.passive_limit

-- the CPU has a passive reference to the entry n of the slot t
pub record MayUse (x : CpuView) (t n : ℕ) : Type 0 where
  pub idle : IsIdle x
  pub entry : Entry
  pub at : IsAt entry t n
  pub held : Contains x.references entry

-- one reference more, to an entry of the pass
abbrev pub HasAdded : CpuView → ℕ → ℕ → CpuView → Type 0
HasAdded x t n y = (e : Entry) × IsAt e t n × IsAttached x.pass e × (y ≡ record x { references = e ∷ x.references })

-- one reference to n less
abbrev pub HasSubtracted : CpuView → ℕ → CpuView → Type 0
HasSubtracted x n y = y ≡ record x { references = without n x.references }

-- m is the word k of the entry n in the slot t; the CPU refers to n
abbrev pub IsWordOf : CpuView → ℕ → ℕ → ℕ → ℕ → Type 0
IsWordOf x t n k m = (e : Entry) → IsAt e t n → Contains x.references e → m ≡ word (words_of e) k

-- the entry n in the slot t has a name that isn't both words 0; the CPU refers to n
abbrev pub IsNamed : CpuView → ℕ → ℕ → Type 0
IsNamed x t n = (e : Entry) → IsAt e t n → Contains x.references e → are_key_words e.rec.name.high e.rec.name.low ≡ true

-- the CPU's references into the slot t are to the entry n alone
abbrev pub IsAloneAt : CpuView → ℕ → ℕ → Type 0
IsAloneAt x t n = (f : Entry) → Contains x.references f → f.slot ≡ t → f.number ≡ n

-- What the inner steps are told: of the event and the word's place

abbrev pub tells_added : Settings → Event → ℕ → CpuView → ℕ → CpuView → Type 0
tells_added z event i x m y = Makes event (Word m) (Cpu x) (Cpu y)
    × ((c t n : ℕ) → event ≡ PassiveAdd c n → i ≡ index z (passive_of c t) → HasAdded x t n y × (t < MOST_SLOTS) × (m ≡ references_to n x.references) × IsAloneAt x t n)

abbrev pub tells_subtracted : Settings → Event → ℕ → CpuView → ℕ → CpuView → Type 0
tells_subtracted z event i x m y = Makes event (Word m) (Cpu x) (Cpu y)
    × ((c t n : ℕ) → event ≡ PassiveSub c n → i ≡ index z (passive_of c t) → HasSubtracted x n y × (m ≡ references_to n x.references) × IsAloneAt x t n)

abbrev pub tells_passive : Event → ℕ → CpuView → ℕ → CpuView → Type 0
tells_passive event i x m y = Makes event (Word m) (Cpu x) (Cpu y)
    × (y ≡ x) × ((c t n k : ℕ) → event ≡ LoadRecord (Passive c n k) → i ≡ RECORDS + STRIDE * t + k → IsWordOf x t n k m × IsAloneAt x t n × IsNamed x t n)

-- An entry is recalled by a CPU's seat: by one load of the slot's live word. Or the newest one, by a load of the head.

-- no search is under way
pub record MayRecall (x : CpuView) (t : ℕ) : Type 0 where
  pub search : x.search ≡ None
  pub slot : t < x.settings.slots

-- the pass grows, and all else stays
abbrev pub HasSeenMore : CpuView → CpuView → Type 0
HasSeenMore x y = IsPrefix x.pass y.pass × (y ≡ record x { pass = y.pass })

-- the number n is 0, or of the entry that is live in the slot t after all changes of h, and of no other
pub record IsLiveNumber (h : List Change) (t n : ℕ) : Type 0 where
  pub only : (e : Entry) → IsAttached h e → e.number ≡ n → IsLiveAt h (length h) e × (e.slot ≡ t)
  pub one : n ≢ 0 → (e : Entry) × IsLiveAt h (length h) e × (e.slot ≡ t) × (e.number ≡ n)

-- n was loaded: an entry with this number is live at the end of the pass, which is the whole history
pub record HasRecalled (x : CpuView) (t n : ℕ) (y : CpuView) : Type 0 where
  pub is : HasSeenMore x y
  pub live : IsLiveNumber y.pass t n

-- the head w was loaded: it leads to the newest entry that is live at the end of the pass, which is the whole history
pub record HasRecalledHead (x : CpuView) (w : ℕ) (y : CpuView) : Type 0 where
  pub is : HasSeenMore x y
  pub newest : IsNewestAt y.pass w
  pub few : w ≤ x.settings.slots

-- what the load tells that found n, by its event
abbrev pub RecalledTold : Event → CpuView → ℕ → CpuView → Type 0
RecalledTold (Recall c t) x n y = HasRecalled x t n y × HasWholePass y
RecalledTold (RecallHead c) x n y = HasRecalledHead x n y × HasWholePass y
RecalledTold e x n y = ⊥

-- Found again

-- inside a section, with no search under way; the entry n of the slot t is in the pass
pub record MayRefind (x : CpuView) (t n : ℕ) : Type 0 where
  pub search : x.search ≡ None
  pub inside : (b : ℕ) × (x.begin ≡ Some b)
  pub slot : t < x.settings.slots
  pub entry : Entry
  pub at : IsAt entry t n
  pub attached : IsAttached x.pass entry

-- e is the last found entry, and is live in the slot t at the end of the pass, which is the whole history
pub record IsRefound (x : CpuView) (t : ℕ) (e : Entry) (y : CpuView) : Type 0 where
  pub longer : IsPrefix x.pass y.pass
  pub is : y ≡ record x { pass = y.pass; found = Some e }
  pub live : IsLiveAt y.pass (length y.pass) e
  pub slot : e.slot ≡ t

-- so is the entry n of the pass
abbrev pub HasRefound : CpuView → ℕ → ℕ → CpuView → Type 0
HasRefound x t n y = (e : Entry) → IsAttached x.pass e → e.number ≡ n → IsRefound x t e y

-- what the load tells that found m: if m is n, the entry n is found again, by the event `same`; else it is a recall
abbrev pub RefindTold : ℕ → Event → Event → CpuView → ℕ → CpuView → Type 0
RefindTold n same (Recall c t) x m y =
    (m ≡ n → Makes same (Word m) (Cpu x) (Cpu y) × HasRefound x t n y) × ((m ≡ n → ⊥) → Makes (Recall c t) (Word m) (Cpu x) (Cpu y) × HasRecalled x t m y) × HasWholePass y
RefindTold n same other x m y = ⊥

-- Passive references without a section, by a CPU's seat: its passive word is counted up for an entry that it remembers, and then the slot's live word is loaded.

-- the CPU is trying to get a reference to e
abbrev pub IsTrying : CpuView → Entry → Type 0
IsTrying x e = x.hand ≡ TryingEntry e

-- The begin

-- the entry n of the slot t is in the CPU's pass, and it has fewer references into that slot than the limit
pub record MayTry (x : CpuView) (t n : ℕ) : Type 0 where
  pub idle : IsIdle x
  pub slot : t < x.settings.slots
  pub entry : Entry
  pub at : IsAt entry t n
  pub attached : IsAttached x.pass entry
  pub room : (f : Entry) → Contains x.references f → f.slot ≡ t → references_to f.number x.references < x.settings.passive_limit

-- the CPU is trying to get a reference to the entry n of its pass; that is no reference yet
abbrev pub HasTried : CpuView → ℕ → CpuView → Type 0
HasTried x n y = (e : Entry) → IsAttached x.pass e → e.number ≡ n → y ≡ with_hand x (TryingEntry e)

-- what the addition tells, by its event
abbrev pub TriedTold : Event → CpuView → CpuView → Type 0
TriedTold (Try c t n) x y = HasTried x n y
TriedTold e x y = ⊥

-- The last load

-- the CPU is trying to get a reference to the entry n of the slot t, which is in its pass; no search is under way
pub record MayEndTry (x : CpuView) (t n : ℕ) : Type 0 where
  pub search : x.search ≡ None
  pub slot : t < x.settings.slots
  pub entry : Entry
  pub at : IsAt entry t n
  pub attached : IsAttached x.pass entry
  pub trying : IsTrying x entry

-- the event of a load that found m: one where m is n, else another
abbrev pub event_by : ℕ → Event → Event → ℕ → Event
event_by n same other m = if m == n then same else other

-- What the CPU was trying is a reference. Its entry is live at the end of the pass, which is the whole history.
pub record HasConfirmed (x y : CpuView) : Type 0 where
  pub entry : Entry
  pub trying : IsTrying x entry
  pub is : y ≡ record x { pass = y.pass; hand = NoEntry; references = entry ∷ x.references }
  pub longer : IsPrefix x.pass y.pass
  pub live : IsLiveAt y.pass (length y.pass) entry
  -- its references into the slot are all to that entry
  pub alone : IsAloneAt x entry.slot entry.number

-- what the load tells that found m: if m is n, the CPU has its reference, by the event `same`; else it is trying still, by the event `other`
abbrev pub EndTold : ℕ → Event → Event → CpuView → ℕ → CpuView → Type 0
EndTold n same other x m y = (m ≡ n → Makes same (Word m) (Cpu x) (Cpu y) × HasConfirmed x y) × ((m ≡ n → ⊥) → Makes other (Word m) (Cpu x) (Cpu y) × HasSeenMore x y)

-- Back

-- the CPU is trying to get a reference in the slot t
pub record MayTakeBack (x : CpuView) (t : ℕ) : Type 0 where
  pub entry : Entry
  pub trying : IsTrying x entry
  pub slot : entry.slot ≡ t

-- it is trying nothing
abbrev pub HasTakenBack : CpuView → CpuView → Type 0
HasTakenBack x y = y ≡ with_hand x NoEntry
