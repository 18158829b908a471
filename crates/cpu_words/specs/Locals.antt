-- Local references by a CPU's seat (localcount(9)), and loads by a reference's own: where the step may be made, and what changes in the view.
use Rattle.std.specs.Prelude.{◌≡◌, ℕ, ◌+◌, ◌<◌, ◌==◌, if◌then◌else◌, Some, None, IsTrue}
use Rattle.cpu_words.specs.Types.{Entry, Event, Reply, Word, Collected, LoadRecord, Local}
use Rattle.registry_values.specs.Common.{bias, is_key}
use Rattle.protocol.specs.Common.{word, words_of}
use Rattle.cpu_words.specs.declared.view.InHand.{InHand}
use Rattle.cpu_words.specs.declared.view.InHand.TheVariants.{Empty as NoEntry, Taking as TakingEntry, Giving as GivingEntry, Back as BackEntry, Trying as TryingEntry}
use Rattle.cpu_words.specs.declared.view.CpuView.{CpuView}
use Rattle.cpu_words.specs.declared.view.ReferenceView.{ReferenceView}
use Rattle.cpu_words.specs.declared.view.View.{View}
use Rattle.cpu_words.specs.declared.view.View.TheVariants.{Cpu, Reference}
use Rattle.cpu_words.specs.Views.{number_at, with_number, one_more, no_entry, cpu_of, reference_of}
use Rattle.cpu_words.specs.Steps.{Makes}
use Rattle.cpu_words.specs.Sections.{IsIdle}

-- The hand is a CPU's own: a reference in it has no seat

-- the CPU's view with this in its hand
abbrev pub with_hand : CpuView → InHand → CpuView
with_hand x h = record x { hand = h }

-- the local reference that the CPU c has in its hand, as the view of a seat; one that goes back was found collected by c
abbrev pub reference_in : ℕ → InHand → ReferenceView
reference_in c NoEntry = record { entry = no_entry; collected = None }
reference_in c (TakingEntry e) = record { entry = e; collected = None }
reference_in c (GivingEntry e) = record { entry = e; collected = None }
reference_in c (BackEntry e) = record { entry = e; collected = Some c }
reference_in c (TryingEntry e) = record { entry = no_entry; collected = None }

-- a CPU's seat with its hand empty, and the seat of what was in it
abbrev pub with_empty_hand : View → View
with_empty_hand v = Cpu (with_hand (cpu_of v) NoEntry)

abbrev pub reference_of_hand : View → View
reference_of_hand v = Reference (reference_in (cpu_of v).id (cpu_of v).hand)

-- a CPU's seat with the reference in its hand, to be given up
abbrev pub with_reference_in_hand : View → View → View
with_reference_in_hand v u = Cpu (with_hand (cpu_of v) (GivingEntry (reference_of u).entry))

-- what is in the hand was just counted, or was found collected

abbrev pub IsTaking : CpuView → Entry → Type 0
IsTaking x e = x.hand ≡ TakingEntry e

abbrev pub IsGiving : CpuView → Entry → Type 0
IsGiving x e = x.hand ≡ GivingEntry e

abbrev pub IsBack : CpuView → Entry → Type 0
IsBack x e = x.hand ≡ BackEntry e

-- the word w is the CPU's net count for n, over the bias: what it acquired less what it released
abbrev pub IsNetCount : CpuView → ℕ → ℕ → Type 0
IsNetCount x n w = w + number_at x.released n ≡ bias + number_at x.acquired n

-- what the CPU's place of the slot t says of n: its net count over the bias, or the bias where it met another number there
pub record IsPlaceCount (x : CpuView) (t n w : ℕ) : Type 0 where
  pub met : number_at x.met t ≡ n → IsNetCount x n w
  pub other : (number_at x.met t ≡ n → ⊥) → w ≡ bias

-- the CPU has met n in no other slot than t
abbrev pub IsMetAlone : CpuView → ℕ → ℕ → Type 0
IsMetAlone x t n = (u : ℕ) → number_at x.met u ≡ n → u ≡ t

-- the last found entry is n in the slot t, and by its place of t the CPU's net count for n is below the limit
pub record MayCount (x : CpuView) (t n : ℕ) : Type 0 where
  pub idle : IsIdle x
  pub entry : Entry
  pub found : x.found ≡ Some entry
  pub slot : entry.slot ≡ t
  pub number : entry.number ≡ n
  pub count : ℕ
  pub place : IsPlaceCount x t n count
  pub room : count < bias + x.settings.count_limit

-- a reference to the last found entry, n in the slot t, was counted, and is in the hand
abbrev pub HasCounted : CpuView → ℕ → ℕ → CpuView → Type 0
HasCounted x t n y = (e : Entry) × (x.found ≡ Some e) × (e.slot ≡ t) × (e.number ≡ n)
    × (y ≡ record x { hand = TakingEntry e; acquired = one_more x.acquired n; met = with_number x.met t n })

-- what the addition of 1 to the word w tells
abbrev pub CountTold : CpuView → ℕ → CpuView → Type 0
CountTold x w y = (t n : ℕ) → MayCount x t n → HasCounted x t n y × IsNetCount x n w × (w < bias + x.settings.count_limit) × IsMetAlone x t n

-- the reference in the hand is to n in the slot t, and w is what the CPU's place of t says of n
pub record MayCountDown (x : CpuView) (t n w : ℕ) : Type 0 where
  pub entry : Entry
  pub giving : IsGiving x entry
  pub slot : entry.slot ≡ t
  pub number : entry.number ≡ n
  pub place : IsPlaceCount x t n w

-- the reference, to n in the slot t, was counted down, or it stays in the hand, to go back
abbrev pub HasCountedDown : CpuView → ℕ → ℕ → CpuView → Type 0
HasCountedDown x t n y = (e : Entry) × IsGiving x e × (e.slot ≡ t) × (e.number ≡ n)
    × (y ≡ record x { hand = NoEntry; released = one_more x.released n; met = with_number x.met t n })

abbrev pub HasFoundCollected : CpuView → ℕ → CpuView → Type 0
HasFoundCollected x n y = (e : Entry) × IsGiving x e × (e.number ≡ n) × (y ≡ with_hand x (BackEntry e))

-- what the compare-exchange from `old` tells, where it found the word w
-- what the count down from `old` replies, where it found w
abbrev pub down_reply : ℕ → ℕ → Reply
down_reply old w = if w == old then Word w else Collected

abbrev pub DownTold : Event → ℕ → CpuView → ℕ → CpuView → Type 0
DownTold e old x w y = (t n : ℕ) → MayCountDown x t n old → (0 < old) × IsNetCount x n old × IsMetAlone x t n
    × (w ≡ old → Makes e (Word w) (Cpu x) (Cpu y) × HasCountedDown x t n y)
    × ((w ≡ old → ⊥) → Makes e Collected (Cpu x) (Cpu y) × HasFoundCollected x n y)

-- the reference has left the hand, and has its seat
abbrev pub HasSplit : CpuView → CpuView → ReferenceView → Type 0
HasSplit x y v = (e : Entry) × IsTaking x e × (y ≡ with_hand x NoEntry) × (v ≡ record { entry = e; collected = None })

abbrev pub HasSplitBack : CpuView → CpuView → ReferenceView → Type 0
HasSplitBack x y v = (e : Entry) × IsBack x e × (y ≡ with_hand x NoEntry) × (v ≡ record { entry = e; collected = Some x.id })

-- Loads of a record's words by the seat of a local reference.

-- The load as the seat knows it: of a reference to its entry
abbrev pub loads_by : Event → ReferenceView → Event
loads_by (LoadRecord (Local id k)) v = LoadRecord (Local v.entry.number k)
loads_by e v = e

-- What the inner step is told. Which id the core gives the reference is in no view, so the event names any.
abbrev pub tells_local : Event → ReferenceView → ℕ → ReferenceView → Type 0
tells_local event v m w = (w ≡ v) × ((id k : ℕ) → event ≡ LoadRecord (Local id k)
    → ((o : ℕ) × Makes (LoadRecord (Local o k)) (Word m) (Reference v) (Reference v)) × (m ≡ word (words_of v.entry) k) × IsTrue (is_key v.entry.rec.name))
