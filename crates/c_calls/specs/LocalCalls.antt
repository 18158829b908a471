-- What the calls of local references return and leave. C has a reference as a value, with its entry.
use Rattle.std.specs.Prelude.{ℕ, zero, suc, Bool, true, false, ◌&&◌, ◌||◌, ◌≡◌, ◌≢◌, ◌⊎◌, List, Option, Some, None, Result, Ok, Err, IfOk, length}
use Rattle.c_calls.specs.Types.{Key, Refusal, NoMemory, ReferenceView}
use Rattle.registry_values.specs.Common.{is_retired_as, slot_at, number_of_refusal}
use Rattle.protocol.specs.Common.{mark_at}
use Rattle.passive_list.specs.Common.{OnKeeper, OnPlainCpu, OnPlainKeeper}
use Rattle.local_count.specs.{AcquiresEntryLocal, HasComeBack, HasReleased}
use Rattle.local_count.specs.Draining.{HasGivenUp}
use Rattle.name_registry.specs.Common.{GetsLocal}
use Rattle.c_handles.specs.declared.handle.CpuHandle.{CpuHandle}
use Rattle.c_handles.specs.declared.values.plain.CEntry.{CEntry}
use Rattle.c_handles.specs.declared.values.plain.CName.{CName}
use Rattle.c_handles.specs.declared.values.plain.TheConstants.{DONE, EMPTY_HANDLE, FULL_HANDLE, COLLECTED, NOT_COLLECTED, OUTSIDE, NULL}
use Rattle.c_handles.specs.Bodies.{IsReferenceOf, OnLocal, OnLocalBody, as_copied}
use Rattle.c_handles.specs.values.Texts.{kind_given, number_of}
use Rattle.c_calls.specs.Calls.{AreOfOne, Asks}
use Rattle.c_calls.specs.Opening.{bodies_of, body_at}

-- Whether the keeper has collected a count of a retired entry.

-- of one of the first so many CPUs, in the slot t
abbrev pub some_collected : OnKeeper → ℕ → ℕ → Bool
some_collected k t zero = false
some_collected k t (suc c) = some_collected k t c || (mark_at k.view.marks t c).collected

-- the entry n is retired in the slot t, and a count of it was collected
abbrev pub are_collected_for : OnKeeper → ℕ → ℕ → ℕ → Bool
are_collected_for k t n cpus = is_retired_as n (slot_at k.slots t) && some_collected k t cpus

-- what an acquire leaves in a place of C's: nothing if it is refused
abbrev pub given_of : Result OnLocalBody Refusal → Option OnLocal
given_of (Ok v) = Some (record { held = v; copied = false })
given_of (Err refusal) = None

-- Acquiring

-- neither the CPU nor the reference has changed
abbrev pub IsSameLocal : OnPlainCpu → OnPlainCpu → Option OnLocal → Option OnLocal → Type 0
IsSameLocal a b l l' = (b ≡ a) × (l' ≡ l)

-- The answer r of an acquire of the entry with that number and that key. Where it is done, the reference is what it gives, and of the CPU's registry.
pub record AcquiresLocalInside (number : ℕ) (key : Key) (a b : OnPlainCpu) (n : ℕ) (l : Option OnLocal) : Type 0 where
  pub r : Result OnLocalBody Refusal
  pub is : n ≡ number_of r
  pub answer : AcquiresEntryLocal number key a.cpu b.cpu r (λ v. v.reference)
  pub ours : IfOk r (λ v. IsReferenceOf a.words v)
  pub given : l ≡ given_of r
  pub words : b.words ≡ a.words

-- in a section; memory may run out
pub record AcquiresLocalFor (number : ℕ) (key : Key) (a b : OnPlainCpu) (n : ℕ) (l l' : Option OnLocal) : Type 0 where
  pub outside : a.cpu.view.begin ≡ None → (n ≡ OUTSIDE) × IsSameLocal a b l l'
  pub inside : a.cpu.view.begin ≢ None → ((n ≡ number_of_refusal NoMemory) × IsSameLocal a b l l') ⊎ AcquiresLocalInside number key a b n l'

-- of an entry that was given, or of none
abbrev pub AcquiresLocalGiven : Option CEntry → OnPlainCpu → OnPlainCpu → ℕ → Option OnLocal → Option OnLocal → Type 0
AcquiresLocalGiven None a b n l l' = (n ≡ NULL) × IsSameLocal a b l l'
AcquiresLocalGiven (Some e) a b n l l' = Asks (kind_given e) (Some e.name) n (IsSameLocal a b l l') (λ key. AcquiresLocalFor e.number key a b n l l')

-- A call that writes a reference to an empty place. Over another reference nothing changes: `Same` says so. Else P holds.
pub record FillsLocal (l : Option OnLocal) (n : ℕ) (Same P : Type 0) : Type 0 where
  pub full : (v : OnLocal) → l ≡ Some v → (n ≡ FULL_HANDLE) × Same
  pub empty : l ≡ None → P

abbrev pub AcquiresLocal : Option CEntry → OnPlainCpu → OnPlainCpu → ℕ → Option OnLocal → Option OnLocal → Type 0
AcquiresLocal given a b n l l' = FillsLocal l n (IsSameLocal a b l l') (AcquiresLocalGiven given a b n l l')

-- Getting

-- the references of an answer
abbrev pub references_in : Result OnLocalBody Refusal → Result ReferenceView Refusal
references_in (Ok v) = Ok v.reference
references_in (Err refusal) = Err refusal

-- The answer r of a get by the key. Where it is done, the reference is what it gives, and of the CPU's registry.
pub record GetsLocalBy (key : Key) (a b : OnPlainCpu) (n : ℕ) (l : Option OnLocal) : Type 0 where
  pub r : Result OnLocalBody Refusal
  pub is : n ≡ number_of r
  pub gets : GetsLocal key a.cpu b.cpu (references_in r)
  pub ours : IfOk r (λ v. IsReferenceOf a.words v)
  pub given : l ≡ given_of r
  pub words : b.words ≡ a.words

-- memory may run out
abbrev pub GetsLocalFor : Key → OnPlainCpu → OnPlainCpu → ℕ → Option OnLocal → Option OnLocal → Type 0
GetsLocalFor key a b n l l' = ((n ≡ number_of_refusal NoMemory) × IsSameLocal a b l l') ⊎ GetsLocalBy key a b n l'

-- by a kind and a name of C's, to an empty place
abbrev pub GetsLocalNamed : ℕ → Option CName → OnPlainCpu → OnPlainCpu → ℕ → Option OnLocal → Option OnLocal → Type 0
GetsLocalNamed kind name a b n l l' = FillsLocal l n (IsSameLocal a b l l') (Asks kind name n (IsSameLocal a b l l') (λ key. GetsLocalFor key a b n l l'))

-- Copying

-- the reference and its copy are two of one; or memory runs out, and the reference may count as copied all the same
abbrev pub CopiesOf : OnLocal → Option OnLocal → Option OnLocal → ℕ → Type 0
CopiesOf v l m n = ((n ≡ DONE) × (l ≡ Some (as_copied v)) × (m ≡ Some (as_copied v)))
    ⊎ ((n ≡ number_of_refusal NoMemory) × (m ≡ None) × ((l ≡ Some v) ⊎ (l ≡ Some (as_copied v))))

-- no CPU is in the call
pub record LocalCopies (l l' m m' : Option OnLocal) (n : ℕ) : Type 0 where
  pub nothing : l ≡ None → (n ≡ EMPTY_HANDLE) × (l' ≡ l) × (m' ≡ m)
  pub full : (v w : OnLocal) → l ≡ Some v → m ≡ Some w → (n ≡ FULL_HANDLE) × (l' ≡ l) × (m' ≡ m)
  pub copied : (v : OnLocal) → l ≡ Some v → m ≡ None → CopiesOf v l' m' n

-- Releasing

-- it was released on the CPU, or comes back, which shows that the CPU's count was collected
pub record ReleasesOn (a : OnPlainCpu) (v : OnLocalBody) (b : OnPlainCpu) (l : Option OnLocalBody) : Type 0 where
  pub words : b.words ≡ a.words
  pub how : (HasReleased a.cpu v.reference b.cpu × (l ≡ None))
      ⊎ ((w : ReferenceView) × HasComeBack a.cpu v.reference b.cpu w × (l ≡ Some (record { table = v.table; reference = w })))

-- The reference was released, or comes back, which shows that the CPU's count was collected. If it is a copied one, a share may be released, and others have it still.
pub record LocalReleases (a : OnPlainCpu) (v : OnLocal) (b : OnPlainCpu) (n : ℕ) (l : Option OnLocal) : Type 0 where
  pub words : b.words ≡ a.words
  pub how : ((n ≡ DONE) × HasReleased a.cpu v.held.reference b.cpu × (l ≡ None))
      ⊎ (((v.copied ≡ true) × (n ≡ DONE) × (b ≡ a) × (l ≡ None))
      ⊎ ((n ≡ COLLECTED) × (w : ReferenceView) × HasComeBack a.cpu v.held.reference b.cpu w × (l ≡ Some (record { held = record { table = v.held.table; reference = w }; copied = false }))))

-- No release has found its CPU's count collected, as far as an uncopied reference tells, and the keeper has collected none.
pub record IsUncollected (k : OnPlainKeeper) (v : OnLocal) : Type 0 where
  pub own : (v.copied ≡ true) ⊎ (v.held.reference.collected ≡ None)
  pub none : are_collected_for k.keeper v.held.reference.entry.slot v.held.reference.entry.number k.words.settings.cpus ≡ false

-- It was given up under the interlock, or a share of it was, and others have it still; or no count was collected.
pub record LocalGivesUp (k : OnPlainKeeper) (v : OnLocal) (k' : OnPlainKeeper) (n : ℕ) (l : Option OnLocal) : Type 0 where
  pub words : k'.words ≡ k.words
  pub how : ((n ≡ DONE) × HasGivenUp k.keeper v.held.reference k'.keeper × (l ≡ None))
      ⊎ (((v.copied ≡ true) × (n ≡ DONE) × (k' ≡ k) × (l ≡ None))
      ⊎ ((n ≡ NOT_COLLECTED) × (k' ≡ k) × (l ≡ Some v) × IsUncollected k v))

-- It was released on the CPU; or, where the CPU's count was collected, given up by the keeper.
pub record ReleasesUnder (k : OnPlainKeeper) (c : OnPlainCpu) (v : OnLocalBody) (k' : OnPlainKeeper) (c' : OnPlainCpu) : Type 0 where
  pub keeper_words : k'.words ≡ k.words
  pub cpu_words : c'.words ≡ c.words
  pub how : (HasReleased c.cpu v.reference c'.cpu × (k' ≡ k)) ⊎ ((w : ReferenceView) × HasComeBack c.cpu v.reference c'.cpu w × HasGivenUp k.keeper w k'.keeper)

-- So it was, or a share of it, and others have it still. It is done in each case.
pub record LocalReleasesLocked (k : OnPlainKeeper) (c : OnPlainCpu) (v : OnLocal) (k' : OnPlainKeeper) (c' : OnPlainCpu) (n : ℕ) (l : Option OnLocal) : Type 0 where
  pub done : n ≡ DONE
  pub empty : l ≡ None
  pub how : ReleasesUnder k c v.held k' c' ⊎ ((v.copied ≡ true) × (k' ≡ k) × (c' ≡ c))

-- a call that may spend the reference
pub record ThroughLocal {B : Type 0} (c c' : Option B) (l l' : Option OnLocal) (n : ℕ) (P : B → OnLocal → B → Option OnLocal → Type 0) : Type 0 where
  pub empty : (c ≡ None) ⊎ (l ≡ None) → (n ≡ EMPTY_HANDLE) × (c' ≡ c) × (l' ≡ l)
  pub full : (a : B) (v : OnLocal) → c ≡ Some a → l ≡ Some v → (b : B) × (c' ≡ Some b) × P a v b l'

-- through the two handles, too
pub record ThroughAll (k k' : Option OnPlainKeeper) (c c' : Option OnPlainCpu) (l l' : Option OnLocal) (n : ℕ) : Type 0 where
  pub empty : (k ≡ None) ⊎ ((c ≡ None) ⊎ (l ≡ None)) → (n ≡ EMPTY_HANDLE) × (k' ≡ k) × (c' ≡ c) × (l' ≡ l)
  pub full : (a : OnPlainKeeper) (x : OnPlainCpu) (v : OnLocal) → k ≡ Some a → c ≡ Some x → l ≡ Some v
      → (b : OnPlainKeeper) × (y : OnPlainCpu) × (k' ≡ Some b) × (c' ≡ Some y) × LocalReleasesLocked a x v b y n l'

-- the CPU of the one handle in a row
abbrev pub cpu_in : List CpuHandle → Option OnPlainCpu
cpu_in cpus = body_at (bodies_of cpus) 0

-- the CPU of a row that was given is of the keeper's registry
abbrev pub AreOfOneRow : Option OnPlainKeeper → Option (List CpuHandle) → Type 0
AreOfOneRow k None = Unit {0}
AreOfOneRow k (Some cpus) = AreOfOne k (cpu_in cpus)

-- A release under the interlock: on a CPU, where it is always done, or without one.
abbrev pub ReleasesLocked : Option OnPlainKeeper → Option OnPlainKeeper → Option (List CpuHandle) → Option (List CpuHandle) → Option OnLocal → Option OnLocal → ℕ → Type 0
ReleasesLocked k k' None after l l' n = (after ≡ None) × ThroughLocal k k' l l' n (λ a v b j. LocalGivesUp a v b n j)
ReleasesLocked k k' (Some old) after l l' n = (new : List CpuHandle) × (after ≡ Some new) × (length new ≡ 1) × ThroughAll k k' (cpu_in old) (cpu_in new) l l' n

-- The handle of a reference is emptied. Nothing else is behind it that could change: the reference stays held.
pub record LocalForgets (old new : Option OnLocal) (n : ℕ) : Type 0 where
  pub empty : old ≡ None → n ≡ EMPTY_HANDLE
  pub full : (v : OnLocal) → old ≡ Some v → n ≡ DONE
  pub none : new ≡ None
