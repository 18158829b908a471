-- Passive references of a CPU (psref(9)): why a call is refused, what it returns and leaves; also of a get by memory.
use Rattle.std.specs.Prelude.{◌≡◌, ◌⊎◌, ℕ, ◌<◌, ◌==◌, ◌&&◌, nat_lt, Bool, List, ◌∷◌, ◌++◌, Option, Some, None, Result, Ok, Err, IfErr, ◌≢◌, ◌≤◌, if◌then◌else◌, true, false, length}
use Rattle.std.specs.List.{Contains}
use mathlib.Core.List.{IsPrefix}
use Rattle.passive_list.specs.Types.{Entry, Record, Refusal, NothingFound, LoadRecord, PassiveAdd, PassiveSub, Passive, Word, CpuView, LogItem, Key, Try, Confirm, TakeBack, Recall}
use Rattle.registry_values.specs.Answers as answers
use Rattle.registry_values.specs.declared.refusal.Refusal.TheVariants.{NotFound}
use Rattle.registry_values.specs.Common.{Answers}
use Rattle.protocol.specs.Common.{word, words_of, IsAttached, IsLiveAt, IsLookup, entry_with}
use Rattle.cpu_words.specs.Common.{did, references_to, without, IsAt, IsAloneAt}
use Rattle.passive_list.specs.Common.{FindsInside, IsFoundLast, OnCpu, IsPlaceOf, Recalls}
use Rattle.passive_list.specs.declared.place.NumberedCount.{NumberedCount}
use Rattle.passive_list.specs.declared.lookup.Seen.{Seen}

-- a passive reference, to a contract: the CPU that it was acquired on, and the number of its entry
pub record OnPsref : Type 0 where
  pub cpu : ℕ
  pub number : ℕ

-- one reference more, to the entry e, by one event, which replies how many there were, and nothing else changes
abbrev pub HasOneMore : Entry → OnCpu → OnCpu → Type 0
HasOneMore e a b = b ≡ record a { view = record a.view { references = e ∷ a.view.references }; log = a.log ++ did (PassiveAdd a.view.id e.number) (Word (references_to e.number a.view.references)) }

-- one reference to n less, by one event, which replies how many there were, and nothing else changes
abbrev pub HasOneLess : ℕ → OnCpu → OnCpu → Type 0
HasOneLess n a b = b ≡ record a { view = record a.view { references = without n a.view.references }; log = a.log ++ did (PassiveSub a.view.id n) (Word (references_to n a.view.references)) }

-- p is a new reference of this CPU, to the entry e
pub record IsNew (e : Entry) (a b : OnCpu) (p : OnPsref) : Type 0 where
  pub cpu : p.cpu ≡ a.view.id
  pub number : p.number ≡ e.number
  pub after : HasOneMore e a b

-- it is to the last found entry
abbrev pub IsAcquired : OnCpu → OnCpu → OnPsref → Type 0
IsAcquired a b p = (e : Entry) × (a.view.found ≡ Some e) × IsNew e a b p

-- it is to the entry n; this CPU has a reference to n
abbrev pub IsCopied : ℕ → OnCpu → OnCpu → OnPsref → Type 0
IsCopied n a b p = (e : Entry) × Contains a.view.references e × (e.number ≡ n) × IsNew e a b p

-- it is to the entry n of the slot t, which is in the pass
abbrev pub IsAdded : ℕ → ℕ → OnCpu → OnCpu → OnPsref → Type 0
IsAdded t n a b p = (e : Entry) × IsAt e t n × IsAttached a.view.pass e × IsNew e a b p

-- e is the entry n, and this CPU refers to it
pub record IsReferredTo (x : CpuView) (n : ℕ) (e : Entry) : Type 0 where
  pub held : Contains x.references e
  pub attached : IsAttached x.pass e
  pub number : e.number ≡ n

-- the load of the word k of e's record by a passive reference of the CPU c
abbrev pub has_loaded : ℕ → Entry → ℕ → List LogItem
has_loaded c e k = did (LoadRecord (Passive c e.number k)) (Word (word (words_of e) k))

-- the kind, the two words of the name and the value of e were loaded, and nothing else of the CPU changes
abbrev pub HasLoaded : Entry → OnCpu → OnCpu → Type 0
HasLoaded e a b = b ≡ record a { log = a.log ++ has_loaded a.view.id e 1 ++ has_loaded a.view.id e 2 ++ has_loaded a.view.id e 3 ++ has_loaded a.view.id e 4 }

-- the CPU refers to the entry n and has loaded its words, and r is its record
abbrev pub IsRead : ℕ → OnCpu → OnCpu → Record → Type 0
IsRead n a b r = (e : Entry) × (IsReferredTo a.view n e × HasLoaded e a b) × (r ≡ e.rec)

-- Where a call may be made

-- the CPU refers to the entry n, which is in the slot t
pub record IsHeldAt (x : CpuView) (t n : ℕ) : Type 0 where
  pub entry : Entry
  pub at : IsAt entry t n
  pub held : Contains x.references entry
  pub attached : IsAttached x.pass entry
  pub few : t < x.settings.slots

-- the CPU found the entry n of the slot t last, or refers to it
pub record MayRefer (x : CpuView) (t n : ℕ) : Type 0 where
  pub entry : Entry
  pub at : IsAt entry t n
  pub known : (x.found ≡ Some entry) ⊎ Contains x.references entry
  pub few : t < x.settings.slots

-- the place counts references to n
abbrev pub counts_for : ℕ → NumberedCount → Bool
counts_for n p = p.number == n && nat_lt 0 p.count

-- Why a call is refused: nothing where it isn't

-- the CPU has as many references to n as it may
abbrev pub why_full : CpuView → ℕ → Option Refusal
why_full x n = answers.why_full (references_to n x.references) x.settings.passive_limit

-- the CPU may not use the reference: it names another CPU, or this CPU has none to that number
abbrev pub why_unusable : CpuView → OnPsref → Option Refusal
why_unusable x p = answers.why_unusable (p.cpu == x.id) (nat_lt 0 (references_to p.number x.references))

-- of a reference to the last found entry
abbrev pub why_not_acquired : CpuView → Option Entry → Option Refusal
why_not_acquired x None = Some NothingFound
why_not_acquired x (Some e) = why_full x e.number

-- of a second reference to n, where the first may be used or not
abbrev pub why_not_copied : CpuView → ℕ → Option Refusal → Option Refusal
why_not_copied x n None = why_full x n
why_not_copied x n (Some f) = Some f

-- the result of a call that is refused exactly where there is a refusal, and gives the reference p back with it, as it was
abbrev pub GivesBack : {X : Type 0} → Option Refusal → OnPsref → (X → Type 0) → Result X (Refusal × OnPsref) → Type 0
GivesBack why p P (Ok x) = (why ≡ None) × P x
GivesBack why p P (Err r) = (why ≡ Some r.0) × (r.1 ≡ p)

-- An acquire of the entry n, and of no other one: what it does with the last found entry, with a reference that the CPU has, and by a lookup.

-- it is acquired, unless the CPU has as many as it may
pub record AcquiresLast (n : ℕ) (a b : OnCpu) (r : Result OnPsref Refusal) : Type 0 where
  pub last : IsFoundLast a.view n
  pub answer : Answers (why_not_acquired a.view a.view.found) (IsAcquired a b) r
  pub refused : IfErr r (λ _. b ≡ a)

-- the CPU has a reference to n, and has one more, unless it has as many as it may
pub record CopiesOwn (n : ℕ) (a b : OnCpu) (r : Result OnPsref Refusal) : Type 0 where
  pub held : 0 < references_to n a.view.references
  pub answer : Answers (why_full a.view n) (IsCopied n a b) r
  pub refused : IfErr r (λ _. b ≡ a)

-- the entry is neither
pub record AcquiresNone (n : ℕ) (a b : OnCpu) (r : Result OnPsref Refusal) : Type 0 where
  pub other : IsFoundLast a.view n → ⊥
  pub none : references_to n a.view.references ≡ 0
  pub answer : r ≡ Err NotFound
  pub same : b ≡ a

-- The entry isn't the last found one. A lookup for the key leaves the CPU as c. Then it is the last found one, or the CPU has a reference to it, or it is neither.
pub record AcquiresSought (n : ℕ) (key : Key) (a b : OnCpu) (r : Result OnPsref Refusal) : Type 0 where
  pub other : IsFoundLast a.view n → ⊥
  pub c : OnCpu
  pub seen : Option Seen
  pub finds : FindsInside key a c seen
  pub how : AcquiresLast n c b r ⊎ (CopiesOwn n c b r ⊎ AcquiresNone n c b r)

abbrev pub AcquiresEntry : ℕ → Key → OnCpu → OnCpu → Result OnPsref Refusal → Type 0
AcquiresEntry n key a b r = AcquiresLast n a b r ⊎ (CopiesOwn n a b r ⊎ AcquiresSought n key a b r)

-- A get by memory: a passive reference to an entry that the CPU has seen is acquired by one addition, and one load of the slot's live word.

-- the entry n of the slot t is in the CPU's pass
pub record HasSeen (x : CpuView) (t n : ℕ) : Type 0 where
  pub entry : Entry
  pub at : IsAt entry t n
  pub attached : IsAttached x.pass entry
  pub slots : t < x.settings.slots

-- what a place counts for the number n
abbrev pub counted_for : ℕ → NumberedCount → ℕ
counted_for n p = if p.number == n then p.count else 0

-- how the log of a get goes on that has its reference: an addition, and a load that found n
abbrev pub EndsWell : ℕ → ℕ → ℕ → List LogItem → List LogItem → Type 0
EndsWell c t n old new = (w : ℕ) × (new ≡ old ++ did (Try c t n) (Word w) ++ did (Confirm c) (Word n))

-- how the log of a get in vain goes on: an addition, a load that found another number, and a subtraction
abbrev pub EndsInVain : ℕ → ℕ → ℕ → List LogItem → List LogItem → Type 0
EndsInVain c t n old new = (w : ℕ) × (m : ℕ) × (v : ℕ) × (m ≢ n) × (new ≡ old ++ did (Try c t n) (Word w) ++ did (Recall c t) (Word m) ++ did (TakeBack c) (Word v))

-- By the seat

-- The CPU has a reference to the entry n of the slot t, which is live at the end of its pass. The pass has grown to the whole history.
pub record IsTakenAs (x y : CpuView) (t n : ℕ) : Type 0 where
  pub entry : Entry
  pub at : IsAt entry t n
  pub attached : IsAttached x.pass entry
  pub longer : IsPrefix x.pass y.pass
  pub is : y ≡ record x { pass = y.pass; references = entry ∷ x.references }
  pub live : IsLiveAt y.pass (length y.pass) entry
  pub alone : IsAloneAt x t n

-- all is taken back
pub record IsVain (x y : CpuView) : Type 0 where
  pub longer : IsPrefix x.pass y.pass
  pub is : y ≡ record x { pass = y.pass }

abbrev pub HasTriedOnSeat : ℕ → ℕ → CpuView → CpuView → List LogItem → List LogItem → Bool → Type 0
HasTriedOnSeat t n x y old new true = IsTakenAs x y t n × EndsWell x.id t n old new
HasTriedOnSeat t n x y old new false = IsVain x y × EndsInVain x.id t n old new

-- By the CPU

-- p is a new reference of this CPU, to the entry n of the slot t, which is live at the end of its pass, by two events
pub record IsGot (t n : ℕ) (a b : OnCpu) (p : OnPsref) : Type 0 where
  pub entry : Entry
  pub at : IsAt entry t n
  pub pass : IsPrefix a.view.pass b.view.pass
  pub live : IsLiveAt b.view.pass (length b.view.pass) entry
  pub word : ℕ
  pub is : b ≡ record a {
    view = record a.view { pass = b.view.pass; references = entry ∷ a.view.references };
    log = a.log ++ did (Try a.view.id t n) (Word word) ++ did (Confirm a.view.id) (Word n);
  }
  pub cpu : p.cpu ≡ a.view.id
  pub number : p.number ≡ n

-- the CPU has nothing of it but a longer pass
pub record HasGivenUp (t n : ℕ) (a b : OnCpu) : Type 0 where
  pub pass : IsPrefix a.view.pass b.view.pass
  pub is : b ≡ record a { view = record a.view { pass = b.view.pass }; log = b.log }
  pub log : EndsInVain a.view.id t n a.log b.log

-- the CPU has as many references to an entry of the slot t as it may
abbrev pub IsFullAt : CpuView → ℕ → Type 0
IsFullAt x t = (n : ℕ) × (x.settings.passive_limit ≤ references_to n x.references) × (n ≢ 0 → IsPlaceOf x.pass t n)

-- what a get leaves, by its result: without a reference, it made no event, since the CPU has as many as it may, or three
abbrev pub HasGotOn : ℕ → ℕ → OnCpu → OnCpu → Option OnPsref → Type 0
HasGotOn t n a b (Some p) = IsGot t n a b p
HasGotOn t n a b None = ((b ≡ a) × IsFullAt a.view t) ⊎ HasGivenUp t n a b

-- By the memory

-- what a get does by what the CPU remembers of the key: nothing, or s. A reference is to s, which is what the registry answers for the key at the load.
abbrev pub GetsBy : Option Seen → Key → OnCpu → OnCpu → Option (Seen × OnPsref) → Type 0
GetsBy None key a b result = (result ≡ None) × (b ≡ a)
GetsBy (Some s) key a b None = HasGotOn s.slot s.number a b None
GetsBy (Some s) key a b (Some got) = (got.0 ≡ s) × HasGotOn s.slot s.number a b (Some got.1) × IsLookup b.view.pass (length b.view.pass) key (Some (entry_with key s.slot s.number s.value))

abbrev pub HasGotByMemory : Key → OnCpu → OnCpu → Option (Seen × OnPsref) → Type 0
HasGotByMemory key a b result = (kept : Option Seen) × Recalls a.memory key kept × GetsBy kept key a b result
