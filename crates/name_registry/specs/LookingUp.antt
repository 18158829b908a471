-- What a lookup, a get, and an enter with a find return and leave. From outside they go by memory; in an open section they are finds.
use Rattle.std.specs.Prelude.{◌≡◌, ◌≢◌, ◌⊎◌, Option, Some, None, Result, Ok, Err, IsTrue}
use Rattle.name_registry.specs.Types.{Entry, Key, Refusal, NotFound, Seen, SectionsSpent}
use Rattle.protocol.specs.Common.{entry_with}
use Rattle.passive_list.specs.Common.{AnswersEnter, FindsInside, FindsWhatIsKept, FindsWhatStays, HasExitedOn, HasFoundByMemory, HasRecalledByMemory, OnCpu, entry_seen, may_begin}
use Rattle.passive_ref.specs.{HasGotByMemory, IsAcquired, OnPsref, why_not_acquired}

-- the result of a lookup that found so
abbrev pub found_or : Option Entry → Result Entry Refusal
found_or None = Err NotFound
found_or (Some e) = Ok e

-- the result of a lookup, by the words of the entry, if there is one
abbrev pub looked_up : Key → Result (Option Seen) Refusal → Result Entry Refusal
looked_up key (Ok seen) = found_or (entry_seen key seen)
looked_up key (Err f) = Err f

-- and of a get
abbrev pub got_of : Key → Result (Seen × OnPsref) Refusal → Result (Entry × OnPsref) Refusal
got_of key (Ok g) = Ok (entry_with key g.0.slot g.0.number g.0.value, g.1)
got_of key (Err f) = Err f

-- a CPU that is outside, with a section left
abbrev pub MayBegin : OnCpu → Type 0
MayBegin a = (a.depth ≡ 0) × IsTrue (may_begin a.view)

-- a CPU that is outside, with none left
abbrev pub IsSpent : OnCpu → Type 0
IsSpent a = (a.depth ≡ 0) × (IsTrue (may_begin a.view) → ⊥)

-- A find in the open section. `stays` and `kept`: what it promises of what was there before it began.
pub record LooksInside (key : Key) (a b : OnCpu) (r : Result Entry Refusal) : Type 0 where
  pub seen : Option Seen
  pub is : r ≡ found_or (entry_seen key seen)
  pub finds : FindsInside key a b seen
  pub stays : FindsWhatStays key a.view.pass b.view.pass (entry_seen key seen)
  pub kept : FindsWhatIsKept key a.view.pass b.view.pass (entry_seen key seen)

-- A lookup from outside, by memory or in a section of its own. It promises the same.
pub record LooksByMemory (key : Key) (a b : OnCpu) (r : Result Entry Refusal) : Type 0 where
  pub seen : Option Seen
  pub is : r ≡ found_or (entry_seen key seen)
  pub finds : HasFoundByMemory key a b seen
  pub stays : FindsWhatStays key a.view.pass b.view.pass (entry_seen key seen)
  pub kept : FindsWhatIsKept key a.view.pass b.view.pass (entry_seen key seen)

pub record LooksUp (key : Key) (a b : OnCpu) (r : Result Entry Refusal) : Type 0 where
  pub by_memory : MayBegin a → LooksByMemory key a b r
  pub spent : IsSpent a → (r ≡ Err SectionsSpent) × (b ≡ a)
  pub inside : a.depth ≢ 0 → LooksInside key a b r

-- The fast path of a lookup told nothing: by what the CPU remembers of the key, from outside with a section left; else it did nothing.
abbrev pub HasMissed : Key → OnCpu → OnCpu → Type 0
HasMissed key a c = (MayBegin a × HasRecalledByMemory key a c None) ⊎ ((MayBegin a → ⊥) × (c ≡ a))

-- what the fast path of a lookup told: the entry, or nothing
abbrev pub LooksFast : Key → OnCpu → OnCpu → Option Seen → Type 0
LooksFast key a b None = HasMissed key a b
LooksFast key a b (Some s) = LooksUp key a b (found_or (entry_seen key (Some s)))

-- and that of a find
abbrev pub FindsFast : Key → OnCpu → OnCpu → Option Seen → Type 0
FindsFast key a b None = HasRecalledByMemory key a b None
FindsFast key a b (Some s) = LooksInside key a b (found_or (entry_seen key (Some s)))

-- how an enter with a find ends: inside with the entry that it found, else by an exit
abbrev pub EndsAsFound : Result Entry Refusal → OnCpu → OnCpu → Type 0
EndsAsFound (Ok e) last b = b ≡ last
EndsAsFound (Err f) last b = HasExitedOn last b

-- An enter and a find. An enter that is refused is the result, and nothing changes then.
pub record EntersAndFinds (key : Key) (a b : OnCpu) (r : Result Entry Refusal) : Type 0 where
  pub first : OnCpu
  pub entered : Result (Unit {0}) Refusal
  pub enters : AnswersEnter a first entered
  pub refused : (f : Refusal) → entered ≡ Err f → (r ≡ Err f) × (b ≡ first)
  pub inside : entered ≡ Ok tt → (last : OnCpu) × LooksInside key first last r × EndsAsFound r last b

-- The fast path of an enter with a find told nothing: an enter that began a section, and in it what
-- the CPU remembers of the key.
pub record HasEnteredInVain (key : Key) (a c : OnCpu) : Type 0 where
  pub first : OnCpu
  pub enters : AnswersEnter a first (Ok tt)
  pub missed : HasRecalledByMemory key first c None

-- A find, and an acquire of what it found. What is refused is the result, and nothing is acquired.
pub record FindsAndAcquires (key : Key) (a b : OnCpu) (r : Result (Entry × OnPsref) Refusal) : Type 0 where
  pub looked : Result Entry Refusal
  pub middle : OnCpu
  pub looks : LooksInside key a middle looked
  pub none : (f : Refusal) → looked ≡ Err f → (r ≡ Err f) × (b ≡ middle)
  pub some : (e : Entry) → looked ≡ Ok e
      → ((f : Refusal) × (why_not_acquired middle.view middle.view.found ≡ Some f) × (r ≡ Err f) × (b ≡ middle)) ⊎ ((p : OnPsref) × (r ≡ Ok (e, p)) × IsAcquired middle b p)

-- the same in a section of its own, between an enter and an exit; an enter that is refused is the result, and nothing else is done
pub record GetsInSection (key : Key) (a b : OnCpu) (r : Result (Entry × OnPsref) Refusal) : Type 0 where
  pub first : OnCpu
  pub entered : Result (Unit {0}) Refusal
  pub enters : AnswersEnter a first entered
  pub refused : (f : Refusal) → entered ≡ Err f → (r ≡ Err f) × (b ≡ first)
  pub inside : entered ≡ Ok tt → (last : OnCpu) × FindsAndAcquires key first last r × HasExitedOn last b

-- what follows a try by memory: nothing where it got a reference, else P
abbrev pub TriedSo : Key → OnCpu → OnCpu → Option (Seen × OnPsref) → Result (Entry × OnPsref) Refusal → (OnCpu → Type 0) → Type 0
TriedSo key c b None r P = P c
TriedSo key c b (Some got) r P = (r ≡ got_of key (Ok got)) × (b ≡ c)

pub record Tries (key : Key) (a b : OnCpu) (r : Result (Entry × OnPsref) Refusal) (P : OnCpu → Type 0) : Type 0 where
  pub tried : OnCpu
  pub got : Option (Seen × OnPsref)
  pub gets : HasGotByMemory key a tried got
  pub after : TriedSo key tried b got r P

-- by memory, else in a section
abbrev pub GetsFound : Key → OnCpu → OnCpu → Result (Entry × OnPsref) Refusal → Type 0
GetsFound key a b r = Tries key a b r (λ c. GetsInSection key c b r)

-- A lookup. Where there is no entry the get is refused, else it follows.
pub record GetsAnew (key : Key) (a b : OnCpu) (r : Result (Entry × OnPsref) Refusal) : Type 0 where
  pub middle : OnCpu
  pub looked : Result Entry Refusal
  pub looks : LooksByMemory key a middle looked
  pub none : (f : Refusal) → looked ≡ Err f → (r ≡ Err f) × (b ≡ middle)
  pub some : (e : Entry) → looked ≡ Ok e → GetsFound key middle b r

abbrev pub GetsByMemory : Key → OnCpu → OnCpu → Result (Entry × OnPsref) Refusal → Type 0
GetsByMemory key a b r = Tries key a b r (λ c. GetsAnew key c b r)

-- the fast path of a get got nothing: by what the CPU remembers of the key, from outside with a section left; else it did nothing
abbrev pub HasNotGot : Key → OnCpu → OnCpu → Type 0
HasNotGot key a c = (MayBegin a × HasGotByMemory key a c None) ⊎ ((MayBegin a → ⊥) × (c ≡ a))

pub record Gets (key : Key) (a b : OnCpu) (r : Result (Entry × OnPsref) Refusal) : Type 0 where
  pub by_memory : MayBegin a → GetsByMemory key a b r
  pub spent : IsSpent a → (r ≡ Err SectionsSpent) × (b ≡ a)
  pub inside : a.depth ≢ 0 → FindsAndAcquires key a b r
