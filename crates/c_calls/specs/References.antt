-- What the calls of passive references return and leave. C has a reference as a value, which a call writes.
use Rattle.std.specs.Prelude.{◌≡◌, ◌≢◌, ◌↔◌, ◌<◌, ℕ, Bool, IsTrue, Option, Some, None, Result, IfErr, IfOk}
use Rattle.c_calls.specs.Types.{Entry, Refusal, Key}
use Rattle.registry_values.specs.Common.{Answers}
use Rattle.cpu_words.specs.Common.{references_to}
use Rattle.passive_list.specs.Common.{OnPlainCpu}
use Rattle.passive_ref.specs.{AcquiresEntry, HasOneLess, IsCopied, OnPsref, why_not_copied, why_unusable}
use Rattle.name_registry.specs.LookingUp.{Gets}
use Rattle.c_handles.specs.declared.values.plain.TheConstants.{EMPTY_HANDLE, FULL_HANDLE, NULL, OUTSIDE}
use Rattle.c_handles.specs.declared.values.plain.CEntry.{CEntry}
use Rattle.c_handles.specs.declared.values.plain.CName.{CName}
use Rattle.c_handles.specs.declared.values.plain.CPassive.{CPassive}
use Rattle.c_handles.specs.values.Places.{put}
use Rattle.c_handles.specs.values.Texts.{entry_again, entry_out, kind_given, no_passive, number_of, passive_again}
use Rattle.c_calls.specs.Calls.{Asks}

-- What C gives, and where it lets a call write

-- A call that needs a reference. With an empty one nothing changes: `Same` says so. Else P holds.
pub record Needs (given : CPassive) (n : ℕ) (Same P : Type 0) : Type 0 where
  pub empty : given.entry.number ≡ 0 → (n ≡ EMPTY_HANDLE) × Same
  pub held : given.entry.number ≢ 0 → P

-- A call that writes a reference to an empty place. Over another reference nothing changes: `Same` says so. Else P holds.
pub record Fills (place : CPassive) (n : ℕ) (Same P : Type 0) : Type 0 where
  pub full : place.entry.number ≢ 0 → (n ≡ FULL_HANDLE) × Same
  pub empty : place.entry.number ≡ 0 → P

-- neither the CPU nor what C has at a place has changed
abbrev pub IsSame : OnPlainCpu → OnPlainCpu → CPassive → CPassive → Type 0
IsSame a b old new = (b ≡ a) × (new ≡ old)

-- the reference that it is to its CPU
abbrev pub psref_of : CPassive → OnPsref
psref_of p = record { cpu = p.cpu; number = p.entry.number }

-- Acquiring

-- what C has of a reference of this CPU that a get gave
abbrev pub got_by : OnPlainCpu → Entry × OnPsref → CPassive
got_by a g = record { entry = entry_out g.0; cpu = a.cpu.view.id }

-- the answer r of a get; where it is done, C has the entry that it found
pub record GetsFor (key : Key) (a b : OnPlainCpu) (n : ℕ) (old new : CPassive) : Type 0 where
  pub r : Result (Entry × OnPsref) Refusal
  pub is : n ≡ number_of r
  pub answer : Gets key a.cpu b.cpu r
  pub refused : IfErr r (λ _. new ≡ old)
  pub writes : IfOk r (λ g. new ≡ got_by a g)
  pub words : b.words ≡ a.words

abbrev pub GetsInto : ℕ → Option CName → OnPlainCpu → OnPlainCpu → ℕ → CPassive → CPassive → Type 0
GetsInto kind name a b n old new = Fills old n (IsSame a b old new) (Asks kind name n (IsSame a b old new) (λ key. GetsFor key a b n old new))

-- what C has of a reference of this CPU to that entry
abbrev pub passive_to : CEntry → OnPlainCpu → CPassive
passive_to e a = record { entry = entry_again e; cpu = a.cpu.view.id }

-- the answer r of an acquire of the entry with e's number; where it is done, C has the entry that it gave
pub record AcquiresInside (e : CEntry) (key : Key) (a b : OnPlainCpu) (n : ℕ) (old new : CPassive) : Type 0 where
  pub r : Result OnPsref Refusal
  pub is : n ≡ number_of r
  pub answer : AcquiresEntry e.number key a.cpu b.cpu r
  pub refused : IfErr r (λ _. new ≡ old)
  pub writes : IfOk r (λ _. new ≡ passive_to e a)
  pub words : b.words ≡ a.words

pub record AcquiresFor (e : CEntry) (key : Key) (a b : OnPlainCpu) (n : ℕ) (old new : CPassive) : Type 0 where
  pub outside : a.cpu.view.begin ≡ None → (n ≡ OUTSIDE) × IsSame a b old new
  pub inside : a.cpu.view.begin ≢ None → AcquiresInside e key a b n old new

-- of an entry that was given, or of none
abbrev pub AcquiresGiven : Option CEntry → OnPlainCpu → OnPlainCpu → ℕ → CPassive → CPassive → Type 0
AcquiresGiven None a b n old new = (n ≡ NULL) × IsSame a b old new
AcquiresGiven (Some e) a b n old new = Asks (kind_given e) (Some e.name) n (IsSame a b old new) (λ key. AcquiresFor e key a b n old new)

abbrev pub Acquires : Option CEntry → OnPlainCpu → OnPlainCpu → ℕ → CPassive → CPassive → Type 0
Acquires given a b n old new = Fills old n (IsSame a b old new) (AcquiresGiven given a b n old new)

-- Copying and releasing

-- the answer r of a copy; where it is done, C has the same once more
pub record CopiesHeld (p : CPassive) (a b : OnPlainCpu) (n : ℕ) (old new : CPassive) : Type 0 where
  pub r : Result OnPsref Refusal
  pub is : n ≡ number_of r
  pub answer : Answers (why_not_copied a.cpu.view p.entry.number (why_unusable a.cpu.view (psref_of p))) (IsCopied p.entry.number a.cpu b.cpu) r
  pub refused : IfErr r (λ _. IsSame a b old new)
  pub writes : IfOk r (λ _. new ≡ passive_again p)
  pub words : b.words ≡ a.words

abbrev pub Copies : CPassive → OnPlainCpu → OnPlainCpu → ℕ → CPassive → CPassive → Type 0
Copies p a b n old new = Needs p n (IsSame a b old new) (Fills old n (IsSame a b old new) (CopiesHeld p a b n old new))

-- the answer r of a release; where it is done, C's reference is empty
pub record ReleasesHeld (p : CPassive) (a b : OnPlainCpu) (n : ℕ) (new : CPassive) : Type 0 where
  pub r : Result (Unit {0}) Refusal
  pub is : n ≡ number_of r
  pub answer : Answers (why_unusable a.cpu.view (psref_of p)) (λ _. HasOneLess p.entry.number a.cpu b.cpu) r
  pub refused : IfErr r (λ _. IsSame a b p new)
  pub emptied : IfOk r (λ _. new ≡ no_passive)
  pub words : b.words ≡ a.words

abbrev pub Releases : CPassive → OnPlainCpu → OnPlainCpu → ℕ → CPassive → Type 0
Releases p a b n new = Needs p n (IsSame a b p new) (ReleasesHeld p a b n new)

-- Asking

-- what a call writes that asks whether the CPU holds a reference to that number
abbrev pub HoldsSay : ℕ → OnPlainCpu → Option Bool → Option Bool → Type 0
HoldsSay number a old new = (says : Bool) × (new ≡ put old says) × (IsTrue says ↔ 0 < references_to number a.cpu.view.references)
