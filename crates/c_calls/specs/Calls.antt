-- What a call on a CPU returns and leaves. Each restates the contract of the call beneath it, with the result as its number.
use Rattle.std.specs.Prelude.{◌≡◌, ◌≢◌, ◌⊎◌, ◌<◌, ℕ, Option, Some, None, Result, Ok, Err, ◌≤◌, List, length}
use Rattle.c_calls.specs.Types.{Entry, Kind, Name, Refusal, Key}
use Rattle.registry_values.specs.Common.{key_of_words}
use Rattle.cpu_words.specs.Common.{key_with}
use Rattle.passive_list.specs.declared.lookup.Seen.{Seen}
use Rattle.passive_list.specs.Common.{OnCpu, OnPlainCpu, AnswersEnter, HasExitedOn, OnPlainKeeper, HasWalked, IsWritten}
use Rattle.name_registry.specs.LookingUp.{EntersAndFinds, LooksInside, LooksUp}
use Rattle.c_handles.specs.declared.values.plain.TheConstants.{DONE, OUTSIDE, EMPTY_HANDLE, BAD_KIND, BAD_NAME, NULL, NO_ROOM}
use Rattle.c_handles.specs.declared.values.plain.CEntry.{CEntry}
use Rattle.c_handles.specs.declared.values.plain.CName.{CName}
use Rattle.c_handles.specs.Bodies.{IsReferenceOf, OnLocal}
use Rattle.c_handles.specs.values.Places.{put, DoesBy}
use Rattle.c_handles.specs.values.Texts.{entry_out, kind_in, number_of}

-- What a call returns and leaves. Each restates the contract of the call beneath it, with the result as its number, and says what is
-- written.

-- Handles, by their bodies

-- A call through one handle. If it is empty its number is returned and nothing changes: `Same` says so of what the call writes. Else P
-- holds of its body before and after.
pub record Through {B : Type 0} (old new : Option B) (n : ℕ) (Same : Type 0) (P : B → B → Type 0) : Type 0 where
  pub empty : old ≡ None → (n ≡ EMPTY_HANDLE) × (new ≡ None) × Same
  pub full : (a : B) → old ≡ Some a → (b : B) × (new ≡ Some b) × P a b

-- A call through two: either may be empty.
pub record ThroughBoth {K C : Type 0} (k k' : Option K) (c c' : Option C) (n : ℕ) (Same : Type 0) (P : K → C → K → C → Type 0) : Type 0 where
  pub empty : (k ≡ None) ⊎ (c ≡ None) → (n ≡ EMPTY_HANDLE) × (k' ≡ k) × (c' ≡ c) × Same
  pub full : (a : K) (x : C) → k ≡ Some a → c ≡ Some x → (b : K) × (y : C) × (k' ≡ Some b) × (c' ≡ Some y) × P a x b y

-- The handles of a call are of one registry, those that aren't empty. Nothing at run time tells two registries apart, so the caller ensures
-- it.

abbrev pub AreOfOne : Option OnPlainKeeper → Option OnPlainCpu → Type 0
AreOfOne k c = (a : OnPlainKeeper) (x : OnPlainCpu) → k ≡ Some a → c ≡ Some x → x.words ≡ a.words

abbrev pub IsOfCpu : Option OnPlainCpu → Option OnLocal → Type 0
IsOfCpu c l = (x : OnPlainCpu) (v : OnLocal) → c ≡ Some x → l ≡ Some v → IsReferenceOf x.words v.held

abbrev pub IsOfKeeper : Option OnPlainKeeper → Option OnLocal → Type 0
IsOfKeeper k l = (a : OnPlainKeeper) (v : OnLocal) → k ≡ Some a → l ≡ Some v → IsReferenceOf a.words v.held

-- A kind and a name of C's

-- the name of two words, unless both are 0
abbrev pub words_name : CName → Option Name
words_name name = key_of_words name.high name.low

-- the key of a kind and a name, or the number of what is wrong with them: first with the kind
abbrev pub key_or_bad : Option Kind → Option Name → Result Key ℕ
key_or_bad None w = Err BAD_KIND
key_or_bad (Some k) None = Err BAD_NAME
key_or_bad (Some k) (Some w) = Ok (key_with k w)

-- the key that a call asks for, or the number of what is wrong with its arguments
abbrev pub asked : ℕ → Option CName → Result Key ℕ
asked kind None = Err NULL
asked kind (Some m) = key_or_bad (kind_in kind) (words_name m)

-- What a call does, by what its arguments ask for. If something is wrong with them, its number is
-- the result, and nothing changes: `Same` says so of what the call writes. Else P holds of what they
-- ask for.
abbrev pub DoesAsked : {X : Type 0} → Result X ℕ → ℕ → Type 0 → (X → Type 0) → Type 0
DoesAsked (Err e) n Same P = (n ≡ e) × Same
DoesAsked (Ok x) n Same P = P x

-- a call by a kind and a name of C's
pub record Asks (word : ℕ) (name : Option CName) (n : ℕ) (Same : Type 0) (P : Key → Type 0) : Type 0 where
  pub does : DoesAsked (asked word name) n Same P

-- what is written to a place of C's of an answer: nothing of a refusal
abbrev pub Puts : {X Y : Type 0} → (X → Y) → Result X Refusal → Option Y → Option Y → Type 0
Puts out (Ok x) old new = new ≡ put old (out x)
Puts out (Err refusal) old new = new ≡ old

-- One CPU

-- the answer r of an enter
pub record Enters (a b : OnPlainCpu) (n : ℕ) : Type 0 where
  pub r : Result (Unit {0}) Refusal
  pub number : n ≡ number_of r
  pub entered : AnswersEnter a.cpu b.cpu r
  pub words : b.words ≡ a.words

pub record Exits (a b : OnPlainCpu) (n : ℕ) : Type 0 where
  pub outside : a.cpu.view.begin ≡ None → (n ≡ OUTSIDE) × (b ≡ a)
  pub inside : a.cpu.view.begin ≢ None → (n ≡ DONE) × HasExitedOn a.cpu b.cpu × (b.words ≡ a.words)

-- What lookups return, leave and write.

-- The result of a call that looks an entry up, as `Does` tells of it: its number is returned, and the entry that it found is written.
pub record TellsEntry (Does : OnCpu → OnCpu → Result Entry Refusal → Type 0) (a b : OnPlainCpu) (n : ℕ) (old new : Option CEntry) : Type 0 where
  pub r : Result Entry Refusal
  pub number : n ≡ number_of r
  pub does : Does a.cpu b.cpu r
  pub words : b.words ≡ a.words
  pub writes : Puts entry_out r old new

-- The fast path of a lookup by C's words. Tells says what is so of the key that they ask for, and
-- the entry that was found. If they ask for none, nothing has changed.
abbrev pub MissesFor : (Key → OnCpu → OnCpu → Option Seen → Type 0) → Result Key ℕ → OnPlainCpu → OnPlainCpu → Type 0
MissesFor Tells (Ok key) a b = Tells key a.cpu b.cpu None × (b.words ≡ a.words)
MissesFor Tells (Err e) a b = b ≡ a

abbrev pub IsFastFor : (Key → OnCpu → OnCpu → Option Seen → Type 0) → ℕ → CName → OnPlainCpu → OnPlainCpu → Option Seen → Type 0
IsFastFor Tells kind given a b None = MissesFor Tells (asked kind (Some given)) a b
IsFastFor Tells kind given a b (Some s) = (key : Key) × (asked kind (Some given) ≡ Ok key) × Tells key a.cpu b.cpu (Some s) × (b.words ≡ a.words)

-- the entry that was found, by C's words of its kind and its name
abbrev pub entry_by : ℕ → CName → Seen → CEntry
entry_by kind given s = record { number = s.number; slot = s.slot; kind = kind; name = given; value = s.value }

-- the number of a find outside any section
abbrev pub outside_or : Result Key ℕ → ℕ
outside_or (Ok key) = OUTSIDE
outside_or (Err e) = e

abbrev pub LooksUpFor : Key → OnPlainCpu → OnPlainCpu → ℕ → Option CEntry → Option CEntry → Type 0
LooksUpFor key a b n old new = TellsEntry (LooksUp key) a b n old new

abbrev pub FindsInsideFor : Key → OnPlainCpu → OnPlainCpu → ℕ → Option CEntry → Option CEntry → Type 0
FindsInsideFor key a b n old new = TellsEntry (LooksInside key) a b n old new

pub record FindsFor (key : Key) (a b : OnPlainCpu) (n : ℕ) (old new : Option CEntry) : Type 0 where
  pub outside : a.cpu.view.begin ≡ None → (n ≡ OUTSIDE) × (b ≡ a) × (new ≡ old)
  pub inside : a.cpu.view.begin ≢ None → FindsInsideFor key a b n old new

abbrev pub EntersAndFindsFor : Key → OnPlainCpu → OnPlainCpu → ℕ → Option CEntry → Option CEntry → Type 0
EntersAndFindsFor key a b n old new = TellsEntry (EntersAndFinds key) a b n old new

-- What a walk through the handle answers and writes.

-- the row has the first of the entries that the walk met, as many as it has room for, and the rest of it stays
pub record WritesRow (row : List Entry) (n : ℕ) (old new : List CEntry) : Type 0 where
  pub short : length old < length row → n ≡ NO_ROOM
  pub enough : length row ≤ length old → n ≡ DONE
  pub writes : IsWritten entry_out row old new

pub record Walks (a b : OnPlainCpu) (n : ℕ) (old new : List CEntry) (count count' : Option ℕ) : Type 0 where
  pub outside : a.cpu.view.begin ≡ None → (n ≡ OUTSIDE) × (b ≡ a) × (new ≡ old) × (count' ≡ count)
  pub inside : a.cpu.view.begin ≢ None → (row : List Entry) × HasWalked a.cpu b.cpu row × (b.words ≡ a.words) × (count' ≡ put count (length row)) × WritesRow row n old new

-- into a row of so many places
abbrev pub WalksBy : OnPlainCpu → OnPlainCpu → ℕ → ℕ → Option (List CEntry) → Option (List CEntry) → Option ℕ → Option ℕ → Type 0
WalksBy a b n room row after count count' = DoesBy room row after ((n ≡ NULL) × (b ≡ a) × (count' ≡ count)) (λ old new. Walks a b n old new count count')
