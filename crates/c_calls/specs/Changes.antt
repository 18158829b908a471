-- What the changes of whoever holds the keeper return and leave: attaches, replacements and detaches.
use Rattle.std.specs.Prelude.{◌≡◌, ℕ, Option, Some, None, Result, Ok, Err, IfOk, IfErr, false}
use Rattle.c_calls.specs.Types.{Entry, Kind, Driver, Iface, Key, Name, Record, Refusal}
use Rattle.passive_list.specs.Common.{OnPlainCpu, OnPlainKeeper}
use Rattle.name_registry.specs.Common.{AttachesByName, HasAttachedFor, HasDetachedFor, HasReplacedFor, IsDetachAnswer, IsReplaceAnswer, KeepsWords, ReplacesByName, attach_answer}
use Rattle.c_handles.specs.declared.values.plain.TheConstants.{BAD_NAME, NULL}
use Rattle.c_handles.specs.declared.values.plain.CEntry.{CEntry}
use Rattle.c_handles.specs.declared.values.plain.CName.{CName}
use Rattle.c_handles.specs.values.Places.{put}
use Rattle.c_handles.specs.values.Texts.{entry_out, number_of}
use Rattle.c_calls.specs.Calls.{Asks, DoesAsked, Puts, words_name}

-- Arguments

-- what is given beside a place that the call needs: nothing, if that is null
abbrev pub beside : {X Y : Type 0} → Option X → Option Y → Option Y
beside None given = None
beside (Some x) given = given

-- the names of a driver and of an interface, or the number of what is wrong with them
abbrev pub names_or_bad : Option Name → Option Name → Result (Name × Name) ℕ
names_or_bad None w = Err BAD_NAME
names_or_bad (Some v) None = Err BAD_NAME
names_or_bad (Some v) (Some w) = Ok (v, w)

abbrev pub asked_both : Option CName → Option CName → Result (Name × Name) ℕ
asked_both None name = Err NULL
asked_both (Some d) None = Err NULL
asked_both (Some d) (Some m) = names_or_bad (words_name d) (words_name m)

-- a call by both names
pub record AsksBoth (driver name : Option CName) (n : ℕ) (Same : Type 0) (P : Name → Name → Type 0) : Type 0 where
  pub does : DoesAsked (asked_both driver name) n Same (λ names. P names.0 names.1)

-- neither the keeper nor the CPU changes
abbrev pub StayBoth : OnPlainKeeper → OnPlainCpu → OnPlainKeeper → OnPlainCpu → Type 0
StayBoth k c k' c' = (k' ≡ k) × (c' ≡ c)

-- Attaching

abbrev pub record_of : Kind → Name → ℕ → Record
record_of kind name value = record { kind = kind; name = name; value = value }

-- the answer r of an attach of the record
pub record Attaches (rec : Record) (k : OnPlainKeeper) (c : OnPlainCpu) (k' : OnPlainKeeper) (c' : OnPlainCpu) (r : Result Entry Refusal) : Type 0 where
  pub answer : r ≡ attach_answer k.words.settings k.keeper c.cpu rec
  pub ok : IfOk r (λ e. HasAttachedFor k.keeper c.cpu e k'.keeper c'.cpu)
  pub refused : IfErr r (λ _. StayBoth k c k' c')
  pub words : KeepsWords k c k' c'

pub record AttachAnswers (rec : Record) (k : OnPlainKeeper) (c : OnPlainCpu) (k' : OnPlainKeeper) (c' : OnPlainCpu) (n : ℕ) (old new : Option CEntry) : Type 0 where
  pub r : Result Entry Refusal
  pub number : n ≡ number_of r
  pub attaches : Attaches rec k c k' c' r
  pub writes : Puts entry_out r old new

-- the word of a driver's kind
abbrev pub DRIVER : ℕ
DRIVER = 2

abbrev pub AttachCalls : Option CName → ℕ → OnPlainKeeper → OnPlainCpu → OnPlainKeeper → OnPlainCpu → ℕ → Option CEntry → Option CEntry → Type 0
AttachCalls name value k c k' c' n old new =
    Asks DRIVER name n (StayBoth k c k' c' × (new ≡ old)) (λ key. AttachAnswers (record_of key.kind key.name value) k c k' c' n old new)

-- by the name of the driver
pub record AttachIfaceAnswers (driver name : Name) (value : ℕ) (k : OnPlainKeeper) (c : OnPlainCpu) (k' : OnPlainKeeper) (c' : OnPlainCpu) (n : ℕ) (old new : Option CEntry) : Type 0 where
  pub r : Result Entry Refusal
  pub number : n ≡ number_of r
  pub attaches : AttachesByName k.words.settings k.keeper c.cpu driver (record_of Iface name value) k'.keeper c'.cpu r
  pub words : KeepsWords k c k' c'
  pub writes : Puts entry_out r old new

abbrev pub AttachIfaceCalls : Option CName → Option CName → ℕ → OnPlainKeeper → OnPlainCpu → OnPlainKeeper → OnPlainCpu → ℕ → Option CEntry → Option CEntry → Type 0
AttachIfaceCalls driver name value k c k' c' n old new = AsksBoth driver name n (StayBoth k c k' c' × (new ≡ old)) (λ v w. AttachIfaceAnswers v w value k c k' c' n old new)

-- Replacing

-- both entries are written, or none is
abbrev pub PutsBoth : Result (Entry × Entry) Refusal → Option CEntry → Option CEntry → Option CEntry → Option CEntry → Type 0
PutsBoth (Ok p) gone gone' made made' = (gone' ≡ put gone (entry_out p.0)) × (made' ≡ put made (entry_out p.1))
PutsBoth (Err refusal) gone gone' made made' = (gone' ≡ gone) × (made' ≡ made)

-- the answer r of a replacement of a driver
pub record Replaces (name : Name) (value : ℕ) (k : OnPlainKeeper) (c : OnPlainCpu) (k' : OnPlainKeeper) (c' : OnPlainCpu) (r : Result (Entry × Entry) Refusal) : Type 0 where
  pub answer : IsReplaceAnswer k.words.settings k.keeper c.cpu false (record { kind = Driver; name = name }) value r
  pub ok : IfOk r (λ p. HasReplacedFor k.keeper c.cpu p.0 p.1 k'.keeper c'.cpu)
  pub refused : IfErr r (λ _. StayBoth k c k' c')
  pub words : KeepsWords k c k' c'

pub record ReplaceAnswers (name : Name) (value : ℕ) (k : OnPlainKeeper) (c : OnPlainCpu) (k' : OnPlainKeeper) (c' : OnPlainCpu) (n : ℕ) (gone gone' made made' : Option CEntry) : Type 0 where
  pub r : Result (Entry × Entry) Refusal
  pub number : n ≡ number_of r
  pub replaces : Replaces name value k c k' c' r
  pub writes : PutsBoth r gone gone' made made'

abbrev pub ReplaceCalls : Option CName → ℕ → OnPlainKeeper → OnPlainCpu → OnPlainKeeper → OnPlainCpu → ℕ → Option CEntry → Option CEntry → Option CEntry → Option CEntry → Type 0
ReplaceCalls name value k c k' c' n gone gone' made made' =
    Asks DRIVER (beside gone name) n (StayBoth k c k' c' × (gone' ≡ gone) × (made' ≡ made)) (λ key. ReplaceAnswers key.name value k c k' c' n gone gone' made made')

pub record ReplaceIfaceAnswers (driver name : Name) (value : ℕ) (k : OnPlainKeeper) (c : OnPlainCpu) (k' : OnPlainKeeper) (c' : OnPlainCpu) (n : ℕ) (gone gone' made made' : Option CEntry) : Type 0 where
  pub r : Result (Entry × Entry) Refusal
  pub number : n ≡ number_of r
  pub replaces : ReplacesByName k.words.settings k.keeper c.cpu driver name value k'.keeper c'.cpu r
  pub words : KeepsWords k c k' c'
  pub writes : PutsBoth r gone gone' made made'

abbrev pub ReplaceIfaceCalls : Option CName → Option CName → ℕ → OnPlainKeeper → OnPlainCpu → OnPlainKeeper → OnPlainCpu → ℕ → Option CEntry → Option CEntry → Option CEntry → Option CEntry → Type 0
ReplaceIfaceCalls driver name value k c k' c' n gone gone' made made' =
    AsksBoth (beside gone driver) name n (StayBoth k c k' c' × (gone' ≡ gone) × (made' ≡ made)) (λ v w. ReplaceIfaceAnswers v w value k c k' c' n gone gone' made made')

-- Detaching

-- the answer r of a detach
pub record Detaches (key : Key) (k : OnPlainKeeper) (c : OnPlainCpu) (k' : OnPlainKeeper) (c' : OnPlainCpu) (r : Result Entry Refusal) : Type 0 where
  pub answer : IsDetachAnswer k.keeper c.cpu key r
  pub ok : IfOk r (λ e. HasDetachedFor k.keeper c.cpu e k'.keeper c'.cpu)
  pub refused : IfErr r (λ _. StayBoth k c k' c')
  pub words : KeepsWords k c k' c'

pub record DetachAnswers (key : Key) (k : OnPlainKeeper) (c : OnPlainCpu) (k' : OnPlainKeeper) (c' : OnPlainCpu) (n : ℕ) (old new : Option CEntry) : Type 0 where
  pub r : Result Entry Refusal
  pub number : n ≡ number_of r
  pub detaches : Detaches key k c k' c' r
  pub writes : Puts entry_out r old new

abbrev pub DetachCalls : ℕ → Option CName → OnPlainKeeper → OnPlainCpu → OnPlainKeeper → OnPlainCpu → ℕ → Option CEntry → Option CEntry → Type 0
DetachCalls kind name k c k' c' n old new = Asks kind (beside old name) n (StayBoth k c k' c' × (new ≡ old)) (λ key. DetachAnswers key k c k' c' n old new)
