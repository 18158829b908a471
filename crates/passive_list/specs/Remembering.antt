-- A lookup by memory, and what an entry or the head recalled tells.
use Rattle.std.specs.Prelude.{◌≡◌, ◌==◌, ℕ, Bool, true, false, ◌++◌, length, Some, ◌≢◌, ◌⊎◌, suc, ◌<◌, List, Option, None, IfSome}
use mathlib.Core.List.{IsPrefix}
use Rattle.passive_list.specs.Types.{Entry, Key, Kind, Name, Recall, RecallHead, Refind, Word, Change, MOST_SLOTS}
use Rattle.registry_values.specs.Common.{key_of}
use Rattle.protocol.specs.Common.{IsLiveAt, IsLookup, IsNewestAt, entry_with, EndsAt, IsAttached, IsKept}
use Rattle.cpu_words.specs.Common.{HasWholePass, IsLiveNumber, did, key_with}
use Rattle.passive_list.specs.declared.lookup.Seen.{Seen}
use Rattle.passive_list.specs.Cpus.{OnCpu, OnPlainCpu}
use Rattle.passive_list.specs.Lookups.{HasFound, HasFoundFromOutside, entry_seen}
use Rattle.passive_list.specs.Memories.{Memory, KeepsOthers, Misses, Recalls, with_miss}

-- An entry that a CPU has seen is recalled, or found again; or the newest entry is recalled.

-- Only the pass and the log change, by one load of the slot's live word. The pass is the whole history then, and the entry whose number the word is is live there.
pub record HasRecalledOn (t n : ℕ) (a b : OnCpu) (answer : Bool) : Type 0 where
  pub pass : IsPrefix a.view.pass b.view.pass
  pub is : b ≡ record a { view = record a.view { pass = b.view.pass }; log = b.log }
  pub whole : HasWholePass b.view
  pub word : ℕ
  pub log : b.log ≡ a.log ++ did (Recall a.view.id t) (Word word)
  pub found : answer ≡ (word == n)
  pub live : IsLiveNumber b.view.pass t word

-- Only the pass and the log change, by one load of the head. The pass is the whole history then, and w leads to the newest entry that is live there.
pub record HasRecalledHeadOn (a b : OnCpu) (w : ℕ) : Type 0 where
  pub pass : IsPrefix a.view.pass b.view.pass
  pub is : b ≡ record a { view = record a.view { pass = b.view.pass }; log = b.log }
  pub whole : HasWholePass b.view
  pub log : b.log ≡ a.log ++ did (RecallHead a.view.id) (Word w)
  pub newest : IsNewestAt b.view.pass w

-- Only the pass, the last found entry and the log change, by one load of e's live word. The pass is the whole history then. The entry e is the last found one, and what the registry answers for the
-- key at the pass's end: at this load.
pub record HasRefoundAs (key : Key) (a b : OnCpu) (e : Entry) : Type 0 where
  pub pass : IsPrefix a.view.pass b.view.pass
  pub is : b ≡ record a { view = record a.view { pass = b.view.pass; found = Some e }; log = b.log }
  pub whole : HasWholePass b.view
  pub answered : IsLookup b.view.pass (length b.view.pass) key (Some e)
  pub log : b.log ≡ a.log ++ did (Refind a.view.id e.slot e.number) (Word e.number)

-- what was seen is found again, or the load is a recall
abbrev pub HasRefoundOn : Key → Seen → OnCpu → OnCpu → Bool → Type 0
HasRefoundOn key s a b true = HasRefoundAs key a b (entry_with key s.slot s.number s.value)
HasRefoundOn key s a b false = HasRecalledOn s.slot s.number a b false

-- A lookup by memory: what the CPU remembers of the key decides whether its live word is loaded, and what it finds in a section it remembers.

-- s is of an entry of the CPU's pass, with the key
pub record HasSeen (o : OnPlainCpu) (key : Key) (s : Seen) : Type 0 where
  pub few : s.slot < MOST_SLOTS
  pub slots : s.slot < o.words.settings.slots
  pub attached : IsAttached o.cpu.view.pass (entry_with key s.slot s.number s.value)

-- what the CPU remembers of a kind and a name: nothing, or an entry that it has seen
abbrev pub RemembersSo : OnPlainCpu → Name → Kind → Option Seen → Type 0
RemembersSo o name kind found = Recalls o.cpu.memory (key_with kind name) found × IfSome found (λ s. HasSeen o (key_with kind name) s)

-- One load of the slot's live word, and nothing else, and the pass is the whole history. The entry e is what the registry answers for the key at its end: at this load.
pub record HasRecalledAs (key : Key) (a b : OnCpu) (e : Entry) : Type 0 where
  pub pass : IsPrefix a.view.pass b.view.pass
  pub is : b ≡ record a { view = record a.view { pass = b.view.pass }; log = b.log }
  pub whole : HasWholePass b.view
  pub answered : IsLookup b.view.pass (length b.view.pass) key (Some e)
  pub log : b.log ≡ a.log ++ did (Recall a.view.id e.slot) (Word e.number)

-- one load of the live word of the slot of s, which isn't the number of s, and the pass has grown
pub record HasRecalledInVain (s : Seen) (a b : OnCpu) : Type 0 where
  pub pass : IsPrefix a.view.pass b.view.pass
  pub is : b ≡ record a { view = record a.view { pass = b.view.pass }; log = b.log }
  pub word : ℕ
  pub other : word ≢ s.number
  pub log : b.log ≡ a.log ++ did (Recall a.view.id s.slot) (Word word)

abbrev pub RecallsSeen : Key → Seen → OnCpu → OnCpu → Bool → Type 0
RecallsSeen key s a b true = HasRecalledAs key a b (entry_with key s.slot s.number s.value)
RecallsSeen key s a b false = HasRecalledInVain s a b

-- what is remembered of the key is the answer; of keys with other hints and slots it is as before
abbrev pub RemembersAnswer : Key → Memory → Memory → Option Seen → Type 0
RemembersAnswer key m n None = Recalls n key None × KeepsOthers key None m n
RemembersAnswer key m n (Some s) = Recalls n key (Some s) × KeepsOthers key (Some s.slot) m n

-- it finds the answer as `Finds` says, and remembers it
pub record FindsAndRemembers (Finds : OnCpu → Option Entry → Type 0) (key : Key) (a b : OnCpu) (answer : Option Seen) : Type 0 where
  pub left : OnCpu
  pub finds : Finds left (entry_seen key answer)
  pub is : b ≡ record left { memory = b.memory }
  pub remembers : RemembersAnswer key a.memory b.memory answer

-- In a section of its own, before which the newest live entry was n, or n is 0. A miss is remembered, if n isn't 0: it is a miss while the entry n is the newest one.
pub record HasFoundInSection (key : Key) (n : ℕ) (a b : OnCpu) (answer : Option Seen) : Type 0 where
  pub finds : FindsAndRemembers (HasFoundFromOutside key a) key a b answer
  pub missed : ((answer ≡ None) × (n ≢ 0) × (b.memory.missed ≡ (with_miss a.memory key n).missed)) ⊎ ((answer ≡ None → n ≡ 0) × (b.memory.missed ≡ a.memory.missed))

-- no entry with the key is live at the end of c's pass, which is the whole history: at the load of the head
pub record IsAbsentAt (key : Key) (c : OnCpu) (answer : Option Seen) : Type 0 where
  pub none : answer ≡ None
  pub whole : HasWholePass c.view
  pub answered : IsLookup c.view.pass (length c.view.pass) key None

-- The live word of the slot to which the head led is n: d is the CPU then, and c was the CPU after the head's load. A miss that is remembered is the answer.
abbrev pub FindsAfterWord : Key → ℕ → OnCpu → OnCpu → OnCpu → Option Seen → Type 0
FindsAfterWord key n c d b answer = (Misses c.memory key n × IsAbsentAt key c answer × (b ≡ d)) ⊎ ((Misses c.memory key n → ⊥) × HasFoundInSection key n d b answer)

-- the head is w, and c is the CPU after its load
abbrev pub FindsAfterHead : ℕ → Key → OnCpu → OnCpu → Option Seen → Type 0
FindsAfterHead w key c b answer = ((w ≡ 0) × IsAbsentAt key c answer × (b ≡ c)) ⊎ ((t : ℕ) × (n : ℕ) × (d : OnCpu) × (w ≡ suc t) × HasRecalledOn t n c d true × FindsAfterWord key n c d b answer)

-- By a load of the head, if no entry is live. By that and a load of the newest live entry's word, if the CPU remembers a miss of the key by that entry. Else in a section of its own.
pub record HasFoundAnew (key : Key) (a b : OnCpu) (answer : Option Seen) : Type 0 where
  pub head : ℕ
  pub at_head : OnCpu
  pub heads : HasRecalledHeadOn a at_head head
  pub finds : FindsAfterHead head key at_head b answer

-- in the open section
abbrev pub HasFoundKept : Key → OnCpu → OnCpu → Option Seen → Type 0
HasFoundKept key a b answer = FindsAndRemembers (HasFound key a) key a b answer

abbrev pub RefindsSeen : Key → Seen → OnCpu → OnCpu → Bool → Type 0
RefindsSeen key s a b true = HasRefoundAs key a b (entry_with key s.slot s.number s.value)
RefindsSeen key s a b false = HasRecalledInVain s a b

-- what a lookup does there by what the CPU remembers of the key: nothing, or s
abbrev pub FindsInsideBy : Option Seen → Key → OnCpu → OnCpu → Option Seen → Type 0
FindsInsideBy None key a b answer = HasFoundKept key a b answer
FindsInsideBy (Some s) key a b answer = ((answer ≡ Some s) × HasRefoundAs key a b (entry_with key s.slot s.number s.value)) ⊎ ((c : OnCpu) × HasRecalledInVain s a c × HasFoundKept key c b answer)

abbrev pub FindsInside : Key → OnCpu → OnCpu → Option Seen → Type 0
FindsInside key a b answer = (kept : Option Seen) × Recalls a.memory key kept × FindsInsideBy kept key a b answer

-- what a load of what the CPU remembers of the key tells: nothing, or s
abbrev pub RecallsBy : Option Seen → Key → OnCpu → OnCpu → Option Seen → Type 0
RecallsBy None key a b answer = (answer ≡ None) × (b ≡ a)
RecallsBy (Some s) key a b answer = ((answer ≡ Some s) × HasRecalledAs key a b (entry_with key s.slot s.number s.value)) ⊎ ((answer ≡ None) × HasRecalledInVain s a b)

-- By one load, if the CPU remembers an entry with the key: that entry, if its slot's live word is its number.
abbrev pub HasRecalledByMemory : Key → OnCpu → OnCpu → Option Seen → Type 0
HasRecalledByMemory key a b answer = (kept : Option Seen) × Recalls a.memory key kept × RecallsBy kept key a b answer

-- the same in the open section, where the entry is the last found one then
abbrev pub Refinds : Key → OnCpu → OnCpu → Option Seen → Type 0
Refinds key a b None = HasRecalledByMemory key a b None
Refinds key a b (Some s) = FindsInside key a b (Some s)

-- what a lookup does by what the CPU remembers of the key: nothing, or s
abbrev pub FindsBy : Option Seen → Key → OnCpu → OnCpu → Option Seen → Type 0
FindsBy None key a b answer = HasFoundAnew key a b answer
FindsBy (Some s) key a b answer = ((answer ≡ Some s) × HasRecalledAs key a b (entry_with key s.slot s.number s.value)) ⊎ ((c : OnCpu) × HasRecalledInVain s a c × HasFoundAnew key c b answer)

-- By one load, if the CPU remembers an entry with the key and its slot's live word is its number. Else anew.
abbrev pub HasFoundByMemory : Key → OnCpu → OnCpu → Option Seen → Type 0
HasFoundByMemory key a b answer = (kept : Option Seen) × Recalls a.memory key kept × FindsBy kept key a b answer

-- An entry with the key that was attached in h, and isn't detached in g, is the answer.
abbrev pub FindsWhatStays : Key → List Change → List Change → Option Entry → Type 0
FindsWhatStays key h g answer = (e : Entry) → IsAttached h e → key_of e ≡ key → ((p : ℕ) → EndsAt g e.number p → ⊥) → answer ≡ Some e

-- An entry has the key at the end of h, and no detach in g since is of it: the answer is an entry. A replacement is no detach.
abbrev pub FindsWhatIsKept : Key → List Change → List Change → Option Entry → Type 0
FindsWhatIsKept key h g answer = (e : Entry) → IsLiveAt h (length h) e → key_of e ≡ key → IsKept g (length h) (length g) key → answer ≡ None → ⊥
