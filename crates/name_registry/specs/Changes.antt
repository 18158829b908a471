-- Attaching and detaching behind the interlock: which entry, why a call is refused, what is left, and what changes weigh in the ledger.
use Rattle.std.specs.Prelude.{◌≡◌, ℕ, ◌+◌, ◌*◌, ◌≤◌, List, [], ◌∷◌, sum_by, ◌++◌, length, Option, Some, None, Result, Ok, Err, if◌then◌else◌, Bool, true, false, suc}
use mathlib.Core.List.{IsPrefix}
use Rattle.name_registry.specs.Types.{Change, Attach, Detach, Replace, MOST_CHANGES, Room, Entry, Keep, Tell, Done, LogItem, Record, Refusal, NoSlot, HistoryFull, Settings, ReferenceView, Inside, NeedsDriver, NotFound, Key, Live}
use Rattle.registry_values.specs.Common.{key_of_record, is_iface, is_taken, live_count, slot_at}
use Rattle.registry_values.specs.Answers as answers
use Rattle.protocol.specs.Common.{IsLookup}
use Rattle.cpu_words.specs.Common.{IsAttachedKeeping, did}
use Rattle.passive_list.specs.Common.{OnCpu, OnKeeper, HasHeardOn, HasAttached, LogsAttach, HasDetached, LogsDetach, HasReplacedIn, LogsReplace}
use Rattle.local_count.specs.Draining.{HasAttachedKeeping, HasReplacedKeeping}
use Rattle.name_registry.specs.Locking.{MayAttach, is_inside, keeper_after_hear, HasSeenAttach, HasSeenDetach, HasSeenReplace}

-- What changes weigh in the ledger: a sum that a CPU carries out of the lock, and that is one change's only where it is of that change alone.

-- more than three times the greatest number of an entry, so that two changes weigh more than any one
abbrev pub unit : ℕ
unit = 3 * MOST_CHANGES + 3

-- by the number of the entry that comes, or else of the one that ends; what is left beside multiples of 3 says which sort of change it is
abbrev pub weight : Change → ℕ
weight (Attach e) = unit + e.number + e.number + e.number
weight (Detach n) = unit + n + n + n + 1
weight (Replace n r e) = unit + e.number + e.number + e.number + 2

-- of many changes, one after the other
abbrev pub weigh : List Change → ℕ
weigh h = sum_by weight h

abbrev pub number_of : Change → ℕ
number_of (Attach e) = e.number
number_of (Detach n) = n
number_of (Replace n r e) = e.number

-- the CPU's calls have made this change more, and no other
pub record HasMade (x : OnCpu) (c : Change) (y : OnCpu) : Type 0 where
  pub number : number_of c ≤ MOST_CHANGES
  pub made : y.made ≡ x.made + weight c

-- that change is a replacement of f by e: what it weighs is the same for each rank
abbrev pub HasMadeReplace : OnCpu → Entry → Entry → OnCpu → Type 0
HasMadeReplace x f e y = (rank : ℕ) → HasMade x (Replace f.number rank e) y

-- The law of the weights

-- both are attaches, both detaches or both replacements, of one number
abbrev pub AreAlike : Change → Change → Type 0
AreAlike (Attach e) (Attach f) = e.number ≡ f.number
AreAlike (Detach n) (Detach m) = n ≡ m
AreAlike (Replace n r e) (Replace m s f) = e.number ≡ f.number
AreAlike c d = ⊥

-- Where a CPU's calls have made one change more, as `HasMade` says, and these changes together, they are one change, and like it; and changes that weigh nothing are none.
pub record WeightsTell : Type 0 where
  pub one : (x y : OnCpu) (c : Change) (h : List Change) → HasMade x c y → y.made ≡ x.made + weigh h → (d : Change) × (h ≡ d ∷ []) × AreAlike d c
  pub none : (h : List Change) → weigh h ≡ 0 → h ≡ []

-- Attaching behind the interlock: which entry is given, why a call is refused, and what is left.

abbrev pub first_fit : OnKeeper → Option ℕ
first_fit k = answers.first_fit k.slots k.view.keeps

-- what an attach asks of the history
abbrev pub room_of : Settings → OnKeeper → Room
room_of a k = record { changes = length k.view.history; live = live_count k.slots; limit = a.change_limit }

-- the entry that an attach of the record makes
abbrev pub given_entry : Settings → OnKeeper → Record → Result Entry Refusal
given_entry a k rec = answers.given_entry (is_taken (key_of_record rec) k.slots) (first_fit k) (room_of a k) rec

-- the slot that a new entry gets, or why it gets none
abbrev pub fit_slot : Option ℕ → Room → Result ℕ Refusal
fit_slot None room = Err NoSlot
fit_slot (Some t) room = if answers.has_room room then Ok t else Err HistoryFull

abbrev pub slot_answer : Settings → OnKeeper → Result ℕ Refusal
slot_answer a k = fit_slot (first_fit k) (room_of a k)

abbrev pub fit_answer : Result ℕ Refusal → Result (Unit {0}) Refusal
fit_answer (Ok t) = Ok tt
fit_answer (Err refusal) = Err refusal

-- whether an attach has room, if its kind and name aren't taken
abbrev pub room_answer : Settings → OnKeeper → Result (Unit {0}) Refusal
room_answer a k = fit_answer (slot_answer a k)

-- The results of the two calls: the record of an interface is unfit for the one, a reference to an interface for the other.

abbrev pub attach_answer : Settings → OnKeeper → OnCpu → Record → Result Entry Refusal
attach_answer a k x rec = answers.attach_answer (is_inside x) (is_iface rec.kind) (given_entry a k rec)

abbrev pub attach_iface_answer : Settings → OnKeeper → OnCpu → Record → ReferenceView → Result Entry Refusal
attach_iface_answer a k x rec v = answers.attach_answer (is_inside x) (is_iface v.entry.rec.kind) (given_entry a k rec)

-- What they leave: the keeper has heard the CPU's pass, e is published, and the CPU has heard the history with it.

-- the keeper's log goes on from `old` by the events of the attach, and a Tell
abbrev pub LogsAttachFor : OnKeeper → Entry → List LogItem → OnKeeper → Type 0
LogsAttachFor a e old b = (end : List LogItem) × LogsAttach a.view e old end × (b.log ≡ end ++ did (Tell None) Done)

pub record HasAttachedFor (a : OnKeeper) (x : OnCpu) (e : Entry) (b : OnKeeper) (y : OnCpu) : Type 0 where
  pub seen : IsPrefix x.view.pass a.view.history
  pub keeper : HasAttached (keeper_after_hear a x) e b
  pub log : LogsAttachFor a e (keeper_after_hear a x).log b
  pub cpu : HasHeardOn b.view.history x y
  pub own : HasSeenAttach x y e

pub record HasAttachedIfaceFor (a : OnKeeper) (x : OnCpu) (v : ReferenceView) (e : Entry) (b : OnKeeper) (y : OnCpu) : Type 0 where
  pub seen : IsPrefix x.view.pass a.view.history
  pub keeper : HasAttachedKeeping (keeper_after_hear a x) v e b
  pub log : LogsAttachFor a e ((keeper_after_hear a x).log ++ did (Keep e.slot v.entry.number) Done) b
  -- of the driver, by what the CPU knows
  pub keeping : IsAttachedKeeping e.slot e.number v.entry.number y.known_log
  pub cpu : HasHeardOn b.view.history x y
  pub own : HasSeenAttach x y e

-- Detaching behind the interlock: the entry that a lookup of the history gives now is retired.

-- the result of a lookup now
abbrev pub IsLookupNow : OnKeeper → Key → Option Entry → Type 0
IsLookupNow k key answer = IsLookup k.view.history (length k.view.history) key answer

-- the slot of the entry that it gives, where it gives one
abbrev pub IsLivePlace : OnKeeper → Key → Option ℕ → Type 0
IsLivePlace k key None = IsLookupNow k key None
IsLivePlace k key (Some t) = (e : Entry) × (slot_at k.slots t ≡ Live e) × (e.slot ≡ t) × IsLookupNow k key (Some e)

abbrev pub IsDetachRefusal : OnKeeper → OnCpu → Key → Refusal → Type 0
IsDetachRefusal k x key Inside = is_inside x ≡ true
IsDetachRefusal k x key NotFound = (is_inside x ≡ false) × IsLookupNow k key None
IsDetachRefusal k x key _ = ⊥

-- The entry that a lookup of the key gives now. Refused inside a section, and where there is none, in this order.
abbrev pub IsDetachAnswer : OnKeeper → OnCpu → Key → Result Entry Refusal → Type 0
IsDetachAnswer k x key (Ok e) = (is_inside x ≡ false) × IsLookupNow k key (Some e) × (slot_at k.slots e.slot ≡ Live e)
IsDetachAnswer k x key (Err refusal) = IsDetachRefusal k x key refusal

-- the keeper has heard the CPU's pass, e is retired, and the CPU has heard the history with its detach
pub record HasDetachedFor (a : OnKeeper) (x : OnCpu) (e : Entry) (b : OnKeeper) (y : OnCpu) : Type 0 where
  pub seen : IsPrefix x.view.pass a.view.history
  pub keeper : HasDetached (keeper_after_hear a x) e.slot e b
  -- the keeper's log goes on by the events of the detach, and a Tell
  pub log : (end : List LogItem) × LogsDetach a.view.settings.cpus e.slot (keeper_after_hear a x).log end × (b.log ≡ end ++ did (Tell None) Done)
  pub cpu : HasHeardOn b.view.history x y
  pub own : HasSeenDetach x y e

-- Replacing behind the interlock: the entry that a lookup of the history gives now makes place for another in the first-fit slot.

-- the slots of the old entry and of the new one
abbrev pub replace_answer : Bool → Bool → Option ℕ → Result ℕ Refusal → Result (ℕ × ℕ) Refusal
replace_answer true unfit old slot = Err Inside
replace_answer false true old slot = Err NeedsDriver
replace_answer false false None slot = Err NotFound
replace_answer false false (Some u) (Err refusal) = Err refusal
replace_answer false false (Some u) (Ok t) = Ok (u, t)

abbrev pub IsFoundNow : OnKeeper → Key → Type 0
IsFoundNow k key = (e : Entry) × IsLookupNow k key (Some e)

-- In this order. With `unfit` the reference is to an interface.
abbrev pub IsReplaceRefusalOf : Settings → OnKeeper → OnCpu → Bool → Key → Refusal → Type 0
IsReplaceRefusalOf z k x unfit key Inside = is_inside x ≡ true
IsReplaceRefusalOf z k x unfit key NeedsDriver = (is_inside x ≡ false) × (unfit ≡ true)
IsReplaceRefusalOf z k x unfit key NotFound = MayAttach (is_inside x) unfit × IsLookupNow k key None
IsReplaceRefusalOf z k x unfit key NoSlot = MayAttach (is_inside x) unfit × IsFoundNow k key × (slot_answer z k ≡ Err NoSlot)
IsReplaceRefusalOf z k x unfit key HistoryFull = MayAttach (is_inside x) unfit × IsFoundNow k key × (slot_answer z k ≡ Err HistoryFull)
IsReplaceRefusalOf z k x unfit key _ = ⊥

-- the entry that a lookup of the key gives now, and the one with the next number, in the first-fit slot, with the value in place of its own
abbrev pub IsReplaceAnswer : Settings → OnKeeper → OnCpu → Bool → Key → ℕ → Result (Entry × Entry) Refusal → Type 0
IsReplaceAnswer z k x unfit key value (Ok p) = MayAttach (is_inside x) unfit × IsLookupNow k key (Some p.0) × (slot_at k.slots p.0.slot ≡ Live p.0) × (slot_answer z k ≡ Ok p.1.slot)
    × (p.1 ≡ record { number = suc (length k.view.history); slot = p.1.slot; rec = record p.0.rec { value = value } })
IsReplaceAnswer z k x unfit key value (Err refusal) = IsReplaceRefusalOf z k x unfit key refusal

-- what a caller keeps of that, who has no keeper: the old entry has the kind and the name, the new one its record, with the value
abbrev pub AreReplaced : Key → ℕ → Entry × Entry → Type 0
AreReplaced key value p = (p.0.rec.kind ≡ key.kind) × (p.0.rec.name ≡ key.name) × (p.1.rec ≡ record p.0.rec { value = value })

-- the keeper's log goes on from `old` by the events of the replacement, and a Tell
abbrev pub LogsReplaceFor : OnKeeper → Entry → Entry → List LogItem → OnKeeper → Type 0
LogsReplaceFor a f e old b = (end : List LogItem) × LogsReplace a.view f.slot e old end × (b.log ≡ end ++ did (Tell None) Done)

-- the keeper has heard the CPU's pass, e is in the place of f, and the CPU has heard the history with this change
pub record HasReplacedFor (a : OnKeeper) (x : OnCpu) (f e : Entry) (b : OnKeeper) (y : OnCpu) : Type 0 where
  pub seen : IsPrefix x.view.pass a.view.history
  pub keeper : HasReplacedIn (keeper_after_hear a x) f.slot f e b
  pub log : LogsReplaceFor a f e (keeper_after_hear a x).log b
  pub cpu : HasHeardOn b.view.history x y
  pub own : HasSeenReplace x y f e

pub record HasReplacedIfaceFor (a : OnKeeper) (x : OnCpu) (v : ReferenceView) (f e : Entry) (b : OnKeeper) (y : OnCpu) : Type 0 where
  pub seen : IsPrefix x.view.pass a.view.history
  pub keeper : HasReplacedKeeping (keeper_after_hear a x) v f.slot f e b
  pub log : LogsReplaceFor a f e ((keeper_after_hear a x).log ++ did (Keep e.slot v.entry.number) Done) b
  -- of the driver, by what the CPU knows
  pub keeping : IsAttachedKeeping e.slot e.number v.entry.number y.known_log
  pub cpu : HasHeardOn b.view.history x y
  pub own : HasSeenReplace x y f e
