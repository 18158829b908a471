-- What the keeper's log says, and each prefix of it that a seat has heard. Since a log only grows, what follows from such a prefix stays so.
use Rattle.std.specs.Prelude.{◌≡◌, ◌⊎◌, ℕ, zero, suc, ◌+◌, ◌*◌, ◌==◌, ◌&&◌, ◌||◌, ◌%◌, ◌<◌, ◌≤◌, Bool, true, false, if◌then◌else◌, List, [], ◌∷◌, ◌++◌, length, Option, Some, None}
use mathlib.Core.List.{IsPrefix}
use Rattle.cpu_words.specs.Types.{Event, Hear, Publish, Unpublish, Republish, Snapshot, Look, PassiveLook, Collect, JoinKeeper, Keep, KeptSub, Vacate, Reply, Done, Word, MOST_CPUS, Change, Entry, Mark, Slot, Vacant, Live, Retired}
use Rattle.registry_values.specs.Common.{bias, is_retired, slot_at}
use Rattle.protocol.specs.Common.{addition_due_at, is_adding_at, subtraction_due_at, State, count_at, kept_at, mark_at, total_at, HasMoved, IsPublishing, destroyed_slot}
use Rattle.cpu_words.specs.declared.view.KeeperView.{KeeperView}
use Rattle.cpu_words.specs.declared.view.View.{View}
use Rattle.cpu_words.specs.declared.view.View.TheVariants.{Keeper}
use Rattle.cpu_words.specs.declared.view.LogItem.{LogItem}
use Rattle.cpu_words.specs.declared.view.Teller.{Teller}
use Rattle.cpu_words.specs.Seats.{keeper_with_note}
use Rattle.cpu_words.specs.Rule.{Good, log_item}
use Rattle.cpu_words.specs.Views.{Shown}

-- what was known before, and what a note knew, are prefixes of what is known now
abbrev pub KnownLogGrows : List LogItem → List LogItem → List LogItem → Type 0
KnownLogGrows old note new = IsPrefix old new × IsPrefix note new

-- The keeper, or the CPU by, heard a note, and its log says whose: a CPU's, or where h is none the keeper's

abbrev pub has_heard_from : Option ℕ → Option Teller → LogItem
has_heard_from by h = record { event = Hear by; reply = Done; teller = h }

abbrev pub heard_from : Option ℕ → Option Teller → List LogItem
heard_from by h = has_heard_from by h ∷ []

pub record HasHeardFrom (by : Option ℕ) (h : Teller) (log : List LogItem) : Type 0 where
  pub before : List LogItem
  pub after : List LogItem
  pub are : log ≡ before ++ has_heard_from by (Some h) ∷ after

-- an attach or a detach
abbrev pub changes_of : Event → ℕ → ℕ
changes_of (Publish t) n = suc n
changes_of (Unpublish t) n = suc n
changes_of (Republish t u) n = suc n
changes_of e n = n

-- how many changes were made: each Publish is an attach, each Unpublish a detach
abbrev pub changes_in : List LogItem → ℕ
changes_in [] = 0
changes_in (d ∷ ds) = changes_of d.event (changes_in ds)

-- the keeper took the section word of the CPU c, for no entry, or looked at it: this was the word

abbrev pub has_taken : ℕ → ℕ → LogItem
has_taken c w = log_item (Snapshot None c) (Word w)

abbrev pub has_found : ℕ → ℕ → LogItem
has_found c w = log_item (Look None c) (Word w)

-- in this order the CPU's section word was taken, and found even or another one
pub record IsSeenOut (c : ℕ) (log : List LogItem) : Type 0 where
  pub old : ℕ
  pub new : ℕ
  pub before : List LogItem
  pub between : List LogItem
  pub after : List LogItem
  pub are : log ≡ before ++ has_taken c old ∷ (between ++ has_found c new ∷ after)
  pub moved : HasMoved old new

-- so it was of each of the first CPUs
abbrev pub HasWaited : List LogItem → ℕ → Type 0
HasWaited log cpus = (c : ℕ) → c < cpus → IsSeenOut c log

-- the same for the entry that is retired in the slot t

abbrev pub has_snapped : ℕ → ℕ → ℕ → LogItem
has_snapped t c w = log_item (Snapshot (Some t) c) (Word w)

abbrev pub has_looked : ℕ → ℕ → ℕ → LogItem
has_looked t c w = log_item (Look (Some t) c) (Word w)

-- the passive word of c was loaded for it, and it was w
abbrev pub has_looked_passive : ℕ → ℕ → ℕ → LogItem
has_looked_passive t c w = log_item (PassiveLook t c) (Word w)

abbrev pub is_detach_from : ℕ → Event → Bool
is_detach_from t (Unpublish u) = u == t
is_detach_from t (Republish v u) = u == t
is_detach_from t e = false

-- none of these is the detach of an entry from the slot t
abbrev pub KeepsEntry : ℕ → List LogItem → Type 0
KeepsEntry t [] = Unit {0}
KeepsEntry t (d ∷ ds) = (is_detach_from t d.event ≡ false) × KeepsEntry t ds

-- for the entry that was detached from the slot t last the word of c was taken, and it was w
pub record IsSnapped (t c w : ℕ) (log : List LogItem) : Type 0 where
  pub before : List LogItem
  pub after : List LogItem
  pub are : log ≡ before ++ has_snapped t c w ∷ after
  pub since : KeepsEntry t after

-- c has passed for that entry: its word was found even, or differs from the one that was taken for it
pub record HasPassedOn (t c : ℕ) (log : List LogItem) : Type 0 where
  pub new : ℕ
  pub before : List LogItem
  pub after : List LogItem
  pub are : log ≡ before ++ has_looked t c new ∷ after
  pub since : KeepsEntry t after
  pub out : (new % 2 ≡ 0) ⊎ ((old : ℕ) × IsSnapped t c old before × (new ≡ old → ⊥))

-- what the marks have of snapshots and passes is in the log; and each snapshot for an entry that is in the log is in its mark, so there is but one
pub record AreMarksOf (log : List LogItem) (marks : List (List Mark)) : Type 0 where
  pub snapped : (t c w : ℕ) → (mark_at marks t c).snapshot ≡ Some w → IsSnapped t c w log
  pub marked : (t c w : ℕ) → IsSnapped t c w log → (mark_at marks t c).snapshot ≡ Some w
  pub passed : (t c : ℕ) → (mark_at marks t c).passed ≡ true → HasPassedOn t c log

-- What a slot has by a log: no entry was attached there yet, or the number of the one that was attached last, and whether it was detached since. It has that number until the next attach there, though
-- the slot may be vacant.

pub data Standing : Type 0 where
  nothing : Standing
  attached : ℕ → Standing
  detached : ℕ → Standing

abbrev pub number_of : Standing → ℕ
number_of nothing = 0
number_of (attached n) = n
number_of (detached n) = n

-- an attach gives the number that is 1 more than all changes before
abbrev pub stands_after : ℕ → ℕ → Event → Standing → Standing
stands_after t changes (Publish u) x = if u == t then attached (suc changes) else x
stands_after t changes (Unpublish u) x = if u == t then detached (number_of x) else x
stands_after t changes (Republish v u) x = if v == t then attached (suc changes) else if u == t then detached (number_of x) else x
stands_after t changes e x = x

abbrev pub stands_from : ℕ → ℕ → Standing → List LogItem → Standing
stands_from t changes x [] = x
stands_from t changes x (d ∷ ds) = stands_from t (changes_of d.event changes) (stands_after t changes d.event x) ds

-- what the slot t has by the log
abbrev pub standing : ℕ → List LogItem → Standing
standing t log = stands_from t 0 nothing log

-- the entry n was attached in the slot t, and detached; nothing was attached there since
abbrev pub IsDetachedFrom : ℕ → ℕ → List LogItem → Type 0
IsDetachedFrom t n log = standing t log ≡ detached n

-- the entry n was attached in the slot t, and detached, and then the slot became vacant: by Vacate, or by KeptSub where it kept a driver
pub record IsFreedFrom (t n : ℕ) (log : List LogItem) : Type 0 where
  pub before : List LogItem
  pub item : LogItem
  pub after : List LogItem
  pub are : log ≡ before ++ item ∷ after
  pub detached : IsDetachedFrom t n before
  pub freed : destroyed_slot item.event ≡ Some t

-- The driver that a slot keeps a reference to, by a log: what Keep took over there last, unless KeptSub gave it up since

abbrev pub keeps_next : ℕ → Event → Option ℕ → Option ℕ
keeps_next t (Keep u n) x = if u == t then Some n else x
keeps_next t (KeptSub u) x = if u == t then None else x
keeps_next t e x = x

abbrev pub keeping_from : ℕ → Option ℕ → List LogItem → Option ℕ
keeping_from t x [] = x
keeping_from t x (d ∷ ds) = keeping_from t (keeps_next t d.event x) ds

abbrev pub keeping : ℕ → List LogItem → Option ℕ
keeping t log = keeping_from t None log

abbrev pub names : Option ℕ → ℕ → Bool
names None n = false
names (Some m) n = m == n

-- the entry n was attached in the slot t, at the head or in another's place, as that kept a reference to the driver d
pub record IsAttachedKeeping (t n d : ℕ) (log : List LogItem) : Type 0 where
  pub before : List LogItem
  pub after : List LogItem
  pub event : Event
  pub publishing : IsPublishing t event
  pub are : log ≡ before ++ log_item event Done ∷ after
  pub number : n ≡ suc (changes_in before)
  pub keeps : keeping t before ≡ Some d

abbrev pub is_change_at : ℕ → Event → Bool
is_change_at t (Publish u) = u == t
is_change_at t (Unpublish u) = u == t
is_change_at t (Republish v u) = v == t || u == t
is_change_at t e = false

-- none of these is an attach in the slot t, or a detach from it
abbrev pub KeepsSlot : ℕ → List LogItem → Type 0
KeepsSlot t [] = Unit {0}
KeepsSlot t (d ∷ ds) = (is_change_at t d.event ≡ false) × KeepsSlot t ds

-- what the slots have is in the log; where a slot is vacant all CPUs have passed for the entry that it had last
pub record AreSlotsOf (cpus : ℕ) (log : List LogItem) (slots : List Slot) : Type 0 where
  pub live : (t : ℕ) (e : Entry) → slot_at slots t ≡ Live e → standing t log ≡ attached e.number
  pub retired : (t : ℕ) (e : Entry) → slot_at slots t ≡ Retired e → IsDetachedFrom t e.number log
  pub vacant : (t n c : ℕ) → slot_at slots t ≡ Vacant → IsDetachedFrom t n log → c < cpus → HasPassedOn t c log

-- the item loaded the section word of the CPU c, for a slot or for none, and found w
abbrev pub FindsWord : ℕ → ℕ → LogItem → Type 0
FindsWord c w d = (to : Option ℕ) × ((d ≡ log_item (Snapshot to c) (Word w)) ⊎ (d ≡ log_item (Look to c) (Word w)))

-- of two loads of one CPU's section word the later found no smaller one
abbrev pub WordsGrow : List LogItem → Type 0
WordsGrow log = (c v w : ℕ) (d e : LogItem) (before between after : List LogItem) → log ≡ before ++ d ∷ (between ++ e ∷ after) → FindsWord c v d → FindsWord c w e → v ≤ w

-- What counts by a log: the entry that has the slot t, and the count word of the CPU c that was collected for it. Nothing of it is left once the slot is vacant.

-- the number of the slot's entry, live or retired

abbrev pub occupant_after : ℕ → ℕ → Event → Option ℕ → Option ℕ
occupant_after t changes (Publish u) x = if u == t then Some (suc changes) else x
occupant_after t changes (Republish v u) x = if v == t then Some (suc changes) else x
occupant_after t changes (KeptSub u) x = if u == t then None else x
occupant_after t changes (Vacate u) x = if u == t then None else x
occupant_after t changes e x = x

abbrev pub occupant_from : ℕ → ℕ → Option ℕ → List LogItem → Option ℕ
occupant_from t changes x [] = x
occupant_from t changes x (d ∷ ds) = occupant_from t (changes_of d.event changes) (occupant_after t changes d.event x) ds

abbrev pub occupant : ℕ → List LogItem → Option ℕ
occupant t log = occupant_from t 0 None log

-- the word that was collected, as the swap found it

abbrev pub replied : Reply → Option ℕ
replied (Word w) = Some w
replied r = None

abbrev pub word_after : ℕ → ℕ → Event → Reply → Option ℕ → Option ℕ
word_after t c (Collect u d) r x = if u == t && d == c then replied r else x
word_after t c (KeptSub u) r x = if u == t then None else x
word_after t c (Vacate u) r x = if u == t then None else x
word_after t c e r x = x

abbrev pub word_from : ℕ → ℕ → Option ℕ → List LogItem → Option ℕ
word_from t c x [] = x
word_from t c x (d ∷ ds) = word_from t c (word_after t c d.event d.reply x) ds

abbrev pub word_collected : ℕ → ℕ → List LogItem → Option ℕ
word_collected t c log = word_from t c None log

-- the same of a state

abbrev pub occupant_of : Slot → Option ℕ
occupant_of Vacant = None
occupant_of (Live e) = Some e.number
occupant_of (Retired e) = Some e.number

-- the net count of c, where its word was collected for the entry of the slot t: from then on it stays
abbrev pub word_if : Bool → ℕ → Option ℕ
word_if b w = if b then Some w else None

abbrev pub is_drawn : State → ℕ → ℕ → Bool
is_drawn s t c = is_retired (slot_at s.slots t) && (mark_at s.marks t c).collected

abbrev pub word_in : State → ℕ → ℕ → Option ℕ
word_in s t c = word_if (is_drawn s t c) (count_at s.nets c t)

-- References that the keeper gave up by a log: those that it took in, and those to a driver that a slot kept until KeptSub

-- by this event, after the log: so many to the entry n
abbrev pub given_by : List LogItem → ℕ → Event → ℕ
given_by before n (JoinKeeper m) = if m == n then 1 else 0
given_by before n (KeptSub u) = if names (keeping u before) n then 1 else 0
given_by before n e = 0

abbrev pub given_after : List LogItem → ℕ → List LogItem → ℕ
given_after before n [] = 0
given_after before n (d ∷ ds) = given_by before n d.event + given_after (before ++ d ∷ []) n ds

abbrev pub given_up : ℕ → List LogItem → ℕ
given_up n log = given_after [] n log

-- Of the places for CPUs: how many count words were collected for the slot's entry, and their sum

abbrev pub sum_below : (ℕ → ℕ) → ℕ → ℕ
sum_below f zero = 0
sum_below f (suc n) = sum_below f n + f n

abbrev pub is_there : Option ℕ → ℕ
is_there None = 0
is_there (Some w) = 1

abbrev pub word_or_none : Option ℕ → ℕ
word_or_none None = 0
word_or_none (Some w) = w

abbrev pub words_collected : ℕ → List LogItem → ℕ
words_collected t log = sum_below (λ c. is_there (word_collected t c log)) MOST_CPUS

abbrev pub sum_collected : ℕ → List LogItem → ℕ
sum_collected t log = sum_below (λ c. word_or_none (word_collected t c log)) MOST_CPUS

-- The total of an occupied slot is by the log: the words that were collected, less the references given up. What is due counts until it is done.
pub record AreTotalsOf (log : List LogItem) (s : State) : Type 0 where
  pub total : (t n : ℕ) → occupant t log ≡ Some n
      → total_at s.totals t + addition_due_at t s.due + given_up n log + bias * words_collected t log ≡ bias * (1 + is_adding_at t s.due) + sum_collected t log + subtraction_due_at t s.due
  -- no later entry's references were given up
  pub later : (n : ℕ) → changes_in log < n → given_up n log ≡ 0

-- the keeper's log has which entries the slots have, and each collected word, which is that CPU's net count
pub record AreCountsOf (log : List LogItem) (s : State) : Type 0 where
  pub occupants : (t : ℕ) → occupant t log ≡ occupant_of (slot_at s.slots t)
  pub words : (t c : ℕ) → word_collected t c log ≡ word_in s t c

-- some state shows the view, and in it the keeper had done exactly this
pub record IsShownAfter (log : List LogItem) (v : View) : Type 0 where
  pub g : State
  pub good : Good g
  pub shown : Shown g v
  pub counts : AreCountsOf log g
  pub totals : AreTotalsOf log g

-- The keeper's log has what the note told, the history is as long as the log says, its marks and slots are in it, and the words that it found grow
pub record IsOwnLog (log : List LogItem) (note : List LogItem) (k : KeeperView) : Type 0 where
  pub told : IsPrefix note log
  pub changes : length k.history ≡ changes_in log
  pub marks : AreMarksOf log k.marks
  pub slots : AreSlotsOf k.settings.cpus log k.slots
  pub kept : (t : ℕ) → kept_at k.keeps t ≡ keeping t log
  pub grow : WordsGrow log
  -- with another note beside it, some state shows the view, and in it the keeper had done exactly this
  pub counts : (h : List Change) × IsShownAfter log (Keeper (keeper_with_note k h))
