-- Held entries in a run that has ended: what a CPU holds by its log so far, what local references there are by all logs, and that no entry is freed while it is held.
use Rattle.std.specs.Prelude.{◌≡◌, ◌⊎◌, ℕ, suc, ◌+◌, ◌-◌, ◌==◌, ◌<◌, Bool, true, false, if◌then◌else◌, List, [], ◌∷◌, ◌++◌, Option, Some, None, sum_by, take}
use Rattle.cpu_words.specs.Types.{Entry, Event, Exit, LoadLink, LoadRecord, PassiveAdd, PassiveSub, CountAdd, JoinRef, CountDown, Refind, Try, Confirm, TakeBack, Reply, Word, Found, Missed, Settings}
use Rattle.protocol.specs.declared.event.RecordOf.TheVariants.{Search as OfSearch}
use Rattle.protocol.specs.Common.{State, after, destroyed_slot, in_hand, kept_of, one_if, opening, picture, standing_of}
use Rattle.cpu_words.specs.declared.view.LogItem.{LogItem}
use Rattle.cpu_words.specs.KeeperLog.{given_up, names, occupant, sum_below}
use Rattle.cpu_words.specs.Steps.{HasNone, part}

abbrev pub is_exit : Event → Bool
is_exit (Exit c) = true
is_exit e = false

-- the item found the entry n: by a search, or again by memory
abbrev pub Finds : ℕ → LogItem → Type 0
Finds n d = ((e : Entry) × (d.reply ≡ Found e) × (e.number ≡ n)) ⊎ ((c : ℕ) × (t : ℕ) × (d.event ≡ Refind c t n))

-- by this log the CPU found the entry n in a section that it hasn't left since
pub record HasFoundInside (n : ℕ) (log : List LogItem) : Type 0 where
  pub before : List LogItem
  pub item : LogItem
  pub since : List LogItem
  pub are : log ≡ before ++ item ∷ since
  pub found : Finds n item
  pub inside : HasNone is_exit since

-- the entry that the CPU is trying to get a reference to: from a Try on, until it confirms that or takes it back

abbrev pub tried_after : Event → Option ℕ → Option ℕ
tried_after (Try c t n) x = Some n
tried_after (Confirm c) x = None
tried_after (TakeBack c) x = None
tried_after e x = x

-- how many passive references the CPU has to the entry n: acquired, copied, and confirmed where it was trying n, less those released

abbrev pub passive_after : ℕ → Option ℕ → Event → ℕ → ℕ
passive_after n x (PassiveAdd c m) k = if m == n then suc k else k
passive_after n x (PassiveSub c m) k = if m == n then k - 1 else k
passive_after n x (Confirm c) k = if names x n then suc k else k
passive_after n x e k = k

abbrev pub passive_from : ℕ → Option ℕ → ℕ → List LogItem → ℕ
passive_from n x k [] = k
passive_from n x k (d ∷ ds) = passive_from n (tried_after d.event x) (passive_after n x d.event k) ds

abbrev pub passive_by : ℕ → List LogItem → ℕ
passive_by n log = passive_from n None 0 log

-- by this log the CPU holds the entry n: its section may, or a passive reference does
abbrev pub HoldsBy : ℕ → List LogItem → Type 0
HoldsBy n log = HasFoundInside n log ⊎ (0 < passive_by n log)

-- Where an event of the list frees a slot, the CPU at this seat doesn't hold the slot's entry. Which
-- entry that is, the keeper's log until then says; what the CPU holds, its own log until then.
abbrev pub KeepsHeld : ℕ → List (ℕ × LogItem) → Type 0
KeepsHeld seat acts = (first rest : List (ℕ × LogItem)) (freed : ℕ × LogItem) (t n : ℕ) → acts ≡ first ++ freed ∷ rest → destroyed_slot freed.1.event ≡ Some t → occupant t (part 0 first) ≡ Some n
    → HoldsBy n (part seat first) → ⊥

-- so it is of each of the first CPUs, by the places of their seats
abbrev pub FreesNoneHeld : (ℕ → ℕ) → ℕ → List (ℕ × LogItem) → Type 0
FreesNoneHeld seat cpus acts = (c : ℕ) → c < cpus → KeepsHeld (seat c) acts

-- Local references go back on any CPU, or to the keeper. So all logs together count them.

-- the entry that the CPU found last in its open section
abbrev pub found_after : Event → Reply → Option ℕ → Option ℕ
found_after (Exit c) r x = None
found_after (Refind c t n) r x = Some n
found_after (LoadLink c) Missed x = None
found_after (LoadRecord (OfSearch c)) (Found e) x = Some e.number
found_after e r x = x

-- how many local references to n the CPU acquired: each CountAdd counts one, to the entry that was found last

abbrev pub acquired_by : ℕ → Option ℕ → Event → ℕ
acquired_by n x (CountAdd c) = one_if (names x n)
acquired_by n x e = 0

abbrev pub acquired_from : ℕ → Option ℕ → List LogItem → ℕ
acquired_from n x [] = 0
acquired_from n x (d ∷ ds) = acquired_by n x d.event + acquired_from n (found_after d.event d.reply x) ds

-- the entry of the local reference that the CPU has taken in and not counted down yet
abbrev pub joined_after : Event → Option ℕ → Option ℕ
joined_after (JoinRef c n) x = Some n
joined_after (CountDown c) x = None
joined_after e x = x

-- how many local references to n the CPU released: each CountDown counts one down, unless it finds the count word collected; then the reference is still there

abbrev pub released_by : ℕ → Option ℕ → Event → Reply → ℕ
released_by n x (CountDown c) (Word w) = one_if (names x n)
released_by n x e r = 0

abbrev pub released_from : ℕ → Option ℕ → List LogItem → ℕ
released_from n x [] = 0
released_from n x (d ∷ ds) = released_by n x d.event d.reply + released_from n (joined_after d.event x) ds

-- how many the first CPUs acquired, and how many they released, or the keeper gave up: one that it took in, or that a slot kept for its interface until that was freed

abbrev pub acquired_in : (ℕ → ℕ) → ℕ → ℕ → List (ℕ × LogItem) → ℕ
acquired_in seat cpus n acts = sum_below (λ c. acquired_from n None (part (seat c) acts)) cpus

abbrev pub released_in : (ℕ → ℕ) → ℕ → ℕ → List (ℕ × LogItem) → ℕ
released_in seat cpus n acts = sum_below (λ c. released_from n None (part (seat c) acts)) cpus + given_up n (part 0 acts)

-- Where an event of the list frees a slot, all local references to the entry that has the slot were released or given up until then.
abbrev pub FreesNoLocals : (ℕ → ℕ) → ℕ → List (ℕ × LogItem) → Type 0
FreesNoLocals seat cpus acts = (first rest : List (ℕ × LogItem)) (freed : ℕ × LogItem) (t n : ℕ) → acts ≡ first ++ freed ∷ rest → destroyed_slot freed.1.event ≡ Some t → occupant t (part 0 first) ≡ Some n
    → acquired_in seat cpus n first ≡ released_in seat cpus n first

-- the local references to n that there are: with a seat of their own, in a CPU's hand, and kept by slots
abbrev pub local_references : State → ℕ → ℕ
local_references s n = sum_by (standing_of n) s.locals + sum_by (in_hand n) s.hands + sum_by (kept_of n) s.keeps

-- After each number of events of the list, the logs until then count exactly the references that there are.
pub record CountExactly (z : Settings) (events : List Event) (seat : ℕ → ℕ) (acts : List (ℕ × LogItem)) : Type 0 where
  -- each CPU's log its passive references
  pub passive : (i c n : ℕ) → c < (after (opening z) events).seated → passive_by n (part (seat c) (take i acts)) ≡ (picture (after (opening z) (take i events))).passive c n
  -- and all logs together the local ones
  pub locals : (i n : ℕ) → acquired_in seat (after (opening z) events).seated n (take i acts)
      ≡ released_in seat (after (opening z) events).seated n (take i acts) + local_references (after (opening z) (take i events)) n
