-- What an audit answers (localcount(9)), that it is the tally, and the free interlock.
use Rattle.std.specs.Prelude.{◌≡◌, ℕ, zero, suc, ◌+◌, ◌*◌, ◌<◌, ℤ, pos, ◌+ℤ◌, ◌-ℤ◌, ◌==◌, All, Bool, ◌&&◌, List, [], ◌∷◌, ◌++◌, map, length, take, drop, get_or, slice_set, sum_by, if◌then◌else◌, Option, Some, None, IsSome, slice_index_or}
use mathlib.Core.Option.{some}
use mathlib.Core.List.{IsPrefix}
use lib.ListN.{get_elem?}
use Rattle.atomic_table.specs.Table.{State as Table}
use Rattle.name_registry.specs.Types.{Change, LogItem, Teller, Cpu, Keeper, Balance, Entry, Settings, Slot, Vacant, Live, Retired, View, KeeperView}
use Rattle.registry_values.specs.Common.{Tally, bias, less_bias, sum_of, tally_shown, is_retired, slot_at}
use Rattle.protocol.specs.Common.{IsIn, State, mark_at, total_at, held_at, itself, one_if_used, opening, after, held_of, BalancesAtRest}
use Rattle.cpu_words.specs.Common.{AreWordsOf, Named, changes_in, given_up, heard_from, occupant, sum_collected, word_collected, words_collected, IsShownAfter, with_note, keeper_with_note, Good, IsShown, number_at, CpuShown, KeeperShown, Ruled, Shown, RunsLawfully}
use Rattle.passive_list.specs.Common.{OnCpu, IsAtRest, OnKeeper, HeardAndTold}
use Rattle.name_registry.specs.Locking.{HasLearned, keeper_after_tell}

-- What an audit answers (localcount(9)): by the counts of all CPUs and the totals, and that it is the tally.

-- the slice is CPU 0, 1, .., in this order
pub record AreAllCpus (cpus : ℕ) (xs : List OnCpu) : Type 0 where
  pub count : length xs ≡ cpus
  pub each : (c : ℕ) (x : OnCpu) → get_elem? xs c ≡ some x → x.view.id ≡ c

-- What an audit is lent, by the tables of the CPUs: of none, where there is no CPU

-- a CPU is there, and the words are of its table
abbrev pub AreItsWords : Option Named → Named → Type 0
AreItsWords None w = ⊥
AreItsWords (Some z) w = AreWordsOf w z.table z.settings

abbrev pub AreThere : List (Option Named) → Type 0
AreThere ts = (c : ℕ) → c < length ts → IsSome (get_or ts c None)

-- each is there, and of this table
abbrev pub AreOf : Named → List (Option Named) → Type 0
AreOf w ts = (c : ℕ) → c < length ts → get_or ts c None ≡ Some w

pub record AreAllThere (cpus : ℕ) (ts : List (Option Named)) (xs : List OnCpu) : Type 0 where
  pub all : AreAllCpus cpus xs
  pub there : AreThere ts

-- the CPU's own net count for n: what it acquired less what it released
abbrev pub net_of : ℕ → OnCpu → ℤ
net_of n x = pos (number_at x.view.acquired n) -ℤ pos (number_at x.view.released n)

-- the keeper has collected the CPU's count word for the entry in the slot t
abbrev pub is_collected : OnKeeper → ℕ → ℕ → Bool
is_collected k t c = is_retired (slot_at k.slots t) && (mark_at k.view.marks t c).collected

-- what the CPU's count adds to the audit of n, where its net count is this
abbrev pub local_by : OnKeeper → ℕ → ℤ → OnCpu → ℤ
local_by k t net x = if is_collected k t x.view.id then pos 0 else net

abbrev pub local_of : OnKeeper → ℕ → ℕ → OnCpu → ℤ
local_of k t n x = local_by k t (net_of n x) x

abbrev pub locals_of : OnKeeper → List OnCpu → ℕ → ℕ → List ℤ
locals_of k xs t n = map (local_of k t n) xs

-- what is said of the entry n in the slot t, where the CPUs' counts add these numbers
abbrev pub tally_by : OnKeeper → List ℤ → ℕ → ℕ → Tally
tally_by k locals n t = record {
  number = n;
  slot = t;
  held = sum_of locals +ℤ less_bias (total_at k.view.totals t);
  locals = locals;
  total = less_bias (total_at k.view.totals t);
}

-- something of each live or retired slot below a number, least first

abbrev pub each_at : {X : Type 0} → (ℕ → ℕ → X) → ℕ → Slot → List X
each_at f t Vacant = []
each_at f t (Live e) = f e.number t ∷ []
each_at f t (Retired e) = f e.number t ∷ []

abbrev pub each_below : {X : Type 0} → (ℕ → ℕ → X) → List Slot → ℕ → List X
each_below f slots zero = []
each_below f slots (suc t) = each_below f slots t ++ each_at f t (slot_at slots t)

-- what is said of the entry n in the slot t
abbrev pub tally_of : OnKeeper → List OnCpu → ℕ → ℕ → Tally
tally_of k xs n t = tally_by k (locals_of k xs t n) n t

abbrev pub tallies_below : OnKeeper → List OnCpu → ℕ → List Tally
tallies_below k xs slots = each_below (tally_of k xs) k.slots slots

-- By the CPUs' places: a place says the net count of the number that the CPU met last in its slot; to another number it has counted none.

abbrev pub net_met : ℕ → ℕ → OnCpu → ℤ
net_met t n x = if number_at x.view.met t == n then net_of n x else pos 0

abbrev pub local_met : OnKeeper → ℕ → ℕ → OnCpu → ℤ
local_met k t n x = local_by k t (net_met t n x) x

abbrev pub locals_met : OnKeeper → List OnCpu → ℕ → ℕ → List ℤ
locals_met k xs t n = map (local_met k t n) xs

abbrev pub tally_met : OnKeeper → List OnCpu → ℕ → ℕ → Tally
tally_met k xs n t = tally_by k (locals_met k xs t n) n t

abbrev pub tallies_met : OnKeeper → List OnCpu → ℕ → List Tally
tallies_met k xs slots = each_below (tally_met k xs) k.slots slots

-- What the keeper alone says of an entry: its number, its slot, and the slot's total

pub record Listed : Type 0 where
  pub number : ℕ
  pub slot : ℕ
  pub total : ℤ

abbrev pub place_of : Balance → Listed
place_of b = record { number = b.number; slot = b.slot; total = b.total }

abbrev pub listed_at : OnKeeper → ℕ → ℕ → Listed
listed_at k n t = record { number = n; slot = t; total = less_bias (total_at k.view.totals t) }

abbrev pub places_below : OnKeeper → ℕ → List Listed
places_below k slots = each_below (listed_at k) k.slots slots

-- the slot t has the entry n
abbrev pub Occupies : OnKeeper → ℕ → ℕ → Type 0
Occupies k t n = (e : Entry) × IsIn e (slot_at k.slots t) × (e.number ≡ n)

-- some slot has an entry
abbrev pub IsOccupied : OnKeeper → Type 0
IsOccupied k = (t : ℕ) × (e : Entry) × IsIn e (slot_at k.slots t)

-- How an audit writes its balances

-- how many of the first slots have an entry
abbrev pub occupied : OnKeeper → ℕ → ℕ
occupied k slots = length (places_below k slots)

-- whether the slot has an entry
abbrev pub entries_in : Slot → ℕ
entries_in Vacant = 0
entries_in (Live e) = 1
entries_in (Retired e) = 1

-- One slot's part of it: where the slot has an entry, the next place says what is said of it.
pub record WritesNext {P : Type 0} (shown : P → Tally) (said : ℕ → ℕ → Tally) (k : OnKeeper) (t at : ℕ) (old : List P) (at' : ℕ) (new : List P) : Type 0 where
  pub none : slot_at k.slots t ≡ Vacant → (at' ≡ at) × (new ≡ old)
  pub some : (e : Entry) → IsIn e (slot_at k.slots t) → (at' ≡ at + 1) × (p : P) × (new ≡ slice_set old at p) × (shown p ≡ said e.number t)

-- the first places say what is said of the entries in the first t slots, and the rest of the list is as before
pub record AreTold {P : Type 0} (shown : P → Tally) (said : ℕ → ℕ → Tally) (k : OnKeeper) (t at : ℕ) (first list : List P) : Type 0 where
  pub place : at ≡ occupied k t
  pub met : map shown (take at list) ≡ each_below said k.slots t
  pub rest : drop at list ≡ drop at first
  pub size : length list ≡ length first

-- The tally of n: local references acquired by all CPUs, less those that they released, less those given up under the interlock.

abbrev pub acquired_of : ℕ → OnCpu → ℕ
acquired_of n x = number_at x.view.acquired n

abbrev pub released_of : ℕ → OnCpu → ℕ
released_of n x = number_at x.view.released n

abbrev pub tally : OnKeeper → List OnCpu → ℕ → ℤ
tally k xs n = pos (sum_by (acquired_of n) xs) -ℤ pos (sum_by (released_of n) xs + number_at k.view.given_up n)

-- some state of the core shows all these views
pub record AreShown (g : State) (k : OnKeeper) (xs : List OnCpu) : Type 0 where
  pub good : Good g
  pub keeper : KeeperShown g k.view
  pub cpus : (c : ℕ) (x : OnCpu) → get_elem? xs c ≡ some x → CpuShown g x.view

-- What is held is the tally.
abbrev pub IsTallied : OnKeeper → List OnCpu → Tally → Type 0
IsTallied k xs b = b.held ≡ tally k xs b.number

-- Before it sums, an audit lets all know the same of the keeper's log: the keeper tells, each CPU hears in turn and tells on, and the
-- keeper hears the last one. Then some state shows each view, and in it the keeper had done exactly this.

-- with another note beside it, some state shows the CPU, in which the keeper had done exactly this
abbrev pub IsShownOn : List LogItem → OnCpu → Type 0
IsShownOn log x = (h : List Change) × IsShownAfter log (Cpu (with_note x.view h))

-- each of the CPUs knows exactly this of the keeper's log
abbrev pub KnowAll : List LogItem → List OnCpu → Type 0
KnowAll log ys = (c : ℕ) (y : OnCpu) → get_elem? ys c ≡ some y → y.known_log ≡ log

-- each of the CPUs has exactly this pass
abbrev pub HavePass : List Change → List OnCpu → Type 0
HavePass h ys = (c : ℕ) (y : OnCpu) → get_elem? ys c ≡ some y → y.view.pass ≡ h

-- of the keeper and the CPUs as they were, and the CPUs as they have heard
pub record AreAlike (k : OnKeeper) (xs ys : List OnCpu) : Type 0 where
  pub log : List LogItem
  pub known : KnowAll log ys
  pub keeper : (h : List Change) × IsShownAfter log (Keeper (keeper_with_note k.view h))
  pub cpus : (c : ℕ) (x : OnCpu) → get_elem? xs c ≡ some x → IsShownOn log x

-- The keeper a told what it had seen and done, each of the CPUs, which are ys now, heard that in turn, and the keeper heard the last one, and is b. So each CPU's pass is the keeper's history, and
-- what each knows is the keeper's log as it told, which has as many changes. The keeper did nothing else.
pub record HasToldAll (a : OnKeeper) (ys : List OnCpu) (b : OnKeeper) : Type 0 where
  pub passes : HavePass a.view.history ys
  pub known : KnowAll (keeper_after_tell a).log ys
  pub changes : length a.view.history ≡ changes_in (keeper_after_tell a).log
  pub heard : (h : Option Teller) × (b.log ≡ (keeper_after_tell a).log ++ heard_from None h)

-- All the CPUs know the same: one history is the pass of each, and one log is what each knows of the keeper's. That has as many changes as the history.
pub record KnowTheSame (ys : List OnCpu) : Type 0 where
  pub history : List Change
  pub log : List LogItem
  pub passes : HavePass history ys
  pub known : KnowAll log ys
  pub changes : length history ≡ changes_in log

-- of the keeper nothing changed but what it heard, and its log, which goes on
pub record HasListened (a b : OnKeeper) : Type 0 where
  pub log : IsPrefix a.log b.log
  pub is : (h : List Change) × (b ≡ record a { view = keeper_with_note a.view h; log = b.log })

-- of each CPU what it knows has grown, and nothing else of it changed
pub record HaveLearned (xs ys : List OnCpu) : Type 0 where
  pub size : length ys ≡ length xs
  pub each : (c : ℕ) (x y : OnCpu) → get_elem? xs c ≡ some x → get_elem? ys c ≡ some y → HasLearned x y × (y.made ≡ x.made)

-- the log of each CPU goes on by just two items: it heard once, and told once
abbrev pub HaveHeardAndTold : List OnCpu → List OnCpu → Type 0
HaveHeardAndTold xs ys = (c : ℕ) (x y : OnCpu) → get_elem? xs c ≡ some x → get_elem? ys c ≡ some y → HeardAndTold x y

-- What is known of the keeper behind the lock, which no contract can name: it is at rest, some state of the core shows its view, and in its slots it has what its view has.
pub record IsKeeperOf (z : Settings) (k : OnKeeper) : Type 0 where
  pub view : IsAtRest z k.view
  pub is_shown : IsShown k.view
  pub slots : (t : ℕ) → slot_at k.view.slots t ≡ slot_at k.slots t

-- By the keeper's log alone: what is said of each slot that has an entry by it

-- what a CPU's count adds to the audit of n: its net count, and nothing where its word was collected
abbrev pub net_unless : Option ℕ → ℤ → ℤ
net_unless None net = net
net_unless (Some w) net = pos 0

abbrev pub local_in : List LogItem → ℕ → ℕ → OnCpu → ℤ
local_in log t n x = net_unless (word_collected t x.view.id log) (net_of n x)

-- what was collected, less the biases of the words and what was given up
abbrev pub total_in : List LogItem → ℕ → ℕ → ℤ
total_in log t n = pos (sum_collected t log) -ℤ pos (bias * words_collected t log + given_up n log)

-- the tally of n: local references that all CPUs acquired, less those that they released, less those that the keeper gave up
abbrev pub tally_in : List LogItem → List OnCpu → ℕ → ℤ
tally_in log xs n = pos (sum_by (acquired_of n) xs) -ℤ pos (sum_by (released_of n) xs + given_up n log)

abbrev pub audited : List LogItem → List OnCpu → ℕ → ℕ → Tally
audited log xs n t = record { number = n; slot = t; held = tally_in log xs n; locals = map (local_in log t n) xs; total = total_in log t n }

abbrev pub audited_at : List LogItem → List OnCpu → ℕ → Option ℕ → List Tally
audited_at log xs t None = []
audited_at log xs t (Some n) = audited log xs n t ∷ []

-- the slots below a number, least first
abbrev pub audited_below : List LogItem → List OnCpu → ℕ → List Tally
audited_below log xs zero = []
audited_below log xs (suc t) = audited_below log xs t ++ audited_at log xs t (occupant t log)

-- what is answered of the CPUs xs, by this log
abbrev pub IsAuditIn : Settings → List LogItem → List OnCpu → List Balance → Type 0
IsAuditIn z log xs list = map tally_shown list ≡ audited_below log xs z.slots

-- What is answered of the CPUs xs: by a log that all know as it is answered, so that no keeper has to be named.
pub record IsAuditBy (z : Settings) (xs ys : List OnCpu) (list : List Balance) : Type 0 where
  pub log : List LogItem
  pub known : KnowAll log ys
  pub answer : IsAuditIn z log xs list

-- What is answered of the keeper k and all CPUs.
pub record IsAuditOf (z : Settings) (k : OnKeeper) (xs : List OnCpu) (list : List Balance) : Type 0 where
  pub keeper : IsKeeperOf z k
  -- of each slot with an entry: the CPUs' own counts by their places, and the keeper's total
  pub met : map tally_shown list ≡ tallies_met k xs z.slots
  -- these are the net counts, and what is held is the tally
  pub answer : map tally_shown list ≡ tallies_below k xs z.slots
  pub tally : All (λ b. IsTallied k xs (tally_shown b)) list

-- Laws over any table. The free interlock: whoever holds the keeper, and has made no step yet, finds the balance of each slot equal to the
-- local references held.

-- the count words of the slot t, of all CPUs
abbrev pub counts_of : State → ℕ → List ℕ
counts_of g t = slice_index_or g.counts t []

-- In the state that the table shows: the words of a live or retired entry's slot, less the bias of its total and of each word that isn't collected, are the references held.
abbrev pub Balanced : State → Type 0
Balanced g = (t : ℕ) (e : Entry) → IsIn e (slot_at g.slots t)
    → sum_by itself (counts_of g t) + total_at g.totals t ≡ held_at g.locals g.hands g.keeps g.due e.number t + bias * (1 + sum_by one_if_used (counts_of g t))

-- a list of events leads to a state that the words and the views of all seats show, the keeper's among them; it obeys the laws, and its balances are the references held
pub record IsBalancedRun (a : Settings) (s : Table ℕ View) (k : KeeperView) : Type 0 where
  pub run : RunsLawfully a s
  pub keeper : Shown (after (opening a) run.events) (Keeper k)
  pub balanced : Balanced (after (opening a) run.events)
  -- all that the protocol says of balances at rest: of vacant slots too, and that the references held are those of the model
  pub at_rest : BalancesAtRest (after (opening a) run.events)

-- for any table while the keeper's seat has this view
abbrev pub FreeInterlock : Settings → OnKeeper → Type 0
FreeInterlock a k = (s : Table ℕ View) (i : ℕ) → Ruled a s → get_elem? s.views i ≡ some (Keeper k.view) → IsBalancedRun a s k.view

-- The exact audit: in any table where the keeper's seat and those of the CPUs have these views, one state shows all of them.

-- seats of the table have these views
pub record AreSeated (s : Table ℕ View) (k : OnKeeper) (xs : List OnCpu) : Type 0 where
  pub keeper : (i : ℕ) × (get_elem? s.views i ≡ some (Keeper k.view))
  pub cpus : (c : ℕ) (x : OnCpu) → get_elem? xs c ≡ some x → (i : ℕ) × (get_elem? s.views i ≡ some (Cpu x.view))

-- a list of events leads to one state that the words and all these views show; so what an audit of them lists are the net counts, and what is held is the tally
pub record IsExactRun (a : Settings) (s : Table ℕ View) (k : OnKeeper) (xs : List OnCpu) : Type 0 where
  pub run : RunsLawfully a s
  pub shown : AreShown (after (opening a) run.events) k xs
  pub listed : (list : List Balance) → IsAuditOf a k xs list → map tally_shown list ≡ tallies_below k xs a.slots
  pub tallied : (list : List Balance) → IsAuditOf a k xs list → All (λ b. b.held ≡ tally k xs b.number) list
  -- of all CPUs: what is held are the local references held to the entry
  pub held : AreAllCpus a.cpus xs → (list : List Balance) → IsAuditOf a k xs list → All (λ b. b.held ≡ pos (held_of (after (opening a) run.events) b.number)) list

-- for any table while the seats have these views
abbrev pub ExactAudit : Settings → OnKeeper → List OnCpu → Type 0
ExactAudit a k xs = (s : Table ℕ View) → Ruled a s → AreSeated s k xs → IsExactRun a s k xs
