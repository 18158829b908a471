-- How far the destruction of a retired entry has come, waiting until each section that was open has ended (pserialize(9)), and what these leave.
use Rattle.std.specs.Prelude.{◌≡◌, ◌<◌, ℕ, ◌+◌, ◌==◌, nat_lt, List, Option, Some, None, Bool, true, false, not, ◌&&◌, Result, Ok, Err, slice_set, [], slice_index_or}
use Rattle.passive_core.specs.Types.{Entry, Refusal, StillHeld, Stage, Grace, Passive, Local, Freed, Mark, Slot, Vacant, Retired, Waiting}
use Rattle.registry_values.specs.Common.{bias, slot_at, slot_of, has_number, retired_slot, least_below, stage_of, is_retired}
use Rattle.registry_values.specs.Answers as stages
use Rattle.protocol.specs.Common.{MayHold, State, section_at, begin_at, mark_at, passive_at, count_at, total_at, kept_at, is_inside, held_at, passive_in, one_if, AllClear, AllCollected, AllPassed, MarksGrow, SameElsewhere}
use Rattle.passive_core.specs.Commands.{all_seated}

-- How far the destruction of a retired entry has come, in plain terms, and what the keeper's work on it leaves.

-- the word is that of the snapshot
abbrev pub is_snapshot : Option ℕ → ℕ → Bool
is_snapshot None w = false
is_snapshot (Some x) w = x == w

-- the section of c that was open as the snapshot of its word was taken for the slot t is open still
abbrev pub is_open_since : State → ℕ → ℕ → Bool
is_open_since s t c = is_inside s c && is_snapshot (mark_at s.marks t c).snapshot (section_at s c)

-- the passive word of c for t isn't 0, and c isn't clear: c has a passive reference to the entry in t, or is trying to get one in t
abbrev pub has_passive : State → ℕ → ℕ → Bool
has_passive s t c = nat_lt 0 (passive_at s.passive c t) && not (mark_at s.marks t c).clear

-- what stands between the retired entry n in the slot t and the freeing of t
abbrev pub first_obstacle : State → ℕ → ℕ → Stage
first_obstacle s t n = stage_of t (least_below (is_open_since s t) s.settings.cpus) (least_below (has_passive s t) s.settings.cpus) (held_at s.locals s.hands s.keeps s.due n t)

abbrev pub stage_in : State → ℕ → Option ℕ → Result Stage Refusal
stage_in s n place = stages.stage_in (λ t. first_obstacle s t n) place

-- The result of advance.
abbrev pub advance_answer : State → ℕ → Result Stage Refusal
advance_answer s n = stage_in s n (retired_slot s.slots n)

-- The plain stage, by who holds the entry: a CPU has a passive reference to n
abbrev pub refers_to : State → ℕ → ℕ → Bool
refers_to s n c = nat_lt 0 (passive_in s.passive s.hands c (slot_of s.slots n))

-- an open section as old as its snapshot, a passive reference, local ones
abbrev pub plain_obstacle : State → ℕ → ℕ → Stage
plain_obstacle s n t = stage_of t (least_below (is_open_since s t) s.settings.cpus) (least_below (refers_to s n) s.settings.cpus) (held_at s.locals s.hands s.keeps s.due n t)

abbrev pub plain_stage : State → ℕ → Result Stage Refusal
plain_stage s n = stages.stage_in (plain_obstacle s n) (retired_slot s.slots n)

-- Every open section that may hold the retired entry e counts as open since its snapshots.
abbrev pub HoldersAreOpen : State → Type 0
HoldersAreOpen s = (t c b : ℕ) (e : Entry) → slot_at s.slots t ≡ Retired e → begin_at s c ≡ Some b → MayHold s.history b e → is_open_since s t c ≡ true

-- a mark that may only have come to say passed
pub record Passes (old new : Mark) : Type 0 where
  pub snapshot : new.snapshot ≡ old.snapshot
  pub passed : old.passed ≡ true → new.passed ≡ true
  pub clear : new.clear ≡ old.clear
  pub collected : new.collected ≡ old.collected

-- the same, where nothing but looks at section words was done
pub record MarksPass (old new : List (List Mark)) (t : ℕ) : Type 0 where
  pub elsewhere : SameElsewhere old new t
  pub here : (c : ℕ) → Passes (mark_at old t c) (mark_at new t c)

-- a mark that may only have come to say passed and clear
pub record Clears (old new : Mark) : Type 0 where
  pub snapshot : new.snapshot ≡ old.snapshot
  pub passed : old.passed ≡ true → new.passed ≡ true
  pub clear : old.clear ≡ true → new.clear ≡ true
  pub collected : new.collected ≡ old.collected

-- the same, where nothing but looks at section words and passive words was done
pub record MarksClear (old new : List (List Mark)) (t : ℕ) : Type 0 where
  pub elsewhere : SameElsewhere old new t
  pub here : (c : ℕ) → Clears (mark_at old t c) (mark_at new t c)

-- the marks for the slot t of all CPUs but c are as they were
abbrev pub SameBut : List (List Mark) → List (List Mark) → ℕ → ℕ → Type 0
SameBut old new t c = (d : ℕ) → (d ≡ c → ⊥) → mark_at new t d ≡ mark_at old t d

-- The CPUs below c have passed for the slot t and c hasn't. Those above c weren't looked at, and nothing but passes was noted.
pub record PassedBelow (old new : State) (t c : ℕ) : Type 0 where
  pub marks : MarksPass old.marks new.marks t
  pub below : (d : ℕ) → d < c → (mark_at new.marks t d).passed ≡ true
  pub here : (mark_at new.marks t c).passed ≡ false
  pub above : (d : ℕ) → c < d → mark_at new.marks t d ≡ mark_at old.marks t d

-- All CPUs have passed for the slot t, those below c are clear and c isn't. Those above c are as clear as they were, and nothing was collected.
pub record ClearBelow (old new : State) (t c : ℕ) : Type 0 where
  pub marks : MarksClear old.marks new.marks t
  pub passed : AllPassed new t
  pub below : (d : ℕ) → d < c → (mark_at new.marks t d).clear ≡ true
  pub here : (mark_at new.marks t c).clear ≡ false
  pub above : (d : ℕ) → c < d → (mark_at new.marks t d).clear ≡ (mark_at old.marks t d).clear

-- All CPUs have passed for the slot t, are clear and have their count words collected.
pub record AllNoted (s : State) (t : ℕ) : Type 0 where
  pub passed : AllPassed s t
  pub clear : AllClear s t
  pub collected : AllCollected s t

-- a section or a passive reference is in the way: only seats and marks of the slot t change
pub record LeavesMarks (old new : State) (t : ℕ) : Type 0 where
  pub only : new ≡ record old { seated = old.settings.cpus; marks = new.marks }
  pub marks : MarksGrow old.marks new.marks t

-- k local references do: the words of the slot t are collected in its total
pub record LeavesTotal (old new : State) (t k : ℕ) : Type 0 where
  pub only : new ≡ record old { seated = old.settings.cpus; marks = new.marks; counts = new.counts; totals = new.totals }
  pub marks : MarksGrow old.marks new.marks t
  pub counts : SameElsewhere old.counts new.counts t
  pub collected : (c : ℕ) → count_at new.counts c t ≡ 0
  pub totals : (u : ℕ) → (u ≡ t → ⊥) → total_at new.totals u ≡ total_at old.totals u
  pub total : total_at new.totals t ≡ bias + k

-- what the driver in a slot loses as the reference is given up that another slot keeps
abbrev pub count_given_up : Option ℕ → Slot → ℕ
count_given_up None x = 0
count_given_up (Some d) x = one_if (has_number d x)

-- nothing does: the slot t is vacant and keeps nothing, and the total of the driver that it kept has one reference less
pub record LeavesFree (old new : State) (t : ℕ) : Type 0 where
  pub only : new ≡ record old { seated = old.settings.cpus; marks = new.marks; counts = new.counts; totals = new.totals; slots = slice_set old.slots t Vacant; keeps = slice_set old.keeps t None }
  pub marks : MarksGrow old.marks new.marks t
  pub counts : SameElsewhere old.counts new.counts t
  pub collected : (c : ℕ) → count_at new.counts c t ≡ 0
  pub totals : (u : ℕ) → (u ≡ t → ⊥) → total_at new.totals u + count_given_up (kept_at old.keeps t) (slot_at old.slots u) ≡ total_at old.totals u
  pub total : total_at new.totals t ≡ bias
  pub vacant : slot_at new.slots t ≡ Vacant
  pub unkept : kept_at new.keeps t ≡ None

-- words of the slot t are collected in its total
pub record Gathers (old new : State) (t : ℕ) : Type 0 where
  pub only : new ≡ record old { marks = new.marks; counts = new.counts; totals = new.totals }
  pub marks : MarksGrow old.marks new.marks t
  pub counts : SameElsewhere old.counts new.counts t
  pub totals : (u : ℕ) → (u ≡ t → ⊥) → total_at new.totals u ≡ total_at old.totals u

-- what the end of the work leaves of a slot whose words are all collected
pub record Empties (old new : State) (t : ℕ) : Type 0 where
  pub only : new ≡ record old { totals = new.totals; slots = slice_set old.slots t Vacant; keeps = slice_set old.keeps t None }
  pub totals : (u : ℕ) → (u ≡ t → ⊥) → total_at new.totals u + count_given_up (kept_at old.keeps t) (slot_at old.slots u) ≡ total_at old.totals u
  pub total : total_at new.totals t ≡ bias

abbrev pub Settles : State → State → ℕ → Stage → Type 0
Settles old new t (Grace c) = ⊥
Settles old new t (Passive c) = ⊥
Settles old new t (Local k) = (new ≡ old) × (total_at old.totals t ≡ bias + k)
Settles old new t (Freed u) = Empties old new t

abbrev pub StageLeaves : State → State → ℕ → Stage → Type 0
StageLeaves old new t (Grace c) = LeavesMarks old new t
StageLeaves old new t (Passive c) = LeavesMarks old new t
StageLeaves old new t (Local k) = LeavesTotal old new t k
StageLeaves old new t (Freed u) = LeavesFree old new t

-- What an advance leaves, by its answer.
abbrev pub AdvanceLeaves : State → State → ℕ → Result Stage Refusal → Type 0
AdvanceLeaves old new n (Err refusal) = new ≡ old
AdvanceLeaves old new n (Ok stage) = (t : ℕ) × (retired_slot old.slots n ≡ Some t) × StageLeaves old new t stage

-- Which marks the slot t has, by the obstacle that the work on it met.
abbrev pub StageMarks : State → State → ℕ → Stage → Type 0
StageMarks old new t (Grace c) = PassedBelow old new t c
StageMarks old new t (Passive c) = ClearBelow old new t c
StageMarks old new t (Local k) = AllNoted new t
StageMarks old new t (Freed u) = AllNoted new t

-- Which marks an advance leaves, by its answer.
abbrev pub AdvanceMarks : State → State → ℕ → Result Stage Refusal → Type 0
AdvanceMarks old new n (Err refusal) = new.marks ≡ old.marks
AdvanceMarks old new n (Ok stage) = (t : ℕ) × (retired_slot old.slots n ≡ Some t) × StageMarks old new t stage

-- The result of destroy.
abbrev pub destroy_answer : State → ℕ → ℕ → Result ℕ Refusal
destroy_answer s c n = stages.destroy_answer (is_inside s c) (advance_answer s n)

-- What a destroy leaves, by its answer: what an advance does that met this obstacle, or freed the slot.
abbrev pub HeldLeaves : State → State → ℕ → Refusal → Type 0
HeldLeaves old new n (StillHeld stage) = AdvanceLeaves old new n (Ok stage)
HeldLeaves old new n _ = new ≡ old

abbrev pub DestroyLeaves : State → State → ℕ → Result ℕ Refusal → Type 0
DestroyLeaves old new n (Ok t) = AdvanceLeaves old new n (Ok (Freed t))
DestroyLeaves old new n (Err refusal) = HeldLeaves old new n refusal

-- Which marks a destroy leaves, by its answer.
abbrev pub HeldMarks : State → State → ℕ → Refusal → Type 0
HeldMarks old new n (StillHeld stage) = AdvanceMarks old new n (Ok stage)
HeldMarks old new n _ = new.marks ≡ old.marks

abbrev pub DestroyMarks : State → State → ℕ → Result ℕ Refusal → Type 0
DestroyMarks old new n (Ok t) = AdvanceMarks old new n (Ok (Freed t))
DestroyMarks old new n (Err refusal) = HeldMarks old new n refusal

-- Waiting until each section that was open has ended (pserialize(9)): the answer, and what it leaves.

-- The result of perform: whether the caller is inside a section, else the lowest-numbered CPU that is.
abbrev pub perform_answer : State → ℕ → Result (Unit {0}) Refusal
perform_answer s c = stages.perform_answer (is_inside s c) (least_below (is_inside s) s.settings.cpus)

-- marks may have come to say passed, for retired entries alone
pub record OnlyPasses (old new : State) : Type 0 where
  pub only : new ≡ record old { marks = new.marks }
  pub marks : (t c : ℕ) → Passes (mark_at old.marks t c) (mark_at new.marks t c)
  pub elsewhere : (t : ℕ) → is_retired (slot_at old.slots t) ≡ false → slice_index_or new.marks t [] ≡ slice_index_or old.marks t []

-- every CPU has passed for each retired entry
pub record PerformPasses (old new : State) : Type 0 where
  pub only : new ≡ record old { seated = old.settings.cpus; marks = new.marks }
  pub marks : (t c : ℕ) → Passes (mark_at old.marks t c) (mark_at new.marks t c)
  pub elsewhere : (t : ℕ) → is_retired (slot_at old.slots t) ≡ false → slice_index_or new.marks t [] ≡ slice_index_or old.marks t []
  pub passed : (t : ℕ) → is_retired (slot_at old.slots t) ≡ true → AllPassed new t

-- a CPU was waited for, if the caller is outside its section
abbrev pub WaitLeaves : State → State → Refusal → Type 0
WaitLeaves old new (Waiting c) = new ≡ all_seated old
WaitLeaves old new _ = new ≡ old

-- What a perform leaves, by its answer.
abbrev pub PerformLeaves : State → State → Result (Unit {0}) Refusal → Type 0
PerformLeaves old new (Ok done) = PerformPasses old new
PerformLeaves old new (Err refusal) = WaitLeaves old new refusal

-- No CPU is inside a section.
abbrev pub AllOutside : State → Type 0
AllOutside s = (c : ℕ) → c < s.settings.cpus → is_inside s c ≡ false

-- The word of each CPU.
abbrev pub AreWords : State → List ℕ → Type 0
AreWords s words = (c : ℕ) → c < s.settings.cpus → slice_index_or words c 0 ≡ section_at s c

-- Who is outside its section was seen so.
abbrev pub AreSeen : State → List Bool → Type 0
AreSeen s seen = (c : ℕ) → c < s.settings.cpus → slice_index_or seen c false ≡ not (is_inside s c)
