-- A call through the lock: what keeper and caller hear of each other, what the caller keeps, which refusals there may be, and a release.
use Rattle.std.specs.Prelude.{◌≡◌, ◌⊎◌, ℕ, ◌<◌, Bool, List, ◌++◌, length, Some, None, is_some, Option, ◌≢◌, true, false}
use mathlib.Core.List.{IsPrefix}
use Rattle.name_registry.specs.Types.{Entry, Tell, Done, LogItem, Teller, Refusal, NameTaken, NoSlot, HistoryFull, Inside, NeedsDriver, NotFound, NotRetired, StillHeld, Waiting, Settings, Stage, Grace, Passive, Local, Freed, JoinKeeper, ReferenceView, TotalSub, Key, KeptSlot}
use Rattle.registry_values.specs.Common.{IsObstacle, is_available, is_live_as, key_of}
use Rattle.protocol.specs.Common.{IsAttached, EndsAt}
use Rattle.cpu_words.specs.Common.{has_heard_from, heard_from, keeper_with_note, did, log_item, given_up}
use Rattle.passive_list.specs.Common.{OnCpu, OnPlainCpu, OnKeeper, OnPlainKeeper, GoesOnBy, as_teller, has_heard, has_told, HasHeardOn}
use Rattle.local_count.specs.{HasReleased, HasComeBack}
use Rattle.local_count.specs.Draining.{HasGivenUp}

-- A call that changes the registry: the keeper hears what the caller's CPU has seen, and then the CPU hears the whole history.

-- both are of the tables that they were of
abbrev pub KeepsWords : OnPlainKeeper → OnPlainCpu → OnPlainKeeper → OnPlainCpu → Type 0
KeepsWords k x k' x' = (k'.words ≡ k.words) × (x'.words ≡ x.words)

abbrev pub is_inside : OnCpu → Bool
is_inside x = is_some x.view.begin

-- the keeper heard a note of the CPU's, and its log says that this CPU told it
abbrev pub hears_cpu : OnCpu → List LogItem
hears_cpu x = heard_from None (Some (as_teller x))

-- the keeper as it has heard what the CPU has seen
abbrev pub keeper_after_hear : OnKeeper → OnCpu → OnKeeper
keeper_after_hear a x = record { view = keeper_with_note a.view x.view.pass; slots = a.slots; log = a.log ++ hears_cpu x }

-- and as it has told the history
abbrev pub keeper_after_tell : OnKeeper → OnKeeper
keeper_after_tell a = record a { log = a.log ++ did (Tell None) Done }

-- In the CPU's own log: it tells the keeper what it has seen, and at the end it hears.
abbrev pub tells_and_hears : OnCpu → List LogItem
tells_and_hears x = has_told x ++ has_heard x None

-- it tells twice, as the keeper hears before its work and after
abbrev pub tells_twice_and_hears : OnCpu → List LogItem
tells_twice_and_hears x = has_told x ++ has_told x ++ has_heard x None

-- a note that the CPU c told or heard
abbrev pub IsNote : ℕ → LogItem → Type 0
IsNote c d = (d ≡ log_item (Tell (Some c)) Done) ⊎ ((h : Option Teller) × (d ≡ has_heard_from (Some c) h))

-- the CPU's pass has grown, and its known log, by notes alone, and nothing else of it changed but the pass noted beside its view, and what its calls have made
pub record HasLearned (x y : OnCpu) : Type 0 where
  pub pass : IsPrefix x.view.pass y.view.pass
  pub known_log : IsPrefix x.known_log y.known_log
  pub is : y ≡ record x { view = record x.view { pass = y.view.pass; noted_pass = y.view.noted_pass }; made = y.made; known_log = y.known_log; log = y.log }
  pub log : GoesOnBy (IsNote x.view.id) x.log y.log

-- the attach of e stands after all that the CPU had seen, and the CPU has seen it, by one note to the keeper and one from it
pub record HasSeenAttach (x y : OnCpu) (e : Entry) : Type 0 where
  pub later : length x.view.pass < e.number
  pub attached : IsAttached y.view.pass e
  pub log : y.log ≡ x.log ++ tells_and_hears x

-- The detach of e comes after all that the CPU had seen. The CPU has seen it, and the attach of e, by one note to the keeper and one from it.
pub record HasSeenDetach (x y : OnCpu) (e : Entry) : Type 0 where
  pub end : ℕ
  pub later : length x.view.pass < end
  pub ends : EndsAt y.view.pass e.number end
  pub attached : IsAttached y.view.pass e
  pub log : y.log ≡ x.log ++ tells_and_hears x

-- The replacement of f by e, one change, comes after all that the CPU had seen. The CPU has seen it, and the attach of f, by one note to the keeper and one from it.
pub record HasSeenReplace (x y : OnCpu) (f e : Entry) : Type 0 where
  pub later : length x.view.pass < e.number
  pub ends : EndsAt y.view.pass f.number e.number
  pub attached : IsAttached y.view.pass e
  pub before : IsAttached y.view.pass f
  pub alike : key_of e ≡ key_of f
  pub log : y.log ≡ x.log ++ tells_and_hears x

-- What a caller keeps of a call through the lock, whose value no contract can name: its CPU, and which refusals there may be.

-- An attach is refused by the CPU and the kind exactly, in this order; else by what is attached.

abbrev pub MayAttach : Bool → Bool → Type 0
MayAttach inside unfit = (inside ≡ false) × (unfit ≡ false)

abbrev pub IsAttachRefusal : Bool → Bool → Refusal → Type 0
IsAttachRefusal inside unfit Inside = inside ≡ true
IsAttachRefusal inside unfit NeedsDriver = (inside ≡ false) × (unfit ≡ true)
IsAttachRefusal inside unfit NameTaken = MayAttach inside unfit
IsAttachRefusal inside unfit NoSlot = MayAttach inside unfit
IsAttachRefusal inside unfit HistoryFull = MayAttach inside unfit
IsAttachRefusal inside unfit _ = ⊥

-- A detach is refused by the CPU exactly; else by what is attached.
abbrev pub IsDetachRefusedTo : Bool → Refusal → Type 0
IsDetachRefusedTo inside Inside = inside ≡ true
IsDetachRefusedTo inside NotFound = inside ≡ false
IsDetachRefusedTo inside _ = ⊥

-- So is a replacement, and by the kind of the entry that the reference is to.
abbrev pub IsReplaceRefusedTo : Bool → Bool → Refusal → Type 0
IsReplaceRefusedTo inside unfit Inside = inside ≡ true
IsReplaceRefusedTo inside unfit NeedsDriver = (inside ≡ false) × (unfit ≡ true)
IsReplaceRefusedTo inside unfit NotFound = MayAttach inside unfit
IsReplaceRefusedTo inside unfit NoSlot = MayAttach inside unfit
IsReplaceRefusedTo inside unfit HistoryFull = MayAttach inside unfit
IsReplaceRefusedTo inside unfit _ = ⊥

-- the stage speaks of a CPU or of a slot of the registry, or of some references
abbrev pub IsStageOf : Settings → Stage → Type 0
IsStageOf z (Grace c) = c < z.cpus
IsStageOf z (Passive c) = c < z.cpus
IsStageOf z (Local n) = n ≢ 0
IsStageOf z (Freed t) = t < z.slots

-- A destroy is refused by the CPU exactly; else as the work on the entry is, or by the last obstacle.
abbrev pub IsDestroyRefusal : Settings → Bool → Refusal → Type 0
IsDestroyRefusal z inside Inside = inside ≡ true
IsDestroyRefusal z inside NotRetired = inside ≡ false
IsDestroyRefusal z inside (StillHeld stage) = (inside ≡ false) × IsStageOf z stage × IsObstacle stage
IsDestroyRefusal z inside _ = ⊥

-- A perform is refused by the CPU exactly; else it waits for one.
abbrev pub IsPerformRefusal : Settings → Bool → Refusal → Type 0
IsPerformRefusal z inside Inside = inside ≡ true
IsPerformRefusal z inside (Waiting c) = (inside ≡ false) × (c < z.cpus)
IsPerformRefusal z inside _ = ⊥

-- A release that always succeeds: by the CPU's own count, or under the interlock, where that count was collected.

-- The CPU is as it was, except its log, only where a compare-exchange found the CPU's own count word collected. The exchange is in the log
-- with its reply, and after it that the reference came back.
abbrev pub IsLetGo : OnCpu → ReferenceView → OnCpu → Type 0
IsLetGo x v y = HasReleased x v y ⊎ ((back : ReferenceView) × HasComeBack x v y back)

-- For a caller that hears of it

-- in the keeper's log: it took a reference to the entry in, and subtracted it from the total of the entry's slot
abbrev pub gives_up : Entry → List LogItem
gives_up e = did (JoinKeeper e.number) Done ++ did (TotalSub e.slot) Done

-- the keeper a hears first what the CPU x knows, and gives the reference up; then the CPU hears the history and all that the keeper did
pub record HasGivenUpFor (a : OnKeeper) (x : OnCpu) (v : ReferenceView) (b : OnKeeper) (y : OnCpu) : Type 0 where
  pub known : IsPrefix x.known_log a.log
  pub end : OnKeeper
  pub given : HasGivenUp (keeper_after_hear a x) v end
  pub is : b ≡ keeper_after_tell end
  pub hears : HasHeardOn end.view.history x y
  pub told : IsPrefix b.log y.known_log
  pub cpu_log : y.log ≡ x.log ++ tells_and_hears x

-- By what the CPU y knows, the keeper gave a reference to the entry up after all that x knew: so one more of them was given up.
pub record KnowsGivenUp (e : Entry) (x y : OnCpu) : Type 0 where
  pub before : List LogItem
  pub after : List LogItem
  pub known : IsPrefix x.known_log before
  pub are : y.known_log ≡ before ++ (gives_up e ++ after)
  pub more : given_up e.number x.known_log < given_up e.number y.known_log

-- The reference came back to the CPU x, the keeper gave it up, and the CPU knows so.
pub record HasHeardGivenUp (x : OnCpu) (v : ReferenceView) (y : OnCpu) : Type 0 where
  pub between : OnCpu
  pub back : ReferenceView
  pub came_back : HasComeBack x v between back
  pub learned : HasLearned between y
  -- in its own log are two notes
  pub log : y.log ≡ between.log ++ tells_and_hears between
  pub made : y.made ≡ between.made
  pub gone : KnowsGivenUp v.entry x y

abbrev pub IsLetGoAndHeard : OnCpu → ReferenceView → OnCpu → Type 0
IsLetGoAndHeard x v y = HasReleased x v y ⊎ HasHeardGivenUp x v y

-- What one row of the keeper says.

-- the slot shows a live entry with this kind and name
abbrev pub is_live_row : Key → KeptSlot → Bool
is_live_row key r = is_live_as key r.state

-- the slot is vacant and keeps nothing
abbrev pub is_available_row : KeptSlot → Bool
is_available_row r = is_available (r.state, r.keeps)
