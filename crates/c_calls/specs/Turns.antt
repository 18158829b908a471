-- A destroy of C's by turns, and a wait for open sections that goes from call to call.
use Rattle.std.specs.Prelude.{◌≡◌, ℕ, suc, zero, ◌+◌, ◌==◌, if◌then◌else◌, true, false, List, Option, Some, None, Result, Ok, Err, IfOk}
use mathlib.Core.List.{IsPrefix}
use Rattle.c_calls.specs.Types.{Refusal, Inside, Waiting, WrongCpu, Settings, Stage, Freed}
use Rattle.registry_values.specs.Common.{number_of_refusal, destroy_result}
use Rattle.cpu_words.specs.Common.{IsFreedFrom, Named}
use Rattle.passive_list.specs.Common.{OnCpu, OnPlainCpu, OnKeeper, OnPlainKeeper}
use Rattle.name_registry.specs.Common.{HasAdvanced, IsGoneIfFreed, IsStageOf, KeepsWords, StaysGoneBy, is_inside, Finishes, HasBegun, HasGlanced, HasPassedAll, HasSeenAllOut, HaveAllEnded, none_seen}
use Rattle.c_handles.specs.declared.values.plain.TheConstants.{DONE, NOT_BEGUN, NULL}
use Rattle.c_handles.specs.declared.values.plain.CStage.{CStage}
use Rattle.c_handles.specs.declared.values.wait.CWait.{CWait}
use Rattle.c_handles.specs.values.Places.{put}
use Rattle.c_handles.specs.values.Texts.{number_of, stage_out}
use Rattle.c_calls.specs.Calls.{ThroughBoth}

-- A destroy

-- One turn of the work on the entry, and its result r. By the keeper's log an entry whose slot was freed is gone from there.
pub record Advances (number : ℕ) (k k' : OnPlainKeeper) (r : Result Stage Refusal) : Type 0 where
  pub answer : HasAdvanced k.keeper number r k'.keeper
  pub stage : IfOk r (λ stage. IsStageOf k.words.settings stage)
  pub gone : IsGoneIfFreed number r k'.keeper.log
  pub words : k'.words ≡ k.words

-- What met the entry is written. It was destroyed exactly where nothing did.
abbrev pub WritesDestroyed : Result Stage Refusal → ℕ → Option CStage → Option CStage → Type 0
WritesDestroyed (Ok stage) n old new = (n ≡ number_of (destroy_result stage)) × (new ≡ put old (stage_out stage))
WritesDestroyed (Err refusal) n old new = (n ≡ number_of_refusal refusal) × (new ≡ old)

-- DONE says that the slot is written, and that by the keeper's log the entry was attached there, was detached, and then the slot was freed.
-- So the entry is gone, now and later.
pub record DestroyAnswers (number : ℕ) (k k' : OnPlainKeeper) (n : ℕ) (old new : Option CStage) : Type 0 where
  pub r : Result Stage Refusal
  pub advances : Advances number k k' r
  pub writes : WritesDestroyed r n old new
  pub done : n ≡ DONE → (slot : ℕ) × (new ≡ put old (stage_out (Freed slot))) × IsFreedFrom slot number k'.keeper.log × StaysGoneBy k.words.settings slot number k'.keeper.log

-- A wait for open sections

-- A wait begins: what is written of it, and what the keeper and the CPU told each other.
pub record Begins (k : OnPlainKeeper) (c : OnPlainCpu) (k' : OnPlainKeeper) (c' : OnPlainCpu) (new : CWait) : Type 0 where
  pub begun : HasBegun k.words.settings k.keeper c.cpu new.snapshots new.retired k'.keeper c'.cpu
  pub seen : new.seen ≡ none_seen
  -- by this a turn knows the wait's CPU
  pub its : new.begun ≡ c.cpu.view.id + 1
  pub words : KeepsWords k c k' c'

-- the passes at the end of a wait, of the keeper and the CPU
abbrev pub PassesHeld : Settings → OnKeeper × OnCpu → List ℕ → OnKeeper × OnCpu → Type 0
PassesHeld z p numbers q = HasPassedAll z p.0 p.1 numbers q.0 q.1

-- One turn of it, which told this CPU or none. Of the wait it writes who was seen. Where it told none, the keeper and the CPU, as the glances
-- left them, pass what was retired.
pub record Turns (k : OnPlainKeeper) (c : OnPlainCpu) (k' : OnPlainKeeper) (c' : OnPlainCpu) (told : Option ℕ) (old new : CWait) : Type 0 where
  pub keeper : OnKeeper
  pub cpu : OnCpu
  pub glanced : HasGlanced k.words.settings old.snapshots k.keeper c.cpu old.seen told new.seen keeper cpu
  pub finished : Finishes (PassesHeld k.words.settings) old.retired (keeper, cpu) told (k'.keeper, c'.cpu)
  pub wait : new ≡ record old { seen = new.seen }
  pub words : KeepsWords k c k' c'

pub record PerformAnswers (k : OnPlainKeeper) (c : OnPlainCpu) (k' : OnPlainKeeper) (c' : OnPlainCpu) (n : ℕ) (old new : CWait) : Type 0 where
  pub inside : is_inside c.cpu ≡ true → (n ≡ number_of_refusal Inside) × (k' ≡ k) × (c' ≡ c) × (new ≡ old)
  pub outside : is_inside c.cpu ≡ false → (n ≡ DONE) × Begins k c k' c' new

-- with a wait, or with none
pub record PerformsAt (k : OnPlainKeeper) (c : OnPlainCpu) (k' : OnPlainKeeper) (c' : OnPlainCpu) (n : ℕ) (old new : Option CWait) : Type 0 where
  pub null : old ≡ None → (n ≡ NULL) × (k' ≡ k) × (c' ≡ c) × (new ≡ None)
  pub there : (w : CWait) → old ≡ Some w → (v : CWait) × (new ≡ Some v) × PerformAnswers k c k' c' n w v

-- the whole call, through the handles
abbrev pub PerformCalls : Option OnPlainKeeper → Option OnPlainCpu → Option OnPlainKeeper → Option OnPlainCpu → ℕ → Option CWait → Option CWait → Type 0
PerformCalls k c k' c' n old new = ThroughBoth k k' c c' n (new ≡ old) (λ a x b y. PerformsAt a x b y n old new)

-- Why a turn of the wait by this CPU is refused, if it is: the wait was never begun, it is another CPU's, or the CPU is inside.
abbrev pub why_refused : CWait → OnCpu → Option ℕ
why_refused wait x = if wait.begun == 0 then Some NOT_BEGUN else (if wait.begun == x.view.id + 1 then (if is_inside x then Some (number_of_refusal Inside) else None) else Some (number_of_refusal WrongCpu))

-- the number of what refused a turn, or the CPU that it told, if any
pub record TurnAnswers (k : OnPlainKeeper) (c : OnPlainCpu) (k' : OnPlainKeeper) (c' : OnPlainCpu) (r : Result (Option ℕ) ℕ) (old new : CWait) : Type 0 where
  pub refused : (e : ℕ) → why_refused old c.cpu ≡ Some e → (r ≡ Err e) × (k' ≡ k) × (c' ≡ c) × (new ≡ old)
  pub made : why_refused old c.cpu ≡ None → (told : Option ℕ) × (r ≡ Ok told) × Turns k c k' c' told old new

-- what a turn returns, and writes of the CPU that it told
abbrev pub WritesTold : Result (Option ℕ) ℕ → ℕ → Option ℕ → Option ℕ → Type 0
WritesTold (Ok None) n old new = (n ≡ DONE) × (new ≡ old)
WritesTold (Ok (Some c)) n old new = (n ≡ number_of_refusal (Waiting c)) × (new ≡ put old c)
WritesTold (Err e) n old new = (n ≡ e) × (new ≡ old)

-- with a wait, or with none
pub record TurnsAt (k : OnPlainKeeper) (c : OnPlainCpu) (k' : OnPlainKeeper) (c' : OnPlainCpu) (n : ℕ) (wait wait' : Option CWait) (old new : Option ℕ) : Type 0 where
  pub null : wait ≡ None → (n ≡ NULL) × (k' ≡ k) × (c' ≡ c) × (wait' ≡ None) × (new ≡ old)
  pub there : (w : CWait) → wait ≡ Some w → (v : CWait) × (wait' ≡ Some v) × (r : Result (Option ℕ) ℕ) × TurnAnswers k c k' c' r w v × WritesTold r n old new

abbrev pub TurnCalls : Option OnPlainKeeper → Option OnPlainCpu → Option OnPlainKeeper → Option OnPlainCpu → ℕ → Option CWait → Option CWait → Option ℕ → Option ℕ → Type 0
TurnCalls k c k' c' n wait wait' old new = ThroughBoth k k' c c' n ((wait' ≡ wait) × (new ≡ old)) (λ a x b y. TurnsAt a x b y n wait wait' old new)

-- From call to call: what DONE says.

-- If c has the number of m, it is that CPU, after any calls: of the keeper's log it knows all that m knew. What a CPU knows only grows.
abbrev pub IsAfter : OnPlainCpu → OnPlainCpu → Type 0
IsAfter m c = c.cpu.view.id ≡ m.cpu.view.id → IsPrefix m.cpu.known_log c.cpu.known_log

-- the CPU as the call of c left it: as m, if c is another
pub record IsLeft (m c left y : OnPlainCpu) : Type 0 where
  pub its : c.cpu.view.id ≡ m.cpu.view.id → y ≡ left
  pub other : (c.cpu.view.id ≡ m.cpu.view.id → ⊥) → y ≡ m

-- One turn, by a keeper and any CPU of this registry. It found the wait `old` and its CPU as after m, and left them as `new` and y.
pub record IsTurnOfWait (words : Named) (m : OnPlainCpu) (old : CWait) (answer : ℕ) (y : OnPlainCpu) (new : CWait) : Type 0 where
  pub keeper : OnPlainKeeper
  pub cpu : OnPlainCpu
  pub left : OnPlainCpu
  pub ours : keeper.words ≡ words
  pub after : IsAfter m cpu
  pub is_left : IsLeft m cpu left y
  -- what the call leaves of the keeper, and what it writes of the CPU that it tells
  pub kept : Option OnPlainKeeper
  pub place : Option ℕ
  pub told : Option ℕ
  pub call : TurnCalls (Some keeper) (Some cpu) kept (Some left) answer (Some old) (Some new) place told

-- n turns, with any results: each found the wait exactly as the call before had left it
abbrev pub TurnsOn : ℕ → Named → OnPlainCpu → CWait → OnPlainCpu → CWait → Type 0
TurnsOn zero words x old y new = (y ≡ x) × (new ≡ old)
TurnsOn (suc n) words x old y new = (m : OnPlainCpu) × (between : CWait) × (answer : ℕ) × TurnsOn n words x old m between × IsTurnOfWait words m between answer y new

-- A call of kupaldiz_perform_begin by the CPU x began the wait, and turns went on from what it wrote. So far they left the CPU as m, and the wait as `wait`.
pub record IsUnderWay (words : Named) (x m : OnPlainCpu) (wait : CWait) : Type 0 where
  pub keeper : OnPlainKeeper
  pub ours : keeper.words ≡ words
  pub kept : Option OnPlainKeeper
  pub cpu : OnPlainCpu
  pub first : CWait
  pub begun : CWait
  pub begins : PerformCalls (Some keeper) (Some x) kept (Some cpu) DONE (Some first) (Some begun)
  pub turns : ℕ
  pub between : TurnsOn turns words cpu begun m wait

-- The last turn of such a wait answered done, and left the CPU as y.
pub record IsWaitedFor (words : Named) (x y : OnPlainCpu) : Type 0 where
  pub near : OnPlainCpu
  pub left : CWait
  pub under : IsUnderWay words x near left
  pub end : CWait
  pub last : IsTurnOfWait words near left DONE y end

-- Then y knows what the answer Ok of `Registry::perform` says: each CPU was seen out of its section since, and what had been detached has passed.
abbrev pub WaitsEnd : Type 0
WaitsEnd = (words : Named) (x y : OnPlainCpu) → IsWaitedFor words x y → HasSeenAllOut words.settings.cpus x.cpu y.cpu

-- So each section that was open as the wait began has had its exit.
abbrev pub SectionsEnd : Type 0
SectionsEnd = (words : Named) (x y : OnPlainCpu) → IsWaitedFor words x y → HaveAllEnded words.settings x.cpu y.cpu

-- A wait that was begun stays its CPU's, after any turns, a done one too: none of them is refused as one of a wait that wasn't begun.
abbrev pub WaitsStay : Type 0
WaitsStay = (n : ℕ) (words : Named) (x y : OnPlainCpu) (old new : CWait) → TurnsOn n words x old y new → new.begun ≡ old.begun

-- The same of one call of kupaldiz_perform_turn that answered done, by the CPU c, which it left as y.
abbrev pub EndsSections : Option OnPlainKeeper → Option OnPlainCpu → Option OnPlainCpu → ℕ → Option CWait → Type 0
EndsSections k c c' n wait = (a : OnPlainKeeper) (x m b y : OnPlainCpu) (w : CWait) → k ≡ Some a → c ≡ Some b → c' ≡ Some y → wait ≡ Some w → n ≡ DONE
    → IsUnderWay a.words x m w → IsAfter m b → HaveAllEnded a.words.settings x.cpu y.cpu
