-- Waiting for open sections (pserialize(9)): which looks a perform makes under the interlock, what it makes of their answers, and in how many turns.
use Rattle.std.specs.Prelude.{◌≡◌, ◌⊎◌, ℕ, zero, suc, ◌<◌, ◌≤◌, List, ◌++◌, length, Option, Some, None, Bool, true, false, not, Result, Err, replicate, slice_index_or}
use Rattle.std.specs.Option.{unwrap_or}
use mathlib.Core.List.{IsPrefix}
use mathlib.Core.Option.{some}
use lib.ListN.{get_elem?}
use Rattle.atomic_table.specs.Table.{State as Table}
use Rattle.cpu_words.specs.declared.view.Logged.{Logged}
use Rattle.cpu_words.specs.Called.{HaveEndedAll}
use Rattle.name_registry.specs.Types.{Event, Look, Snapshot, Tell, Done, Word, Refusal, Inside, Settings, MOST_CPUS, MOST_SLOTS, LogItem, KeeperView, Keeper, Cpu, CpuView}
use Rattle.registry_values.specs.Common.{wait_answer, is_out, least_below, is_retired_as, retired_number, slot_at}
use Rattle.cpu_words.specs.Common.{RunsAsLogged, TwoMoments, changes_in, HasHeardFrom, HasPassedOn, HasWaited, IsDetachedFrom, KeepsSlot, keeper_after_look, keeper_with_note, did, Makes}
use Rattle.passive_list.specs.Common.{OnCpu, OnKeeper, HasOwnLog, HasHeardOn, as_teller, cpu_after_tell, GoesOnBy}
use Rattle.name_registry.specs.Destroying.{IsLook, HasLookedFor, MeetsGrace, PassedBelow}
use Rattle.name_registry.specs.Locking.{hears_cpu, keeper_after_hear, keeper_after_tell, tells_and_hears, tells_twice_and_hears}

-- The keeper's looks for no entry

-- the keeper in one hold of the interlock: what its seat knows, and what it did
pub record Looking : Type 0 where
  pub view : KeeperView
  pub log : List LogItem

abbrev pub looking : OnKeeper → Looking
looking k = record { view = k.view; log = k.log }

-- exactly this look more was made, and found the word w: it is counted with its result and in the log, and nothing else changed
pub record LooksOnce (k : Looking) (e : Event) (w : ℕ) (l : Looking) : Type 0 where
  pub event : Makes e (Word w) (Keeper k.view) (Keeper l.view)
  pub change : l ≡ record { view = keeper_after_look k.view e (Word w); log = k.log ++ did e (Word w) }

-- what a row has of the CPU or the slot c

abbrev pub word_of : List ℕ → ℕ → ℕ
word_of words c = slice_index_or words c 0

abbrev pub is_seen : List Bool → ℕ → Bool
is_seen seen c = slice_index_or seen c false

-- a snapshot of each of the first n CPUs, CPU 0 first: these are the words found
abbrev pub SnapshotsBelow : List ℕ → ℕ → Looking → Looking → Type 0
SnapshotsBelow words zero k l = l ≡ k
SnapshotsBelow words (suc n) k l = (m : Looking) × SnapshotsBelow words n k m × LooksOnce m (Snapshot None n) (word_of words n) l

-- The CPU c is glanced at once, unless it was seen out of the section of its snapshot before. It counts as seen exactly if its own word, as
-- this glance found it, is out of that section.
abbrev pub GlancesOnce : ℕ → ℕ → Bool → Looking → Bool → Looking → Type 0
GlancesOnce snapshot c true k after l = (after ≡ true) × (l ≡ k)
GlancesOnce snapshot c false k after l = (w : ℕ) × LooksOnce k (Look None c) w l × (after ≡ is_out snapshot w)

-- the first n CPUs, CPU 0 first
abbrev pub GlancesBelow : List ℕ → List Bool → List Bool → ℕ → Looking → Looking → Type 0
GlancesBelow snapshots seen after zero k l = l ≡ k
GlancesBelow snapshots seen after (suc n) k l =
    (m : Looking) × GlancesBelow snapshots seen after n k m × GlancesOnce (word_of snapshots n) n (is_seen seen n) m (is_seen after n) l

-- One hold of the interlock

-- The keeper a hears first what the CPU x knows: its log goes on from that, and its history is as long as the log says. Then it makes the looks, and nothing else. At the end the CPU hears the history
-- and all that the keeper did.
pub record Hold (looks : Looking → Looking → Type 0) (a : OnKeeper) (x : OnCpu) (b : OnKeeper) (y : OnCpu) : Type 0 where
  pub known : IsPrefix x.known_log a.log
  pub seen : length x.view.pass ≤ changes_in a.log
  pub end : Looking
  pub made : looks (record { view = keeper_with_note a.view x.view.pass; log = a.log ++ hears_cpu x }) end
  pub view : b.view ≡ end.view
  pub slots : b.slots ≡ a.slots
  pub log : b.log ≡ end.log ++ did (Tell None) Done
  pub hears : HasHeardOn b.view.history x y
  pub told : IsPrefix b.log y.known_log
  pub cpu_log : y.log ≡ x.log ++ tells_and_hears x

-- The parts that are lent the keeper

-- As a perform begins: one snapshot of each CPU, and of each slot the number of the entry that is retired there, or 0, which no entry has; the keeper's log has what the keeper has.
pub record HasBegun (z : Settings) (a : OnKeeper) (x : OnCpu) (snapshots retired : List ℕ) (b : OnKeeper) (y : OnCpu) : Type 0 where
  pub own : HasOwnLog z a
  pub hold : Hold (SnapshotsBelow snapshots z.cpus) a x b y
  pub numbers : (t : ℕ) → t < MOST_SLOTS → word_of retired t ≡ unwrap_or (retired_number (slot_at a.slots t)) 0

-- One turn: a glance at each CPU that wasn't seen yet, and the least that still wasn't.
pub record HasGlanced (z : Settings) (snapshots : List ℕ) (a : OnKeeper) (x : OnCpu) (seen : List Bool) (told : Option ℕ) (after : List Bool) (b : OnKeeper) (y : OnCpu) : Type 0 where
  pub hold : Hold (GlancesBelow snapshots seen after z.cpus) a x b y
  pub least : told ≡ least_below (λ c. not (is_seen after c)) z.cpus

-- the retired entry in the slot t was looked at for each CPU that hadn't passed: all have passed now, or the section of its snapshot is open still on one
pub record HasPassedFor (z : Settings) (a : OnKeeper) (t : ℕ) (b : OnKeeper) : Type 0 where
  pub leaves : HasLookedFor a t b
  pub log : GoesOnBy (IsLook t) a.log b.log
  pub met : PassedBelow b.view t z.cpus ⊎ ((c : ℕ) × MeetsGrace a t c b)

-- where the entry is still retired there
abbrev pub PassesIf : Bool → Settings → OnKeeper → ℕ → OnKeeper → Type 0
PassesIf true z a t b = HasPassedFor z a t b
PassesIf false z a t b = b ≡ a

-- the entry n of the slot t, where it is retired still; one whose slot was freed is left out
abbrev pub PassesEntry : Settings → OnKeeper → ℕ → ℕ → OnKeeper → Type 0
PassesEntry z a t n b = PassesIf (is_retired_as n (slot_at a.slots t)) z a t b

-- the first n numbers, one by slot
abbrev pub PassesBelow : Settings → List ℕ → ℕ → OnKeeper → OnKeeper → Type 0
PassesBelow z numbers zero a b = b ≡ a
PassesBelow z numbers (suc n) a b = (m : OnKeeper) × PassesBelow z numbers n a m × PassesEntry z m n (word_of numbers n) b

-- As a perform ends: the keeper a hears what the CPU x knows, makes its looks for the entries with these numbers, and hears once more, so that its log has what they told. At the end the CPU hears the
-- history and all that the keeper did.
pub record HasPassedAll (z : Settings) (a : OnKeeper) (x : OnCpu) (numbers : List ℕ) (b : OnKeeper) (y : OnCpu) : Type 0 where
  pub known : IsPrefix x.known_log a.log
  pub end : OnKeeper
  pub passes : PassesBelow z numbers MOST_SLOTS (keeper_after_hear a x) end
  pub own : HasOwnLog z end
  pub is : b ≡ keeper_after_tell (keeper_after_hear end (cpu_after_tell x))
  pub hears : HasHeardOn b.view.history x y
  pub told : IsPrefix b.log y.known_log
  pub cpu_log : y.log ≡ x.log ++ tells_twice_and_hears x

-- The turns: X is what stands between two holds of the interlock

module _ {X : Type 0} (turn : X → List Bool → Option ℕ → List Bool → X → Type 0) where
  -- n turns were made, each on from what the one before left, and each told a CPU that wasn't seen
  abbrev pub TurnsWaiting : ℕ → X → List Bool → X → List Bool → Type 0
  TurnsWaiting zero x seen y after = (y ≡ x) × (after ≡ seen)
  TurnsWaiting (suc n) x seen y after =
      (m : X) × (between : List Bool) × (c : ℕ) × TurnsWaiting n x seen m between × turn m between (Some c) after y

  -- one turn more was made, after n such: this is its answer
  abbrev pub LastTurn : ℕ → X → List Bool → Option ℕ → X → List Bool → Type 0
  LastTurn n x seen answer y after = (m : X) × (between : List Bool) × TurnsWaiting n x seen m between × turn m between answer after y

  -- as many turns as are allowed, or fewer where the last told no CPU; the answer is the last one's
  pub record WaitsFor (turns : ℕ) (x : X) (seen : List Bool) (answer : Option ℕ) (y : X) : Type 0 where
    pub earlier : ℕ
    pub few : earlier < turns
    pub after : List Bool
    pub last : LastTurn earlier x seen answer y after
    pub enough : (answer ≡ None) ⊎ (suc earlier ≡ turns)

-- of a CPU that a turn told the section may be open still: nothing more is done; where none was told, what was retired is passed
abbrev pub Finishes : {X : Type 0} → (X → List ℕ → X → Type 0) → List ℕ → X → Option ℕ → X → Type 0
Finishes passes numbers x None y = passes x numbers y
Finishes passes numbers x (Some c) y = y ≡ x

-- no CPU was seen yet
abbrev pub none_seen : List Bool
none_seen = replicate MOST_CPUS false

-- A perform: it begins once, waits in at most so many turns for the sections of the snapshots that it took, and at the end passes the entries whose numbers it took.
pub record Performs {X : Type 0} (begins : X → List ℕ → List ℕ → X → Type 0) (turn : List ℕ → X → List Bool → Option ℕ → List Bool → X → Type 0)
    (passes : X → List ℕ → X → Type 0) (turns : ℕ) (x : X) (answer : Option ℕ) (y : X) : Type 0 where
  pub snapshots : List ℕ
  pub numbers : List ℕ
  pub begun : X
  pub waited : X
  pub first : begins x snapshots numbers begun
  pub waits : WaitsFor (turn snapshots) turns begun none_seen answer waited
  pub end : Finishes passes numbers waited answer y

-- Through the lock, whose value no contract can name: of some keeper, as the call found it and left it. What stands between two holds is the caller's CPU.

abbrev pub SomeBegan : Settings → OnCpu → List ℕ → List ℕ → OnCpu → Type 0
SomeBegan z x snapshots numbers y = (a : OnKeeper) × (b : OnKeeper) × HasBegun z a x snapshots numbers b y

abbrev pub SomeGlanced : Settings → List ℕ → OnCpu → List Bool → Option ℕ → List Bool → OnCpu → Type 0
SomeGlanced z snapshots x seen told after y = (a : OnKeeper) × (b : OnKeeper) × HasGlanced z snapshots a x seen told after b y

abbrev pub SomePassed : Settings → OnCpu → List ℕ → OnCpu → Type 0
SomePassed z x numbers y = (a : OnKeeper) × (b : OnKeeper) × HasPassedAll z a x numbers b y

-- What a call of perform made, by the lowest-numbered CPU that it told.
abbrev pub HasPerformed : Settings → ℕ → OnCpu → Option ℕ → OnCpu → Type 0
HasPerformed z turns x told y = Performs (SomeBegan z) (SomeGlanced z) (SomePassed z) turns x told y

-- inside a section nothing is done; outside the perform was made, and the answer is the CPU that was told
abbrev pub PerformsOutside : Settings → ℕ → Bool → OnCpu → Result (Unit {0}) Refusal → OnCpu → Type 0
PerformsOutside z turns true x result y = (result ≡ Err Inside) × (y ≡ x)
PerformsOutside z turns false x result y = (told : Option ℕ) × (result ≡ wait_answer told) × HasPerformed z turns x told y

-- What the caller's CPU knows at the end

-- When the keeper had done `before` and no more, it had heard the CPU, which told all that it knew as the call began: its known log and its
-- pass. Since then the keeper saw each CPU out of a section. By the law `running_headline` (`waiting`) each section has ended that was open
-- then, or at any moment before the CPU told the keeper; so each that was open as the call began. And each entry that had been detached by
-- then has passed on each CPU, unless its slot was reused.
pub record HasSeenAllOut (cpus : ℕ) (x y : OnCpu) : Type 0 where
  pub before : List LogItem
  pub since : List LogItem
  pub are : y.known_log ≡ before ++ since
  pub heard : HasHeardFrom None (as_teller x) before
  pub known : IsPrefix x.known_log before
  pub seen : length x.view.pass ≤ changes_in before
  pub waited : HasWaited since cpus
  pub passed : (t n c : ℕ) → c < cpus → IsDetachedFrom t n before → KeepsSlot t since → HasPassedOn t c y.known_log

-- At two moments under the rule: as the call began, with the CPU x at the seat j, and at any moment since it ended, at which some seat k knows of the keeper's log all that the CPU y knew then.
-- Each section that was open at the first, by what any seat i knew of the list, has had its exit; if i is a CPU that was inside, by its own log.
abbrev pub HaveAllEnded : Settings → OnCpu → OnCpu → Type 0
HaveAllEnded z x y = (s t : Table ℕ Logged) (i j k : ℕ) (m : TwoMoments z s t i j) (r : RunsAsLogged z t) (l : Logged) (v : CpuView) → m.doer.log ≡ x.log → m.does.view ≡ Cpu v → v.id ≡ x.view.id
    → get_elem? t.views k ≡ some l → IsPrefix y.known_log l.known_log → (before : List LogItem) × IsPrefix x.known_log before × HaveEndedAll m r before
