-- A registry before it is named, its CPUs as it is opened, and its end.
use Rattle.std.specs.Prelude.{◌≡◌, ℕ, ◌<◌, ◌+◌, List, [], ◌∷◌, ◌++◌, length, map, IsTrue}
use Rattle.std.specs.Global.{Box}
use mathlib.Core.Option.{some}
use lib.ListN.{get_elem?}
use Rattle.atomic_table.specs.Seated.{TableId}
use mathlib.Core.List.{IsPrefix}
use Rattle.name_registry.specs.Types.{Settings, CpuView, EndedSeat, KeeperView, LogItem}
use Rattle.registry_values.specs.Common.{are_fit}
use Rattle.protocol.specs.Common.{opening, after}
use Rattle.cpu_words.specs.Common.{Named, Seated, new_cpu, keeper_with, part, CpuShown, CountExactly, EndsRun, FreesNoLocals, IsFreedFrom, IsGoneFrom, IsWholeIn, KeepsHeld, cpu_end}
use Rattle.passive_list.specs.Common.{OnCpu, OnPlainCpu, no_memory}
use Rattle.name_registry.specs.Changes.{weigh}
use Rattle.name_registry.specs.Locking.{tells_and_hears}

-- the CPU c of a new table: outside, with nothing found and nothing held, and nothing was made
abbrev pub new_on : Settings → ℕ → OnCpu
new_on z c = record { view = new_cpu z c; depth = 0; made = 0; memory = no_memory z.slots; known_log = []; log = [] }

-- the same, with its table
abbrev pub opened_cpu : Named → ℕ → OnPlainCpu
opened_cpu w c = record { words = w; cpu = new_on w.settings c }

-- what is in each of a list of boxes
abbrev pub boxed : List (Box OnPlainCpu) → List OnPlainCpu
boxed boxes = map (λ (b : Box OnPlainCpu). b.value) boxes

-- the first n CPUs of a new table, CPU 0 first
pub record AreOpened (w : Named) (n : ℕ) (xs : List OnPlainCpu) : Type 0 where
  pub count : length xs ≡ n
  pub each : (c : ℕ) → c < n → get_elem? xs c ≡ some (opened_cpu w c)

-- the keeper's seat and the CPUs are those of a new table
pub record IsBlank (w : Named) (k : Seated KeeperView) (xs : List OnPlainCpu) : Type 0 where
  pub fit : IsTrue (are_fit w.settings)
  pub table : k.table ≡ w.table
  pub keeper : k.view ≡ keeper_with w.settings w.settings.cpus
  pub cpus : AreOpened w w.settings.cpus xs

-- a registry before it is named, to a contract: which table it is, its settings, and which ledger counts its changes
pub record OnBlank : Type 0 where
  pub table : TableId
  pub settings : Settings
  pub changes : ℕ

-- D names its table, its settings and its ledger, which has a part for each CPU that there may be: `IsBlankOf b D.table D.settings D.name D.parts`
abbrev pub IsBlankOf : OnBlank → TableId → Settings → ℕ → ℕ → Type 0
IsBlankOf b table settings name parts = (b.table ≡ table) × (b.settings ≡ settings) × (b.changes ≡ name) × (parts ≡ settings.cpus)

-- the first n CPUs, CPU 0 first
pub record AreNewCpus (z : Settings) (n : ℕ) (xs : List OnCpu) : Type 0 where
  pub count : length xs ≡ n
  pub each : (c : ℕ) → c < n → get_elem? xs c ≡ some (new_on z c)

-- The end of a registry: what the last words are to whoever ends it with a CPU.

-- a list of events leads from the opening to these words; it has all that the CPU did and knows, and what was freed by that is gone
pub record ClosesRun (z : Settings) (x : OnCpu) (last : List ℕ) : Type 0 where
  pub keeper : KeeperView
  pub log : List LogItem
  pub run : EndsRun z keeper log last
  -- the CPU's log, and after it the two notes of its end, are its whole part of the list
  pub own : part (run.seat x.view.id) run.acts ≡ x.log ++ tells_and_hears x
  -- the last state has what the CPU's view has, which has grown by what it heard
  pub view : CpuView
  pub grown : view ≡ record x.view { pass = view.pass; noted_pass = view.noted_pass }
  pub shown : CpuShown (after (opening z) run.events) view
  pub known : IsPrefix x.known_log log
  pub seen : IsPrefix x.view.pass keeper.history
  pub gone : (t n : ℕ) → IsFreedFrom t n x.known_log → IsGoneFrom z (after (opening z) run.events) last n

-- The end of a registry with all its CPUs: what the last words are to whoever has them all.

-- each of the CPUs is among the seats that were taken over
abbrev pub AreTaken : List OnCpu → List EndedSeat → Type 0
AreTaken xs ends = (c : ℕ) (x : OnCpu) → get_elem? xs c ≡ some x → (i : ℕ) × (get_elem? ends i ≡ some (cpu_end x.view x.log x.known_log))

-- what the calls of these CPUs changed behind the interlock, together, as the ledger counts it
abbrev pub made_by : List OnCpu → ℕ
made_by [] = 0
made_by (x ∷ xs) = x.made + made_by xs

-- The run has all that the CPU did: its log is its whole part of the list. It has what the CPU's view has, and all that it knew; and what was freed by that is gone. No entry was freed while the CPU
-- held it.
pub record IsInRun {z : Settings} {keeper : KeeperView} {log : List LogItem} {last : List ℕ} (run : EndsRun z keeper log last) (x : OnCpu) : Type 0 where
  pub whole : IsWholeIn run x.view x.log x.known_log
  pub gone : (t n : ℕ) → IsFreedFrom t n x.known_log → IsGoneFrom z (after (opening z) run.events) last n
  pub held : KeepsHeld (run.seat x.view.id) run.acts

-- One list of events leads from the opening to these words, and has all that the keeper and each of these CPUs did. The ledger has so many parts, as many as the registry has CPUs.
pub record ClosesRunOf (z : Settings) (parts : ℕ) (xs : List OnCpu) (last : List ℕ) : Type 0 where
  pub keeper : KeeperView
  pub log : List LogItem
  pub run : EndsRun z keeper log last
  pub each : (c : ℕ) (x : OnCpu) → get_elem? xs c ≡ some x → IsInRun run x
  -- no entry was freed while there was a local reference to it: one that a CPU had acquired and nobody had released
  pub locals : FreesNoLocals run.seat (after (opening z) run.events).seated run.acts
  -- what the logs count as held is just what there was
  pub exact : CountExactly z run.events run.seat run.acts
  -- where these are all CPUs, the changes of the history are those that their calls made, and no more
  pub made : 0 < parts → length xs ≡ parts → weigh keeper.history ≡ made_by xs
