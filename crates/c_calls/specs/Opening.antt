-- What opening and closing a registry answer and leave.
use Rattle.std.specs.Prelude.{◌≡◌, ◌≢◌, ◌⊎◌, ℕ, zero, suc, ◌-◌, ◌<◌, List, [], ◌∷◌, ◌++◌, length, map, replicate, get_or, Bool, true, false, Option, Some, None}
use mathlib.Core.Option.{some}
use lib.ListN.{get_elem?}
use Rattle.c_calls.specs.Types.{BadSettings, Inside, MissingCpu, NoMemory, Settings, Vacant, LogItem}
use Rattle.registry_values.specs.Common.{are_fit, number_of_refusal}
use Rattle.cpu_words.specs.Common.{keeper_with, Named}
use Rattle.passive_list.specs.Common.{OnPlainCpu, OnPlainKeeper}
pub use Rattle.name_registry.specs.Common.{boxed, opened_cpu}
use Rattle.name_registry.specs.Common.{is_inside}
use Rattle.c_handles.specs.declared.handle.CpuHandle.{CpuHandle}
use Rattle.c_handles.specs.declared.handle.KeeperHandle.{KeeperHandle}
use Rattle.c_handles.specs.declared.values.plain.TheConstants.{DONE, FULL_HANDLE, NULL}
use Rattle.c_handles.specs.declared.values.plain.CSettings.{CSettings}
use Rattle.c_handles.specs.values.Places.{DoesBy}
use Rattle.c_handles.specs.values.Texts.{settings_in}

-- the keeper of a new registry: all slots are vacant, and there was no change; the log is of the seats that it gave the CPUs
abbrev pub opened_keeper : Named → List LogItem → OnPlainKeeper
opened_keeper w log = record { words = w; keeper = record { view = keeper_with w.settings w.settings.cpus; slots = replicate w.settings.slots Vacant; log = log } }

-- the last k of n CPUs, the greatest first
abbrev pub opened_down : Named → ℕ → ℕ → List OnPlainCpu
opened_down w n zero = []
opened_down w n (suc k) = opened_down w n k ++ opened_cpu w (n - suc k) ∷ []

-- the bodies of a list of handles
abbrev pub bodies_of : List CpuHandle → List (Option OnPlainCpu)
bodies_of handles = map (λ (h : CpuHandle). h.body) handles

-- and behind the handle c: nothing past the last
abbrev pub body_at : List (Option OnPlainCpu) → ℕ → Option OnPlainCpu
body_at cs c = get_or cs c None

abbrev pub AreEmpty : List (Option OnPlainCpu) → Type 0
AreEmpty cs = (c : ℕ) → body_at cs c ≡ None

abbrev pub IsSomeFull : List (Option OnPlainCpu) → Type 0
IsSomeFull cs = (c : ℕ) × (b : OnPlainCpu) × (body_at cs c ≡ Some b)

-- some handle isn't empty
abbrev pub IsFull : Option OnPlainKeeper → List (Option OnPlainCpu) → Type 0
IsFull k cs = ((a : OnPlainKeeper) × (k ≡ Some a)) ⊎ IsSomeFull cs

-- the first m handles have what is in the list of n, from its last
abbrev pub AreGiven : List OnPlainCpu → ℕ → List (Option OnPlainCpu) → ℕ → Type 0
AreGiven all n cs m = (c : ℕ) → c < m → (b : OnPlainCpu) × (body_at cs c ≡ Some b) × (get_elem? all (n - suc c) ≡ some b)

-- nothing has changed
abbrev pub StaysClosed : Option OnPlainKeeper → Option OnPlainKeeper → List (Option OnPlainCpu) → List (Option OnPlainCpu) → Type 0
StaysClosed k k' cs cs' = (k' ≡ k) × (cs' ≡ cs)

-- the handles have the keeper and the CPUs of one new registry
pub record IsOpen (z : Settings) (k : Option OnPlainKeeper) (cs : List (Option OnPlainCpu)) : Type 0 where
  pub words : Named
  pub settings : words.settings ≡ z
  pub log : List LogItem
  pub keeper : k ≡ Some (opened_keeper words log)
  pub cpus : (c : ℕ) → c < z.cpus → body_at cs c ≡ Some (opened_cpu words c)

-- it is opened, or there is no memory
abbrev pub HasOpened : Settings → Option OnPlainKeeper → Option OnPlainKeeper → List (Option OnPlainCpu) → List (Option OnPlainCpu) → ℕ → Type 0
HasOpened z k k' cs cs' n = ((n ≡ DONE) × IsOpen z k' cs') ⊎ ((n ≡ number_of_refusal NoMemory) × StaysClosed k k' cs cs')

-- By handles that are all empty: the answers in the order of the tests; where all are passed, it is opened, or there is no memory.
pub record OpensFree (given : CSettings) (k k' : Option OnPlainKeeper) (cs cs' : List (Option OnPlainCpu)) (n : ℕ) : Type 0 where
  pub bad : are_fit (settings_in given) ≡ false → (n ≡ number_of_refusal BadSettings) × StaysClosed k k' cs cs'
  pub missing : are_fit (settings_in given) ≡ true → length cs ≢ given.cpus → (n ≡ number_of_refusal MissingCpu) × StaysClosed k k' cs cs'
  pub made : are_fit (settings_in given) ≡ true → length cs ≡ given.cpus → HasOpened (settings_in given) k k' cs cs' n

-- by settings that were given, or by none
abbrev pub OpensBy : Option CSettings → Option OnPlainKeeper → Option OnPlainKeeper → List (Option OnPlainCpu) → List (Option OnPlainCpu) → ℕ → Type 0
OpensBy None k k' cs cs' n = (n ≡ NULL) × StaysClosed k k' cs cs'
OpensBy (Some given) k k' cs cs' n = OpensFree given k k' cs cs' n

-- a handle that isn't empty is refused first
pub record Opens (given : Option CSettings) (k k' : Option OnPlainKeeper) (cs cs' : List (Option OnPlainCpu)) (n : ℕ) : Type 0 where
  pub full : IsFull k cs → (n ≡ FULL_HANDLE) × StaysClosed k k' cs cs'
  pub free : k ≡ None → AreEmpty cs → OpensBy given k k' cs cs' n

-- with no handles of CPUs, though there should be some
pub record OpensNowhere (k k' : Option OnPlainKeeper) (n : ℕ) : Type 0 where
  pub full : (a : OnPlainKeeper) → k ≡ Some a → (n ≡ FULL_HANDLE) × (k' ≡ k)
  pub null : k ≡ None → (n ≡ NULL) × (k' ≡ k)

-- into a row of so many handles
abbrev pub OpensInto : Option CSettings → Option OnPlainKeeper → Option OnPlainKeeper → ℕ → Option (List CpuHandle) → Option (List CpuHandle) → ℕ → Type 0
OpensInto given k k' count cpus after n = DoesBy count cpus after (OpensNowhere k k' n) (λ old new. Opens given k k' (bodies_of old) (bodies_of new) n)

-- Closing

-- whether the CPU behind a handle is inside a section
abbrev pub is_inside_of : Option OnPlainCpu → Bool
is_inside_of None = false
is_inside_of (Some b) = is_inside b.cpu

abbrev pub AreOutside : List (Option OnPlainCpu) → Type 0
AreOutside cs = (c : ℕ) → is_inside_of (body_at cs c) ≡ false

abbrev pub IsSomeInside : List (Option OnPlainCpu) → Type 0
IsSomeInside cs = (c : ℕ) × (is_inside_of (body_at cs c) ≡ true)

-- the keeper behind the handle, if there is a handle
abbrev pub keeper_of : Option KeeperHandle → Option OnPlainKeeper
keeper_of None = None
keeper_of (Some h) = h.body

-- The keeper and some CPUs are all closed; none of them if a CPU is inside. Empty handles stay empty.
pub record Closes (k k' : Option KeeperHandle) (cs cs' : List (Option OnPlainCpu)) (n : ℕ) : Type 0 where
  pub inside : IsSomeInside cs → (n ≡ number_of_refusal Inside) × (k' ≡ k) × (cs' ≡ cs)
  pub outside : AreOutside cs → (n ≡ DONE) × (keeper_of k' ≡ None) × AreEmpty cs'

-- of a row of so many handles
abbrev pub ClosesRow : Option KeeperHandle → Option KeeperHandle → ℕ → Option (List CpuHandle) → Option (List CpuHandle) → ℕ → Type 0
ClosesRow k k' count cpus after n = DoesBy count cpus after ((n ≡ NULL) × (k' ≡ k)) (λ old new. Closes k k' (bodies_of old) (bodies_of new) n)
