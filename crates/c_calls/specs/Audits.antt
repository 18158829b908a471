-- What an audit through the handles answers and writes.
use Rattle.std.specs.Prelude.{◌≡◌, ◌≢◌, ℕ, ◌<◌, ◌≤◌, pos, All, List, [], ◌++◌, length, map, take, drop, replicate, get_or, Option, Some, None}
use Rattle.c_calls.specs.Types.{MissingCpu, Settings, MOST_CPUS}
use Rattle.registry_values.specs.Common.{Tally, number_of_refusal}
use Rattle.cpu_words.specs.Common.{Named, new_cpu, no_settings}
use Rattle.passive_list.specs.Common.{OnCpu, OnPlainCpu, OnKeeper, OnPlainKeeper, no_memory}
use Rattle.name_registry.specs.Common.{HasListened, HasToldAll, HaveHeardAndTold, HaveLearned, IsKeeperOf, IsTallied, occupied, tallies_below, tallies_met}
use Rattle.c_handles.specs.declared.values.plain.TheConstants.{DONE, NO_ROOM, NULL}
use Rattle.c_handles.specs.declared.values.plain.CBalance.{CBalance}
use Rattle.c_handles.specs.declared.handle.CpuHandle.{CpuHandle}
use Rattle.c_calls.specs.Opening.{bodies_of, body_at}
use Rattle.c_handles.specs.values.Places.{DoesBy, put}

-- the CPU behind a handle; nothing is said of what isn't behind an empty one
abbrev pub cpu_in : Option OnPlainCpu → OnCpu
cpu_in None = record { view = new_cpu no_settings 0; depth = 0; made = 0; memory = no_memory 0; known_log = []; log = [] }
cpu_in (Some b) = b.cpu

-- and its table
abbrev pub table_in : Option OnPlainCpu → Option Named
table_in None = None
table_in (Some b) = Some b.words

abbrev pub cpus_in : List (Option OnPlainCpu) → List OnCpu
cpus_in cs = map cpu_in cs

-- the handles have CPU 0, 1, .., all of so many, in this order
pub record AreAllHere (cpus : ℕ) (cs : List (Option OnPlainCpu)) : Type 0 where
  pub count : length cs ≡ cpus
  pub each : (c : ℕ) → c < cpus → (b : OnPlainCpu) × (body_at cs c ≡ Some b) × (b.cpu.view.id ≡ c)

-- those that aren't empty are of the keeper's registry: the caller ensures it
abbrev pub AreAllOf : Option OnPlainKeeper → List (Option OnPlainCpu) → Type 0
AreAllOf k cs = (a : OnPlainKeeper) (c : ℕ) (b : OnPlainCpu) → k ≡ Some a → body_at cs c ≡ Some b → b.words ≡ a.words

-- what a balance says, where there are so many CPUs
abbrev pub tally_in : ℕ → CBalance → Tally
tally_in cpus b = record { number = b.number; slot = b.slot; held = b.held; locals = take cpus b.locals; total = b.total }

-- what all its places say
abbrev pub balance_in : CBalance → Tally
balance_in b = record { number = b.number; slot = b.slot; held = b.held; locals = b.locals; total = b.total }

-- the tally, with zeros past the last CPU
abbrev pub filled_up : Tally → Tally
filled_up y = record y { locals = y.locals ++ drop (length y.locals) (replicate MOST_CPUS (pos 0)) }

-- past the last CPU it has zeros
abbrev pub IsCut : ℕ → CBalance → Type 0
IsCut cpus b = (c : ℕ) → cpus ≤ c → get_or b.locals c (pos 0) ≡ pos 0

-- the audit of the keeper and all CPUs, as `IsAuditOf` has it of a list of balances
pub record IsAuditTold (z : Settings) (k : OnKeeper) (xs : List OnCpu) (list : List CBalance) : Type 0 where
  pub keeper : IsKeeperOf z k
  pub met : map (tally_in z.cpus) list ≡ tallies_met k xs z.slots
  pub answer : map (tally_in z.cpus) list ≡ tallies_below k xs z.slots
  pub tally : All (λ b. IsTallied k xs (tally_in z.cpus b)) list
  pub cut : All (IsCut z.cpus) list

-- what is written where the list has room: as many balances as there are entries, and the rest of it stays
pub record AuditWrites (z : Settings) (k : OnKeeper) (cs : List (Option OnPlainCpu)) (old new : List CBalance) : Type 0 where
  pub told : IsAuditTold z k (cpus_in cs) (take (occupied k z.slots) new)
  pub rest : drop (occupied k z.slots) new ≡ drop (occupied k z.slots) old

pub record Audits (z : Settings) (k : OnKeeper) (cs : List (Option OnPlainCpu)) (n : ℕ) (old new : List CBalance) (count count' : Option ℕ) : Type 0 where
  pub missing : (AreAllHere z.cpus cs → ⊥) → (n ≡ number_of_refusal MissingCpu) × (new ≡ old) × (count' ≡ count)
  pub short : AreAllHere z.cpus cs → length old < occupied k z.slots → (n ≡ NO_ROOM) × (new ≡ old) × (count' ≡ put count (occupied k z.slots))
  pub enough : AreAllHere z.cpus cs → occupied k z.slots ≤ length old → (n ≡ DONE) × AuditWrites z k cs old new × (count' ≡ put count (occupied k z.slots))

-- What the CPUs and the keeper hear as all come to know the same of the keeper's log

-- behind each handle stands what stood there, but that it may have heard
pub record HaveHeard (cs cs' : List (Option OnPlainCpu)) : Type 0 where
  pub size : length cs' ≡ length cs
  pub same : (c : ℕ) (b : OnPlainCpu) → body_at cs c ≡ Some b → (a : OnPlainCpu) × (body_at cs' c ≡ Some a) × (a.words ≡ b.words)
  pub none : (c : ℕ) → body_at cs c ≡ None → body_at cs' c ≡ None
  pub learned : HaveLearned (cpus_in cs) (cpus_in cs')

-- the keeper and the CPUs behind handles have done it; where it was refused, neither has made a step
pub record AuditsBodies (a b : OnPlainKeeper) (cs cs' : List (Option OnPlainCpu)) (n : ℕ) (old new : List CBalance) (count count' : Option ℕ) : Type 0 where
  pub words : b.words ≡ a.words
  pub keeper : HasListened a.keeper b.keeper
  pub cpus : HaveHeard cs cs'
  pub notes : n ≡ DONE → HaveHeardAndTold (cpus_in cs) (cpus_in cs')
  pub told : n ≡ DONE → HasToldAll a.keeper (cpus_in cs') b.keeper
  pub unchanged : n ≢ DONE → (b ≡ a) × (cs' ≡ cs)
  pub answer : Audits a.words.settings a.keeper cs n old new count count'

-- into a list of so many places
abbrev pub AuditsList : OnPlainKeeper → OnPlainKeeper → ℕ → List (Option OnPlainCpu) → List (Option OnPlainCpu) → ℕ → Option (List CBalance) → Option (List CBalance) → Option ℕ → Option ℕ → Type 0
AuditsList a b n cs cs' room list list' count count' =
    DoesBy room list list' ((n ≡ NULL) × (b ≡ a) × (cs' ≡ cs) × (count' ≡ count)) (λ old new. AuditsBodies a b cs cs' n old new count count')

-- of a row of so many handles
abbrev pub AuditsRows : OnPlainKeeper → OnPlainKeeper → ℕ → ℕ → Option (List CpuHandle) → Option (List CpuHandle) → ℕ → Option (List CBalance) → Option (List CBalance) → Option ℕ → Option ℕ → Type 0
AuditsRows a b n handles cpus cpus' room list list' count count' =
    DoesBy handles cpus cpus' ((n ≡ NULL) × (b ≡ a) × (list' ≡ list) × (count' ≡ count)) (λ old new. AuditsList a b n (bodies_of old) (bodies_of new) room list list' count count')
