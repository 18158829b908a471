-- Storms: their settings, what they count and expect of each answer, and the faults that they may end with.
use Rattle.std.specs.Prelude.{◌≡◌, ℕ, ◌+◌, ◌<◌, ◌≤◌, ◌^◌, ℤ, pos, List, [], ◌∷◌, ◌*◌, Option, Result, Ok, Err, IfSome, IfErr}
use Rattle.name_registry.specs.Types.{Balance, Settings, Entry, Driver, Iface, Record, Name, Refusal, NoSlot, Stage}
use Rattle.registry_values.specs.declared.limits.TheConstants.{USUAL_CHANGES, USUAL_COUNT, USUAL_SECTIONS}
use Rattle.registry_values.specs.declared.stage.Stage.TheVariants as stage
use Rattle.registry_language.specs.declared.fault.RunFault.{RunFault}
use Rattle.registry_language.specs.declared.fault.RunFault.TheVariants as run
use Rattle.registry_storm.specs.declared.sum.Counts.{Counts}
use Rattle.registry_storm.specs.declared.sum.StormDeeds.{StormDeeds}
use Rattle.registry_storm.specs.declared.sum.StormSum.{StormSum}

-- What a storm counts.

-- c is the sum of a and b, where a word has room for it
abbrev pub IsAdded : ℕ → ℕ → ℕ → Type 0
IsAdded a b c = a + b < 2 ^ 64 → c ≡ a + b

-- each number of c is that of a and of b together
pub record AreDeedsAdded (a b c : StormDeeds) : Type 0 where
  pub found : IsAdded a.found b.found c.found
  pub attached : IsAdded a.attached b.attached c.attached
  pub freed : IsAdded a.freed b.freed c.freed
  pub read : IsAdded a.read b.read c.read
  pub handed : IsAdded a.handed b.handed c.handed

-- the same of all that is counted; lookups always have room, and no wrong answer is lost where others have none
pub record AreAdded (a b c : Counts) : Type 0 where
  pub lookups : c.lookups ≡ a.lookups + b.lookups
  pub references : IsAdded a.references b.references c.references
  pub wrong : IsAdded a.wrong b.wrong c.wrong
  pub least : (a.wrong ≤ c.wrong) × (b.wrong ≤ c.wrong)
  pub deeds : AreDeedsAdded a.deeds b.deeds c.deeds

-- what the first balance says is held, 0 where there is none
abbrev pub held_first : List Balance → ℤ
held_first [] = pos 0
held_first (b ∷ rest) = b.held

-- The settings of a storm, its sum, and the faults that it may end with.

-- the settings of a storm's registry
abbrev pub settings_of : ℕ → Settings
settings_of cpus = record { cpus = cpus; slots = 4; change_limit = USUAL_CHANGES; section_limit = USUAL_SECTIONS; passive_limit = 4; count_limit = USUAL_COUNT }

-- a storm's sum is of so many CPUs and turns, with two lookups in each turn of each CPU
pub record IsSumOf (c t : ℕ) (sum : StormSum) : Type 0 where
  pub cpus : sum.cpus ≡ c
  pub turns : sum.turns ≡ t
  pub lookups : sum.lookups ≡ 2 * t * c

-- the faults that a storm may end with
abbrev pub IsOfStorm : RunFault → Type 0
IsOfStorm run.Memory = Unit {0}
IsOfStorm run.NoThread = Unit {0}
IsOfStorm _ = ⊥

-- What a storm expects of each answer, and how an answer is judged.

-- An answer was judged: a right one counts nothing, any other one wrong answer. Nothing else is counted.
pub record IsJudged (right : Type 0) (a b : Counts) : Type 0 where
  pub kept : right → b.wrong ≡ a.wrong
  pub counted : (right → ⊥) → IsAdded a.wrong 1 b.wrong
  pub least : a.wrong ≤ b.wrong
  pub none : b.wrong ≡ 0 → right
  pub lookups : b.lookups ≡ a.lookups
  pub references : b.references ≡ a.references
  pub deeds : b.deeds ≡ a.deeds

-- no lookup was counted, and no wrong answer was taken back
pub record GoesOn (a b : Counts) : Type 0 where
  pub lookups : b.lookups ≡ a.lookups
  pub wrong : a.wrong ≤ b.wrong

-- the record of the driver, by its name
abbrev pub driver_record : Name → Record
driver_record name = record { kind = Driver; name = name; value = 7 }

-- the driver is the first entry of its registry
abbrev pub driver_entry : Name → Entry
driver_entry name = record { number = 1; slot = 0; rec = driver_record name }

-- the record of the interface that is attached in a turn
abbrev pub iface_record : Name → ℕ → Record
iface_record name turn = record { kind = Iface; name = name; value = turn }

-- no interface, or that of some turn
abbrev pub IsIfaceOf : ℕ → Option Entry → Type 0
IsIfaceOf turns answer = IfSome answer (λ e. e.rec.value < turns)

-- an interface was attached, or no slot is vacant
abbrev pub IsAttachOf : Result Entry Refusal → Type 0
IsAttachOf answer = IfErr answer (λ refusal. refusal ≡ NoSlot)

-- nobody refers to the interface that was retired in the slot: it waits for a section, or that slot is free
abbrev pub IsTurnOf : ℕ → Result Stage Refusal → Type 0
IsTurnOf slot (Ok (stage.Grace c)) = Unit {0}
IsTurnOf slot (Ok (stage.Passive c)) = ⊥
IsTurnOf slot (Ok (stage.Local n)) = ⊥
IsTurnOf slot (Ok (stage.Freed t)) = t ≡ slot
IsTurnOf slot (Err refusal) = ⊥

-- the driver, entry 1, is the only entry
abbrev pub IsDriverAlone : List Balance → Type 0
IsDriverAlone [] = ⊥
IsDriverAlone (b ∷ rest) = (rest ≡ []) × (b.number ≡ 1)

-- a number was told by some list that is an audit, which was judged: it is what the first balance says is held
pub record IsHeld (IsAudit : List Balance → Type 0) (a b : Counts) (held : ℤ) : Type 0 where
  pub list : List Balance
  pub audit : IsAudit list
  pub told : held ≡ held_first list
  pub judged : IsJudged (IsDriverAlone list) a b
