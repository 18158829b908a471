-- A change on the driver that is named: whoever holds the keeper gets a local reference to it, and lets it go where the change is refused.
use Rattle.std.specs.Prelude.{◌≡◌, ◌⊎◌, Some, None, Result, Ok, Err, true, false, ℕ}
use Rattle.name_registry.specs.Types.{Driver, Iface, Entry, Key, Name, Record, Refusal, NotFound, NeedsDriver, Inside, ReferenceView, Settings}
use Rattle.registry_values.specs.Common.{is_iface}
use Rattle.passive_list.specs.Common.{HasHeardOn, OnCpu, OnKeeper, cpu_after_tell}
use Rattle.local_count.specs.{HasComeBack, HasReleased}
use Rattle.local_count.specs.Draining.{HasGivenUp}
use Rattle.name_registry.specs.GettingLocal.{GetsLocal}
use Rattle.name_registry.specs.Locking.{is_inside, keeper_after_hear, keeper_after_tell}
use Rattle.name_registry.specs.Changes.{HasAttachedIfaceFor, HasReplacedIfaceFor, IsLookupNow, IsReplaceAnswer, IsReplaceRefusalOf, attach_iface_answer}

abbrev pub driver_key : Name → Key
driver_key name = record { kind = Driver; name = name }

-- a lookup that finds no driver
abbrev pub as_needed : Refusal → Refusal
as_needed NotFound = NeedsDriver
as_needed refusal = refusal

-- The reference is to the live driver with this name, or there is none.
abbrev pub IsOfDriver : OnKeeper → Name → Result ReferenceView Refusal → Type 0
IsOfDriver a driver (Ok v) = IsLookupNow a (driver_key driver) (Some v.entry)
IsOfDriver a driver (Err NotFound) = IsLookupNow a (driver_key driver) None
IsOfDriver a driver (Err _) = Unit {0}

-- The CPU hears the whole history, and gets a local reference by the driver's name; then the keeper hears it, so the CPU had seen no more than that. No
-- change is made, and the reference is to the driver that a lookup gives now.
pub record TakesDriver (a : OnKeeper) (x : OnCpu) (name : Name) (b : OnKeeper) (y : OnCpu) (r : Result ReferenceView Refusal) : Type 0 where
  pub heard : OnCpu
  pub hears : HasHeardOn a.view.history x heard
  pub got : OnCpu
  pub gets : GetsLocal (driver_key name) heard got r
  pub whole : got.view.pass ≡ a.view.history
  pub driver : IsOfDriver a name r
  pub keeper : b ≡ keeper_after_hear (keeper_after_tell a) got
  pub cpu : y ≡ cpu_after_tell got

-- The reference is released by the CPU's own count, and the keeper is as it was. Or that count was collected, and it is given up.
abbrev pub IsLetGoIn : OnKeeper → OnCpu → ReferenceView → OnKeeper → OnCpu → Type 0
IsLetGoIn a x v b y = (HasReleased x v y × (b ≡ a)) ⊎ ((back : ReferenceView) × HasComeBack x v y back × HasGivenUp a back b)

-- A change on the driver with this name, whose answer is r: of the keeper and the CPU as they took the driver, with the reference, P says what it does. Where there is
-- no reference, or no section for it, nothing is changed.
pub record OnDriver {X : Type 0} (a : OnKeeper) (x : OnCpu) (driver : Name) (b : OnKeeper) (y : OnCpu) (r : Result X Refusal)
    (P : OnKeeper → OnCpu → ReferenceView → Type 0) : Type 0 where
  pub keeper : OnKeeper
  pub cpu : OnCpu
  pub got : Result ReferenceView Refusal
  pub takes : TakesDriver a x driver keeper cpu got
  pub refused : (f : Refusal) → got ≡ Err f → (r ≡ Err (as_needed f)) × (b ≡ keeper) × (y ≡ cpu)
  pub taken : (v : ReferenceView) → got ≡ Ok v → P keeper cpu v

-- inside a section nothing is done
pub record NamesDriver {X : Type 0} (a : OnKeeper) (x : OnCpu) (driver : Name) (b : OnKeeper) (y : OnCpu) (r : Result X Refusal)
    (P : OnKeeper → OnCpu → ReferenceView → Type 0) : Type 0 where
  pub inside : is_inside x ≡ true → (r ≡ Err Inside) × (b ≡ a) × (y ≡ x)
  pub outside : is_inside x ≡ false → OnDriver a x driver b y r P

-- an attach that is refused lets the reference go, and attaches nothing
abbrev pub AttachesOn : Settings → Record → OnKeeper → OnCpu → Result Entry Refusal → OnKeeper → OnCpu → ReferenceView → Type 0
AttachesOn z rec b y (Ok e) k c v = (attach_iface_answer z k c rec v ≡ Ok e) × HasAttachedIfaceFor k c v e b y
AttachesOn z rec b y (Err f) k c v = (attach_iface_answer z k c rec v ≡ Err f) × IsLetGoIn k c v b y

abbrev pub AttachesByName : Settings → OnKeeper → OnCpu → Name → Record → OnKeeper → OnCpu → Result Entry Refusal → Type 0
AttachesByName z a x driver rec b y r = NamesDriver a x driver b y r (AttachesOn z rec b y r)

-- and so does a replacement
abbrev pub ReplacesOn : Settings → Key → ℕ → OnKeeper → OnCpu → Result (Entry × Entry) Refusal → OnKeeper → OnCpu → ReferenceView → Type 0
ReplacesOn z key value b y (Ok p) k c v = IsReplaceAnswer z k c (is_iface v.entry.rec.kind) key value (Ok p) × HasReplacedIfaceFor k c v p.0 p.1 b y
ReplacesOn z key value b y (Err f) k c v = IsReplaceRefusalOf z k c (is_iface v.entry.rec.kind) key f × IsLetGoIn k c v b y

abbrev pub ReplacesByName : Settings → OnKeeper → OnCpu → Name → Name → ℕ → OnKeeper → OnCpu → Result (Entry × Entry) Refusal → Type 0
ReplacesByName z a x driver name value b y r = NamesDriver a x driver b y r (ReplacesOn z (record { kind = Iface; name = name }) value b y r)
