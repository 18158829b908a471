-- A retired interface is freed: the driver that its slot keeps has a row, the keeper may give it up, and what it has agrees with what its seat knows then.
use Rattle.std.proofs.Common.{◌≡◌, ℕ, ◌<◌, ◌-◌, List, set, replicate, Option, Some, None, refl, sym, ap, ◌∙◌, subst, arith, get_or-set_same, get_or-set_other, length-set, ◌≢◌, inr}
use Rattle.std.proofs.lemmas.List.Quantifiers.{position-Some}
use Rattle.passive_list.specs.Types.{Entry, Settings, Slot, Vacant, Retired, MOST_CPUS, KeeperView, Iface, Rest, LogItem}
use Rattle.registry_values.specs.Common.{slot_at, has_number, slot_of, bias}
use Rattle.protocol.specs.Common.{IsIn, DriversKept, total_at, kept_at}
use Rattle.protocol.proofs.Cells.{slot_here, slot_other, total_other}
use Rattle.protocol.proofs.keeps.Drivers.{kept_number}
use Rattle.protocol.proofs.Occupied.{has_it, not_vacant, number_in, one_number, position_found, slot_found, slot_has}
use Rattle.cpu_words.specs.Common.{IsShown, MayKeptSub, HasKeptSub, one_more}
use Rattle.cpu_words.proofs.by_keeper.KeeperSteps.{seen_by_keeper}
use Rattle.passive_list.specs.declared.keeper.KeptSlot.{KeptSlot}
use Rattle.passive_list.specs.Common.{row_at, states_of, IsAtRest, RowsAgree, IsOurKeeper, OnKeeper, no_row, state_of, total_or_bias, IsDrainedOn}
use Rattle.passive_list.proofs.Marks.{vacated_at_rest}
use Rattle.passive_list.proofs.Rows.{state_at, keeper_on, row_stays, rows_set, taken_in, retired_in, IsHeldIn, held_by_slot}
use Rattle.local_count.specs.Draining.{place_of, kept_slot}
use Rattle.local_count.proofs.GivenUp.{HeldRow, held_row, row_less, less, less_rows}

-- The driver's row

-- the row that shows the number has its entry, which is in that slot
place_told : (a : Settings) (k : KeeperView) (rows : List KeptSlot) (n u : ℕ) → RowsAgree a k rows → place_of n rows ≡ Some u → (e : Entry) × IsIn e (slot_at k.slots u) × (e.number ≡ n)
place_told a k rows n u agree found =
    let at = position-Some (λ (r : KeptSlot). has_number n (state_of r)) rows u no_row found in
    let x = (row_at rows u).state in
    let has = number_in n x at.1 in
    let off : x ≡ Vacant → ⊥ = λ v. not_vacant has.0 x v has.1 in
    let here = taken_in a k rows u x agree (state_at rows u) off in
    (has.0, subst (IsIn has.0) (sym here.1) has.1, has.2)

-- a number has one slot
one_slot : (k : KeeperView) (t u : ℕ) (e f : Entry) → IsShown k → IsIn e (slot_at k.slots t) → IsIn f (slot_at k.slots u) → f.number ≡ e.number → u ≡ t
one_slot k t u e f is_shown is also same =
    let g = is_shown.g in
    let slots : k.slots ≡ g.slots = (seen_by_keeper g k is_shown.good is_shown.shown).slots in
    (one_number g.history g.slots t u e f is_shown.good.holds.slots (subst (λ (x : List Slot). IsIn e (slot_at x t)) slots is) (subst (λ (x : List Slot). IsIn f (slot_at x u)) slots also) same).0

-- the row of what is held shows its number
held_place : (a : Settings) (k : KeeperView) (rows : List KeptSlot) (u : ℕ) (f : Entry) → IsShown k → RowsAgree a k rows → HeldRow a k rows u → IsIn f (slot_at k.slots u)
    → place_of f.number rows ≡ Some u
held_place a k rows u f is_shown agree row is =
    let found = position_found (λ (r : KeptSlot). has_number f.number (state_of r)) no_row rows u (omega (arith, row.slot, agree.size))
    (has_it f.number f (row_at rows u).state (subst (IsIn f) (sym row.shown) is) refl) in
    let shown = place_told a k rows f.number found.0 agree found.1 in
    found.1 ∙ ap (λ (j : ℕ). Some j) (one_slot k u found.0 f shown.0 is_shown is shown.1 shown.2)

-- the slot t keeps the driver d, which is in the slot u
pub record KeepsHeld (k : KeeperView) (t u : ℕ) : Type 0 where
  pub d : ℕ
  pub kept : kept_at k.keeps t ≡ Some d
  pub of : slot_of k.slots d ≡ Some u
  pub other : u ≢ t
  pub held : IsHeldIn k u

-- and the row of u shows the driver f
record KeepsShown (k : KeeperView) (t u : ℕ) : Type 0 where
  keeps : KeepsHeld k t u
  f : Entry
  here : IsIn f (slot_at k.slots u)
  number : f.number ≡ keeps.d

keeps_shown : (k : KeeperView) (t : ℕ) (e : Entry) → IsShown k → k.due ≡ Rest → slot_at k.slots t ≡ Retired e → e.rec.kind ≡ Iface → (u : ℕ) × KeepsShown k t u
keeps_shown k t e is_shown rest retired kind =
    let g = is_shown.g in
    let seen = seen_by_keeper g k is_shown.good is_shown.shown in
    let keeps : DriversKept k.slots k.keeps = subst (λ (x : List Slot). DriversKept x k.keeps) (sym seen.slots) (subst (DriversKept g.slots) (sym seen.keeps) is_shown.good.holds.kept_drivers) in
    let it = kept_number k.slots k.keeps t e keeps (inr retired) kind in
    let found = slot_found k.slots it.0 (it.2.0, it.2.1, it.2.2, it.2.3) in
    let has = (slot_has k.slots it.0 found.0 found.1).1 in
    let of : slot_of k.slots it.0 ≡ Some it.2.0 = found.1 ∙ ap (λ (j : ℕ). Some j) (one_slot k it.2.0 found.0 it.2.1 has.0 is_shown it.2.2 has.1 (has.2 ∙ sym it.2.3)) in (
      it.2.0,
      record {
        keeps = record { d = it.0; kept = it.1; of = of; other = it.2.5; held = held_by_slot k t it.0 it.2.0 is_shown rest it.1 of };
        f = it.2.1;
        here = it.2.2;
        number = it.2.3;
      },
    )

-- the interface, as the caller has it
abbrev IsIface : OnKeeper → ℕ → Type 0
IsIface x t = (e : Entry) × (slot_at x.slots t ≡ Retired e) × (e.rec.kind ≡ Iface)

-- so the slot is found by the rows
pub keeps_on : {log : List LogItem} (a : Settings) (k : KeeperView) (rows : List KeptSlot) (n t : ℕ) (x : OnKeeper) → IsOurKeeper a k rows n
    → record { view = k; slots = states_of rows; log = log } ≡ x → IsIface x t
    → (u : ℕ) × (kept_slot (row_at rows t).keeps rows ≡ Some u) × KeepsHeld k t u
keeps_on a k rows n t x our is iface =
    let retired = retired_in a k rows t iface.0 our.rows (ap (λ (y : OnKeeper). slot_at y.slots t) is ∙ iface.1) in
    let it = keeps_shown k t iface.0 our.is_shown our.view.rest retired.1 iface.2 in
    let s = it.1 in (
      it.0,
      ap (λ (o : Option ℕ). kept_slot o rows) ((our.rows.each t retired.0).keeps ∙ s.keeps.kept)
          ∙ (ap (λ (m : ℕ). place_of m rows) (sym s.number) ∙ held_place a k rows it.0 s.f our.is_shown our.rows (held_row a k rows it.0 our.view our.rows s.keeps.held) s.here),
      s.keeps,
    )

-- and the keeper may give the driver up
pub may_free : {log : List LogItem} (a : Settings) (k : KeeperView) (rows : List KeptSlot) (n t u : ℕ) (x : OnKeeper) → IsOurKeeper a k rows n
    → record { view = k; slots = states_of rows; log = log } ≡ x → IsIface x t
    → IsDrainedOn x t → KeepsHeld k t u → MayKeptSub k t u
may_free a k rows n t u x our is iface drained keeps =
    let d = (subst (λ (y : OnKeeper). IsDrainedOn y t) (sym is) drained).drained in
    let retired = retired_in a k rows t iface.0 our.rows (ap (λ (y : OnKeeper). slot_at y.slots t) is ∙ iface.1) in
    let one : d.retired.0 ≡ iface.0 = let q : Retired d.retired.0 ≡ Retired iface.0 = sym d.retired.1 ∙ retired.1 in cc in
    record {
      drained = d;
      kind = ap (λ (f : Entry). f.rec.kind) one ∙ iface.2;
      kept = (keeps.d, (keeps.kept, keeps.of));
    }

-- The view after it

abbrev pub freed : KeeperView → ℕ → ℕ → ℕ → KeeperView
freed k t d u = record k {
  totals = set k.totals u (total_at k.totals u - 1);
  slots = set k.slots t Vacant;
  keeps = set k.keeps t None;
  counts = set k.counts t (replicate MOST_CPUS 0);
  given_up = one_more k.given_up d;
}

-- what the step tells
pub freed_is : (k l : KeeperView) (t d u : ℕ) → kept_at k.keeps t ≡ Some d → HasKeptSub k t u l → l ≡ freed k t d u
freed_is k l t d u kept told = told.2 ∙ ap (λ (n : ℕ). freed k t n u) (let q : ◌≡◌ {A = Option ℕ} (Some told.0) (Some d) = sym told.1.0 ∙ kept in cc)

abbrev pub row_freed : KeptSlot → KeptSlot
row_freed r = record { state = Vacant; total = r.total; keeps = None; rank = r.rank }

-- the total of the driver is one less, and then the slot is vacant
freed_rows : (a : Settings) (k : KeeperView) (rows : List KeptSlot) (t d u v : ℕ) → IsAtRest a k → RowsAgree a k rows → IsHeldIn k u → u ≢ t → t < a.slots → total_at k.totals t ≡ bias → v ≡ total_or_bias (row_at rows u)
    → RowsAgree a (freed k t d u) (set (set rows u (row_less (row_at rows u) v)) t (row_freed (row_at rows t)))
freed_rows a k rows t d u v at agree held off lt total read =
    let m = less k u k.given_up in
    let rows' = set rows u (row_less (row_at rows u) v) in
    let had = agree.each t lt in
    rows_set a m (freed k t d u) rows' t (row_freed (row_at rows t)) lt (less_rows a k rows u v k.given_up at agree (held_row a k rows u at agree held) read)
    record {
      state = slot_here k.slots t Vacant (omega (arith, lt, at.sized.slots));
      total = had.total ∙ sym (total_other k.totals u _ t (λ same. off (sym same)));
      keeps = sym (get_or-set_same k.keeps t None None (omega (arith, lt, at.sized.keeps)));
      unused = λ vacant. had.total ∙ total;
      rank = λ e is. cc;
    }
    (λ w other was. row_stays m (freed k t d u) w (row_at rows' w) (slot_other k.slots t Vacant w other) refl (get_or-set_other k.keeps t w None None other) (λ e is. refl) was)

pub freed_keeper : {log : List LogItem} (a : Settings) (k l : KeeperView) (rows : List KeptSlot) (n t u v : ℕ) (x : OnKeeper) → IsOurKeeper a k rows n
    → record { view = k; slots = states_of rows; log = log } ≡ x → IsDrainedOn x t → KeepsHeld k t u
    → HasKeptSub k t u l → IsShown l → v ≡ total_or_bias (row_at rows u) → IsOurKeeper a l (set (set rows u (row_less (row_at rows u) v)) t (row_freed (row_at rows t))) n
freed_keeper a k l rows n t u v x our is drained keeps told is_shown read =
    let d = subst (λ (y : OnKeeper). IsDrainedOn y t) (sym is) drained in
    let here = retired_in a k rows t d.retired.0 our.rows d.retired.1 in
    keeper_on a l (freed k t keeps.d u) (set (set rows u (row_less (row_at rows u) v)) t (row_freed (row_at rows t))) n (freed_is k l t keeps.d u keeps.kept told) is_shown
    (assumption (vacated_at_rest a k t d.retired.0 our.view here.0 here.1, length-set k.keeps t None ∙ our.view.sized.keeps, length-set k.totals u (total_at k.totals u - 1) ∙ our.view.sized.totals))
    our.changes (freed_rows a k rows t keeps.d u v our.view our.rows keeps.held keeps.other here.0 d.drained.total read)
