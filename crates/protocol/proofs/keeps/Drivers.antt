-- Each event keeps what is so of kept drivers.
use Rattle.std.proofs.Common.{◌≡◌, ℕ, ◌<◌, inl, inr, List, length, set, replicate, true, Option, Some, None, sym, ap, subst, ◌∙◌, get_or-set_other, arith}
use Rattle.std.proofs.lemmas.Bool.{cases_eq}
use Rattle.protocol.specs.Types.{Kind, Iface, Driver, Entry, Change, Slot, Vacant, Live, Retired}
use Rattle.protocol.specs.Common.{Hand, LocalPlace, Due, kept_at, keeps_rightly, is_driver_slot, IsIn, SlotsShow, held_at, DriversKept}
use Rattle.registry_values.specs.Common.{slot_at, slot_of, is_driver}
use Rattle.protocol.proofs.Occupied.{written_cases, in_other, in_written, in_within, not_vacant, live_one, retired_one, one_in, in_published, in_unpublished, in_vacated, one_number, slot_has}
use Rattle.protocol.proofs.counts.Sums.{Unreferred, unreferred}
use Rattle.protocol.proofs.Cells.{get_or_all}
use Rattle.protocol.proofs.Either.{either}

-- the driver d has its slot
abbrev pub HasDriver : List Slot → ℕ → Type 0
HasDriver slots d = (u : ℕ) × (e : Entry) × IsIn e (slot_at slots u) × (e.number ≡ d) × (e.rec.kind ≡ Driver)

-- Which drivers stay where one slot is written: those that the new slot still has.
pub has_driver_set : (slots : List Slot) (t : ℕ) (x : Slot) (d : ℕ) → t < length slots → ((f : Entry) → IsIn f (slot_at slots t) → f.number ≡ d → f.rec.kind ≡ Driver → IsIn f x) → HasDriver slots d
    → HasDriver (set slots t x) d
has_driver_set slots t x d lt stays was = either (cases_eq was.0 t)
    (λ same. (t, was.1, in_written slots t x was.1 lt (stays was.1 (subst (λ (k : ℕ). IsIn was.1 (slot_at slots k)) same was.2) was.3 was.4), was.3, was.4))
    (λ off. (was.0, was.1, in_other slots t x was.1 was.0 off was.2, was.3, was.4))

pub drivers_publish : (slots : List Slot) (keeps : List (Option ℕ)) (t : ℕ) (e : Entry) → t < length slots → slot_at slots t ≡ Vacant → keeps_rightly (kept_at keeps t) e.rec.kind ≡ true
    → DriversKept slots keeps → DriversKept (set slots t (Live e)) keeps
drivers_publish slots keeps t e lt vacant right kept = record {
  rightly = λ u f is. grind (arith, in_published slots t u e f lt is, kept.rightly u f, right);
  drivers = λ u d at. has_driver_set slots t (Live e) d lt (λ f is number kind. absurd (not_vacant f (slot_at slots t) vacant is)) (kept.drivers u d at);
}

pub drivers_unpublish : (slots : List Slot) (keeps : List (Option ℕ)) (t : ℕ) (e : Entry) → slot_at slots t ≡ Live e → DriversKept slots keeps → DriversKept (set slots t (Retired e)) keeps
drivers_unpublish slots keeps t e at kept = record {
  rightly = λ u f is. kept.rightly u f (in_unpublished slots t u e f at is);
  drivers = λ u d holds. has_driver_set slots t (Retired e) d (in_within slots t e (inl at))
      (λ f is number kind. inr (ap (λ (g : Entry). Retired g) (sym (live_one f e (slot_at slots t) at is)))) (kept.drivers u d holds);
}

-- no slot keeps the entry whose slot becomes vacant
drivers_unkept : (slots : List Slot) (keeps : List (Option ℕ)) (t : ℕ) (e : Entry) → slot_at slots t ≡ Retired e → ((u : ℕ) → kept_at keeps u ≡ Some e.number → ⊥) → DriversKept slots keeps
    → DriversKept (set slots t Vacant) keeps
drivers_unkept slots keeps t e at none kept = record {
  rightly = λ u f is. kept.rightly u f (in_vacated slots t u e f at is).1;
  drivers = λ u d holds. has_driver_set slots t Vacant d (in_within slots t e (inr at))
      (λ f is number kind. absurd (none u (holds ∙ ap (λ (k : ℕ). Some k) (sym number ∙ ap (λ (g : Entry). g.number) (retired_one f e (slot_at slots t) at is)))))
      (kept.drivers u d holds);
}

pub drivers_vacate : (slots : List Slot) (hands : List Hand) (keeps : List (Option ℕ)) (due : Due) (locals : List LocalPlace) (t : ℕ) (e : Entry) → slot_at slots t ≡ Retired e
    → held_at locals hands keeps due e.number t ≡ 0
    → DriversKept slots keeps → DriversKept (set slots t Vacant) keeps
drivers_vacate slots hands keeps due locals t e at none kept =
    let free : Unreferred locals hands keeps e.number = unreferred locals hands keeps due e.number t none in
    drivers_unkept slots keeps t e at free.unkept kept

-- a kept reference goes with its slot
pub drivers_kept_sub : (slots : List Slot) (hands : List Hand) (keeps : List (Option ℕ)) (due : Due) (locals : List LocalPlace) (t : ℕ) (e : Entry) → slot_at slots t ≡ Retired e
    → held_at locals hands keeps due e.number t ≡ 0
    → DriversKept slots keeps → DriversKept (set slots t Vacant) (set keeps t None)
drivers_kept_sub slots hands keeps due locals t e at none kept =
    let gone : DriversKept (set slots t Vacant) keeps = drivers_vacate slots hands keeps due locals t e at none kept in
    record {
      rightly = λ u f is. grind (arith, in_vacated slots t u e f at is, gone.rightly u f is, get_or-set_other keeps t u None None);
      drivers = grind (arith, written_cases);
    }

-- What keeps and what is kept.

rightly_none : (k : Option ℕ) → keeps_rightly k Driver ≡ true → k ≡ None
rightly_none k right = grind arith

pub rightly_some : (k : Option ℕ) → keeps_rightly k Iface ≡ true → (d : ℕ) × (k ≡ Some d)
rightly_some k right = grind arith

pub driver_keeps_none : (slots : List Slot) (keeps : List (Option ℕ)) (t : ℕ) (e : Entry) → DriversKept slots keeps → IsIn e (slot_at slots t) → e.rec.kind ≡ Driver → kept_at keeps t ≡ None
driver_keeps_none slots keeps t e kept is kind = rightly_none (kept_at keeps t) (subst (λ (k : Kind). keeps_rightly (kept_at keeps t) k ≡ true) kind (kept.rightly t e is))

-- what an occupied slot keeps has another slot
pub kept_elsewhere : (slots : List Slot) (keeps : List (Option ℕ)) (t d : ℕ) (e : Entry) → DriversKept slots keeps → IsIn e (slot_at slots t) → kept_at keeps t ≡ Some d
    → (u : ℕ) × (f : Entry) × IsIn f (slot_at slots u) × (f.number ≡ d) × (f.rec.kind ≡ Driver) × (u ≡ t → ⊥)
kept_elsewhere slots keeps t d e kept is at =
    let has : HasDriver slots d = kept.drivers t d at in (has.0, has.1, has.2, has.3, has.4, λ same. grind (arith, driver_keeps_none slots keeps t has.1 kept, has))

-- an interface keeps a driver, which has another slot
pub kept_number : (slots : List Slot) (keeps : List (Option ℕ)) (t : ℕ) (e : Entry) → DriversKept slots keeps → IsIn e (slot_at slots t) → e.rec.kind ≡ Iface
    → (d : ℕ) × (kept_at keeps t ≡ Some d) × ((u : ℕ) × (f : Entry) × IsIn f (slot_at slots u) × (f.number ≡ d) × (f.rec.kind ≡ Driver) × (u ≡ t → ⊥))
kept_number slots keeps t e kept is kind =
    let some = rightly_some (kept_at keeps t) (subst (λ (k : Kind). keeps_rightly (kept_at keeps t) k ≡ true) kind (kept.rightly t e is)) in
    (some.0, some.1, kept_elsewhere slots keeps t some.0 e kept is some.1)

-- the slot that `slot_of` finds for what an occupied slot keeps holds a driver, and is another
pub kept_found : (h : List Change) (slots : List Slot) (keeps : List (Option ℕ)) (t d u : ℕ) (e : Entry) → SlotsShow h slots → DriversKept slots keeps → IsIn e (slot_at slots t)
    → kept_at keeps t ≡ Some d → slot_of slots d ≡ Some u
    → (f : Entry) × IsIn f (slot_at slots u) × (f.number ≡ d) × (f.rec.kind ≡ Driver) × (u ≡ t → ⊥)
kept_found h slots keeps t d u e show kept is at found =
    let has = slot_has slots d u found in
    let other = kept_elsewhere slots keeps t d e kept is at in
    let one : (u ≡ other.0) × (has.1.0 ≡ other.1) = one_number h slots other.0 u other.1 has.1.0 show other.2 has.1.1 (has.1.2 ∙ sym other.3) in
    (has.1.0, has.1.1, has.1.2, ap (λ (g : Entry). g.rec.kind) one.1 ∙ other.4, λ same. other.5 (sym one.0 ∙ same))

-- Keep

pub is_driver_tells : (k : Kind) → is_driver k ≡ true → k ≡ Driver
is_driver_tells k test = grind arith

pub driver_slot_tells : (x : Slot) → is_driver_slot x ≡ true → (e : Entry) × IsIn e x × (e.rec.kind ≡ Driver)
driver_slot_tells x test = grind (arith, is_driver_tells)

-- the slot of n holds a driver
pub slot_has_driver : (slots : List Slot) (n u : ℕ) → slot_of slots n ≡ Some u → is_driver_slot (slot_at slots u) ≡ true → HasDriver slots n
slot_has_driver slots n u found test =
    let has = slot_has slots n u found in
    let is = driver_slot_tells (slot_at slots u) test in
    let one : is.0 ≡ has.1.0 = one_in is.0 has.1.0 (slot_at slots u) has.1.1 is.1 in
    (u, is.0, is.1, ap (λ (g : Entry). g.number) one ∙ has.1.2, is.2)

pub drivers_keep : (slots : List Slot) (keeps : List (Option ℕ)) (t n u : ℕ) → slot_at slots t ≡ Vacant → slot_of slots n ≡ Some u → is_driver_slot (slot_at slots u) ≡ true → DriversKept slots keeps
    → DriversKept slots (set keeps t (Some n))
drivers_keep slots keeps t n u vacant found test kept = record {
  rightly = grind (arith, not_vacant, get_or-set_other);
  drivers = λ v d holds. either (written_cases None keeps t (Some n) v)
      (λ here.
      let same : n ≡ d = (let q : ◌≡◌ {A = Option ℕ} (Some n) (Some d) = sym here.1 ∙ holds in cc) in
      subst (HasDriver slots) same (slot_has_driver slots n u found test))
      (λ other. kept.drivers v d (sym other.1 ∙ holds));
}

pub drivers_opening : (slots others : ℕ) → DriversKept (replicate slots Vacant) (replicate others None)
drivers_opening slots others = grind (arith, not_vacant, get_or_all)
