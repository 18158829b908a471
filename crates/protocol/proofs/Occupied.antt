-- Slots and the entries in them, and how a written slot changes which numbers are occupied.
use Rattle.std.proofs.Common.{◌≡◌, ℕ, zero, suc, ◌+◌, ◌<◌, ◌≤◌, ◌⊎◌, inl, inr, List, [], ◌∷◌, length, get_or, set, cond, Bool, true, false, Some, None, position, refl, sym, ap, subst, ◌∙◌, arith, get_or-set_same, get_or-set_other}
use Rattle.std.proofs.lemmas.List.{get_or_past, set_past}
use Rattle.std.proofs.lemmas.List.Quantifiers.{position-Some}
use Rattle.std.proofs.lemmas.List.Recursion.{is_position_or_len}
use Rattle.std.proofs.lemmas.Bool.{cases_lt, cases_eq, eqb-true, eq-eqb, cond_below}
use Rattle.protocol.specs.Types.{Entry, Change, Slot, Vacant, Live, Retired}
use Rattle.registry_values.specs.Common.{slot_at, has_number, slot_of, is_vacant, is_retired}
use Rattle.protocol.specs.Common.{Due, Rest, IsAttached, at_rest, IsIn, Occupies, SlotsShow}
use Rattle.protocol.proofs.Either.{either}
use Rattle.protocol.proofs.History.{attached_within}

-- a place of a list after one is written
pub place_cases : {X : Type 0} (d : X) (xs : List X) (t : ℕ) (x : X) (u : ℕ) → t < length xs → ((u ≡ t) × (get_or (set xs t x) u d ≡ x)) ⊎ ((u ≡ t → ⊥) × (get_or (set xs t x) u d ≡ get_or xs u d))
place_cases {X} d xs t x u lt = grind (arith, get_or-set_same, get_or-set_other, cases_eq u t)

-- a place that shows more than the default is in the list
pub place_within : {X : Type 0} (d : X) (xs : List X) (t : ℕ) → (get_or xs t d ≡ d → ⊥) → t < length xs
place_within {X} d xs t off = either (cases_lt t (length xs)) (λ lt. lt) (λ ge. absurd (off (get_or_past xs t d ge)))

-- a write past the end changes nothing, so a written place shows what was written or what it did
pub written_cases : {X : Type 0} (d : X) (xs : List X) (t : ℕ) (x : X) (u : ℕ)
    → ((u ≡ t) × (get_or (set xs t x) u d ≡ x)) ⊎ (((u ≡ t → ⊥) ⊎ (length xs ≤ t)) × (get_or (set xs t x) u d ≡ get_or xs u d))
written_cases {X} d xs t x u = grind (arith, place_cases, set_past)

pub slot_cases : (slots : List Slot) (t : ℕ) (x : Slot) (u : ℕ) → t < length slots → ((u ≡ t) × (slot_at (set slots t x) u ≡ x)) ⊎ ((u ≡ t → ⊥) × (slot_at (set slots t x) u ≡ slot_at slots u))
slot_cases slots t x u lt = place_cases Vacant slots t x u lt

-- an entry in a slot that isn't the one written
pub in_other : (slots : List Slot) (t : ℕ) (x : Slot) (f : Entry) (u : ℕ) → (u ≡ t → ⊥) → IsIn f (slot_at slots u) → IsIn f (slot_at (set slots t x) u)
in_other slots t x f u off is = subst (IsIn f) (sym (get_or-set_other slots t u x Vacant off)) is

pub in_written : (slots : List Slot) (t : ℕ) (x : Slot) (f : Entry) → t < length slots → IsIn f x → IsIn f (slot_at (set slots t x) t)
in_written slots t x f lt is = subst (IsIn f) (sym (get_or-set_same slots t x Vacant lt)) is

pub not_vacant : (f : Entry) (x : Slot) → x ≡ Vacant → IsIn f x → ⊥
not_vacant f x vacant is = either is (λ live. let q : Live f ≡ Vacant = sym live ∙ vacant in cc) (λ gone. let q : Retired f ≡ Vacant = sym gone ∙ vacant in cc)

-- an occupied slot is in the list
pub in_within : (slots : List Slot) (t : ℕ) (e : Entry) → IsIn e (slot_at slots t) → t < length slots
in_within slots t e is = place_within Vacant slots t (λ v. not_vacant e (slot_at slots t) v is)

pub live_one : (f e : Entry) (x : Slot) → x ≡ Live e → IsIn f x → f ≡ e
live_one f e x at is = either is (λ live. let q : Live f ≡ Live e = sym live ∙ at in cc) (λ gone. absurd (let q : Retired f ≡ Live e = sym gone ∙ at in cc))

pub retired_one : (f e : Entry) (x : Slot) → x ≡ Retired e → IsIn f x → f ≡ e
retired_one f e x at is = either is (λ live. absurd (let q : Live f ≡ Retired e = sym live ∙ at in cc)) (λ gone. let q : Retired f ≡ Retired e = sym gone ∙ at in cc)

pub one_in : (f e : Entry) (x : Slot) → IsIn e x → IsIn f x → f ≡ e
one_in f e x at is = either at (λ live. live_one f e x live is) (λ gone. retired_one f e x gone is)

-- Which numbers stay occupied where one slot is written: those whose entry the new slot still has.
pub occupies_set : (slots : List Slot) (t : ℕ) (x : Slot) (n : ℕ) → t < length slots → ((f : Entry) → IsIn f (slot_at slots t) → f.number ≡ n → IsIn f x) → Occupies slots n
    → Occupies (set slots t x) n
occupies_set slots t x n lt stays was = (was.0, was.1, grind (arith, slot_cases slots t x was.0, stays was.1), was.3)

pub occupies_publish : (slots : List Slot) (t : ℕ) (x : Slot) (n : ℕ) → t < length slots → slot_at slots t ≡ Vacant → Occupies slots n → Occupies (set slots t x) n
occupies_publish slots t x n lt vacant was = occupies_set slots t x n lt (λ f is number. absurd (not_vacant f (slot_at slots t) vacant is)) was

pub occupies_unpublish : (slots : List Slot) (t : ℕ) (e : Entry) (n : ℕ) → slot_at slots t ≡ Live e → Occupies slots n → Occupies (set slots t (Retired e)) n
occupies_unpublish slots t e n at was = occupies_set slots t (Retired e) n (in_within slots t e (inl at))
    (λ f is number. inr (ap (λ (g : Entry). Retired g) (sym (live_one f e (slot_at slots t) at is)))) was

pub occupies_vacate : (slots : List Slot) (t : ℕ) (e : Entry) (n : ℕ) → slot_at slots t ≡ Retired e → (n ≡ e.number → ⊥) → Occupies slots n → Occupies (set slots t Vacant) n
occupies_vacate slots t e n at other was = occupies_set slots t Vacant n (in_within slots t e (inr at))
    (λ f is number. absurd (other (sym number ∙ ap (λ (g : Entry). g.number) (retired_one f e (slot_at slots t) at is)))) was

-- an entry of the new slots is the published one, or was there
pub in_published : (slots : List Slot) (t u : ℕ) (e f : Entry) → t < length slots → IsIn f (slot_at (set slots t (Live e)) u) → ((u ≡ t) × (f ≡ e)) ⊎ IsIn f (slot_at slots u)
in_published slots t u e f lt is = grind (arith, slot_cases, live_one)

pub in_unpublished : (slots : List Slot) (t u : ℕ) (e f : Entry) → slot_at slots t ≡ Live e → IsIn f (slot_at (set slots t (Retired e)) u) → IsIn f (slot_at slots u)
in_unpublished slots t u e f at is = grind (arith, slot_cases, in_within slots t e (inl at))

pub in_vacated : (slots : List Slot) (t u : ℕ) (e f : Entry) → slot_at slots t ≡ Retired e → IsIn f (slot_at (set slots t Vacant) u) → (u ≡ t → ⊥) × IsIn f (slot_at slots u)
in_vacated slots t u e f at is = grind (arith, slot_cases, in_within slots t e (inr at))

-- what a slot of the new list is that was retired and isn't the one written
pub retired_other : (slots : List Slot) (t u : ℕ) (x : Slot) (e : Entry) → slot_at slots u ≡ Retired e → (u ≡ t → ⊥) → slot_at (set slots t x) u ≡ Retired e
retired_other slots t u x e at off = get_or-set_other slots t u x Vacant off ∙ at

-- Numbers are unique.

pub attached_in : (h : List Change) (slots : List Slot) (t : ℕ) (e : Entry) → SlotsShow h slots → IsIn e (slot_at slots t) → IsAttached h e × (e.slot ≡ t)
attached_in h slots t e show is = either is (λ live. let was = show.live t e live in (was.0.attached, was.1)) (λ gone. let was = show.retired t e gone in (was.0, was.1))

-- two entries with one number are one, in one slot
pub one_number : (h : List Change) (slots : List Slot) (t u : ℕ) (e f : Entry) → SlotsShow h slots → IsIn e (slot_at slots t) → IsIn f (slot_at slots u) → f.number ≡ e.number → (u ≡ t) × (f ≡ e)
one_number h slots t u e f show is also same = grind (arith, attached_in)

-- no slot has a number above the length of the history
pub fresh_unoccupied : (h : List Change) (slots : List Slot) (n : ℕ) → SlotsShow h slots → length h < n → Occupies slots n → ⊥
fresh_unoccupied h slots n show above was = omega (arith, (attached_within h was.1 (attached_in h slots was.0 was.1 show was.2).0).1, was.3, above)

-- Which slot a number has.

pub number_in : (n : ℕ) (x : Slot) → has_number n x ≡ true → (e : Entry) × IsIn e x × (e.number ≡ n)
number_in n x has = grind (arith, eqb-true)

pub has_it : (n : ℕ) (e : Entry) (x : Slot) → IsIn e x → e.number ≡ n → has_number n x ≡ true
has_it n e x is number = either is (λ live. ap (has_number n) live ∙ eq-eqb e.number n number) (λ gone. ap (has_number n) gone ∙ eq-eqb e.number n number)

-- the slot that `slot_of` finds has the entry
pub slot_has : (slots : List Slot) (n t : ℕ) → slot_of slots n ≡ Some t → (t < length slots) × ((e : Entry) × IsIn e (slot_at slots t) × (e.number ≡ n))
slot_has slots n t found = grind (arith, position-Some, number_in)

pub slot_occupied : (slots : List Slot) (n t : ℕ) → slot_of slots n ≡ Some t → Occupies slots n
slot_occupied slots n t found =
    let has = slot_has slots n t found in
    (t, has.1.0, has.1.1, has.1.2)

abbrev first_at : {X : Type 0} (p : X → Bool) → List X → ℕ
first_at p [] = 0
first_at p (x ∷ xs) = cond (p x) 0 (1 + first_at p xs)

first_below : {X : Type 0} (p : X → Bool) (d : X) (xs : List X) (i : ℕ) → i < length xs → p (get_or xs i d) ≡ true → first_at p xs ≤ i
first_below p d [] i lt has = absurd (omega arith)
first_below p d (x ∷ xs) zero lt has = subst (λ (b : Bool). cond b 0 (1 + first_at p xs) ≤ zero) (sym has) (omega arith)
first_below p d (x ∷ xs) (suc i) lt has =
    let below : first_at p xs ≤ i = first_below p d xs i (omega arith) has in
    elim (p x) as (λ (b : Bool). cond b 0 (1 + first_at p xs) ≤ suc i) [ true ↦ omega arith | false ↦ omega (arith, below) ]

-- a test that passes somewhere has a first place
pub position_found : {X : Type 0} (p : X → Bool) (d : X) (xs : List X) (i : ℕ) → i < length xs → p (get_or xs i d) ≡ true → (j : ℕ) × (position p xs ≡ Some j)
position_found p d xs i lt has =
    let below = first_below p d xs i lt has in
    let same = is_position_or_len (first_at p) p refl (λ x ys. refl) xs in
    (_, sym (cond_below _ (length xs) (Some _) None (omega (arith, below, same))))

pub slot_found : (slots : List Slot) (n : ℕ) → Occupies slots n → (t : ℕ) × (slot_of slots n ≡ Some t)
slot_found slots n is = position_found (has_number n) Vacant slots is.0 (in_within slots is.0 is.1 is.2) (has_it n is.1 (slot_at slots is.0) is.2 is.3)

-- the slot that `slot_of` finds for an entry's number is its own
pub slot_its : (h : List Change) (slots : List Slot) (t u : ℕ) (e : Entry) → SlotsShow h slots → IsIn e (slot_at slots t) → slot_of slots e.number ≡ Some u → u ≡ t
slot_its h slots t u e show is found =
    let has = slot_has slots e.number u found in
    (one_number h slots t u e has.1.0 show is has.1.1 has.1.2).0

-- What tests of slots tell.

pub is_vacant_tells : (x : Slot) → is_vacant x ≡ true → x ≡ Vacant
is_vacant_tells x test = grind arith

pub is_retired_tells : (x : Slot) → is_retired x ≡ true → (e : Entry) × (x ≡ Retired e)
is_retired_tells x test = grind arith

pub at_rest_tells : (due : Due) → at_rest due ≡ true → due ≡ Rest
at_rest_tells due test = grind arith
