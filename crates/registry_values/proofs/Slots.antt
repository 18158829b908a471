-- What a test of a slot or of a key tells, and the least number that passes a test.
use Rattle.std.proofs.Common.{◌≡◌, ℕ, zero, suc, ◌<◌, ◌≤◌, ⊎_elim, Option, Some, None, Bool, true, false, refl, sym, ap, ◌∙◌, arith, List, length, nat_eq, eqb-true}
use Rattle.std.specs.Prelude.{is_some}
use Rattle.std.proofs.lemmas.Bool.{cases_lt, eq-eqb, and_parts}
use Rattle.std.proofs.lemmas.Option.{none-some}
use Rattle.std.proofs.lemmas.List.Quantifiers.{position-Some}
use Rattle.registry_values.specs.Common.{least_below, or_next, Entry, Slot, Vacant, Live, Retired, is_retired_as, retired_slot, slot_at, key_of, is_live_as, same_key, same_kind, same_name, Kind, Iface, Driver, Key}

pub none_below : (p : ℕ → Bool) (n : ℕ) → ((d : ℕ) → d < n → p d ≡ false) → least_below p n ≡ None
none_below p zero all = refl
none_below p (suc n) all = rw (none_below p n (λ d lt. all d (omega arith)), all n (omega arith)) refl

pub least_is : (p : ℕ → Bool) (c n : ℕ) → c < n → p c ≡ true → ((d : ℕ) → d < c → p d ≡ false) → least_below p n ≡ Some c
least_is p c zero lt is all = absurd (omega arith)
least_is p c (suc n) lt is all = ⊎_elim
    (λ (low : c < n). rw (least_is p c n low is all) refl)
    (λ (ge : n ≤ c).
    let same : c ≡ n = omega arith in
    let here : p n ≡ true = ap p (sym same) ∙ is in
    rw (none_below p n (λ d below. all d (omega arith)), here) (ap (λ (k : ℕ). Some k) (sym same)))
    (cases_lt c n)

pub none_is : {X : Type 0} (o : Option X) → is_some o ≡ false → o ≡ None
none_is None is = refl
none_is (Some x) is = absurd (let q : ◌≡◌ {A = Bool} true false = is in cc)

-- the least that passes one test passes another that agrees below the bound
pub least_agrees : (p q : ℕ → Bool) (n : ℕ) → ((c : ℕ) → c < n → p c ≡ q c) → least_below p n ≡ least_below q n
least_agrees p q zero same = refl
least_agrees p q (suc n) same = rw (least_agrees p q n (λ c lt. same c (omega arith)), same n (omega arith)) refl

next_none : (o : Option ℕ) (b : Bool) (n : ℕ) → or_next o b n ≡ None → (o ≡ None) × (b ≡ false)
next_none (Some c) b n is = absurd (none-some c (sym is))
next_none None true n is = absurd (none-some n (sym is))
next_none None false n is = (refl, refl)

-- where none was found, none passes
pub least_none : (p : ℕ → Bool) (n : ℕ) → least_below p n ≡ None → (c : ℕ) → c < n → p c ≡ false
least_none p zero is c lt = absurd (omega arith)
least_none p (suc n) is c lt =
    let parts = next_none (least_below p n) (p n) n is in
    ⊎_elim
    (λ (low : c < n). least_none p n parts.0 c low)
    (λ (ge : n ≤ c). let same : c ≡ n = omega (arith, lt, ge) in ap p same ∙ parts.1)
    (cases_lt c n)

-- What a test of a slot or of a key tells.

retired_as : (n : ℕ) (x : Slot) → is_retired_as n x ≡ true → (e : Entry) × (x ≡ Retired e) × (e.number ≡ n)
retired_as n Vacant is = absurd (let q : ◌≡◌ {A = Bool} false true = is in cc)
retired_as n (Live e) is = absurd (let q : ◌≡◌ {A = Bool} false true = is in cc)
retired_as n (Retired e) is = (e, refl, eqb-true e.number n is)

pub retired_slot_tells : (slots : List Slot) (n t : ℕ) → retired_slot slots n ≡ Some t → (t < length slots) × ((e : Entry) × (slot_at slots t ≡ Retired e) × (e.number ≡ n))
retired_slot_tells slots n t is =
    let at = position-Some (is_retired_as n) slots t Vacant is in
    (at.0, retired_as n (slot_at slots t) at.1)

kind_from : (a b : Kind) → same_kind a b ≡ true → a ≡ b
kind_from Iface Iface is = refl
kind_from Iface Driver is = absurd (let q : ◌≡◌ {A = Bool} false true = is in cc)
kind_from Driver Iface is = absurd (let q : ◌≡◌ {A = Bool} false true = is in cc)
kind_from Driver Driver is = refl

kind_same : (a : Kind) → same_kind a a ≡ true
kind_same Iface = refl
kind_same Driver = refl

pub key_from : (a b : Key) → same_key a b ≡ true → a ≡ b
key_from a b is =
    let p = and_parts (same_kind a.kind b.kind) (same_name a.name b.name) is in
    let n = and_parts (nat_eq a.name.high b.name.high) (nat_eq a.name.low b.name.low) p.1 in
    let kind : a.kind ≡ b.kind = kind_from a.kind b.kind p.0 in
    let high : a.name.high ≡ b.name.high = eqb-true a.name.high b.name.high n.0 in
    let low : a.name.low ≡ b.name.low = eqb-true a.name.low b.name.low n.1 in
    λ i. record { kind = kind i; name = record { high = high i; low = low i } }

pub key_same : (a : Key) → same_key a a ≡ true
key_same a = rw (kind_same a.kind, eq-eqb a.name.high a.name.high refl, eq-eqb a.name.low a.name.low refl) refl

pub live_tells : (key : Key) (x : Slot) → is_live_as key x ≡ true → (e : Entry) × (x ≡ Live e) × (key_of e ≡ key)
live_tells key Vacant is = absurd (let q : ◌≡◌ {A = Bool} false true = is in cc)
live_tells key (Live e) is = (e, refl, key_from (key_of e) key is)
live_tells key (Retired e) is = absurd (let q : ◌≡◌ {A = Bool} false true = is in cc)
