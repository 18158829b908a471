-- The live entry with the greatest rank below another and that with the least above it are found by one walk over the slots.
use Rattle.std.proofs.Common.{◌≡◌, inl, ⊎_elim, ℕ, zero, suc, ◌<◌, ◌≤◌, Bool, true, false, ◌&&◌, if◌then◌else◌, nat_lt, List, length, Option, Some, None, refl, sym, ap, ◌∙◌, subst, arith, Decides}
use Rattle.std.proofs.lemmas.Bool.{cases_eq, cases_lt}
use Rattle.std.proofs.lemmas.Bool.Decides.{Decides-and, Decides-ltb, not_from_Decides}
use Rattle.std.proofs.lemmas.List.{length-map}
use Rattle.std.proofs.Math.Numerals.{add-one}
use Rattle.passive_list.specs.Types.{Entry, Live}
use Rattle.registry_values.specs.Common.{is_live, slot_at}
use Rattle.protocol.proofs.Occupied.{in_within}
use Rattle.protocol.proofs.keeps.Linking.{live_entry}
use Rattle.cpu_words.specs.Common.{LeadsBelow, IsBefore, IsLinkPlace, To_end, To_slot}
use Rattle.passive_list.specs.Common.{KeptSlot, At, AreRanksOf, row_at, state_of, states_of, newer_of, older_of, link_to, place_of}
use Rattle.passive_list.specs.Publishing.{is_newer, is_older}
use Rattle.passive_list.proofs.Rows.{state_at}

-- of the first d slots
abbrev pub newest_to : List KeptSlot → ℕ → ℕ → Option At
newest_to rows n zero = None
newest_to rows n (suc d) = newer_of n d (newest_to rows n d) (row_at rows d)

abbrev pub oldest_to : List KeptSlot → ℕ → ℕ → Option At
oldest_to rows n zero = None
oldest_to rows n (suc d) = older_of n d (oldest_to rows n d) (row_at rows d)

-- x is below y, or, with `up`, above it
abbrev IsBelow : Bool → ℕ → ℕ → Type 0
IsBelow false x y = x < y
IsBelow true x y = y < x

-- nearer to the rank than what was found
abbrev IsBetter : Bool → ℕ → Option At → Type 0
IsBetter up x None = Unit
IsBetter up x (Some at) = IsBelow up at.rank x

abbrev IsFound : Bool → List KeptSlot → ℕ → Option At → Type 0
IsFound up rows n None = Unit
IsFound up rows n (Some at) = (f : Entry) × ((row_at rows at.slot).state ≡ Live f) × ((row_at rows at.slot).rank ≡ at.rank) × IsBelow up at.rank n

-- it is live and below n, and no live entry below n in the first d slots is better
abbrev IsBest : Bool → List KeptSlot → ℕ → ℕ → Option At → Type 0
IsBest up rows n d best =
    IsFound up rows n best × ((u : ℕ) (h : Entry) → u < d → (row_at rows u).state ≡ Live h → IsBelow up (row_at rows u).rank n → IsBetter up (row_at rows u).rank best → ⊥)

never : (up : Bool) (x : ℕ) → IsBelow up x x → ⊥
never false x lt = omega (arith, lt)
never true x lt = omega (arith, lt)

further : (up : Bool) (best : Option At) (x y : ℕ) → IsBetter up x best → IsBelow up x y → IsBetter up y best
further up None x y better lt = tt
further false (Some at) x y better lt = omega (arith, better, lt)
further true (Some at) x y better lt = omega (arith, better, lt)

-- one slot more

best_next : (up : Bool) (rows : List KeptSlot) (n d : ℕ) (best : Option At) (b : Bool)
    → Decides b ((is_live (row_at rows d).state ≡ true) × (IsBelow up (row_at rows d).rank n × IsBetter up (row_at rows d).rank best)) → IsBest up rows n d best
    → IsBest up rows n (suc d) (if b then Some (record { slot = d; rank = (row_at rows d).rank }) else best)
best_next up rows n d best true test had =
    let is = test.0 refl in
    let e = live_entry (row_at rows d).state is.0 in
    let none = λ (u : ℕ) (h : Entry) (lt : u < suc d) (live : (row_at rows u).state ≡ Live h) (below : IsBelow up (row_at rows u).rank n) (better : IsBelow up (row_at rows d).rank (row_at rows u).rank). ⊎_elim
    (λ (same : u ≡ d). never up (row_at rows d).rank (subst (λ (t : ℕ). IsBelow up (row_at rows d).rank (row_at rows t).rank) same better))
    (λ (off : u ≡ d → ⊥). had.1 u h (omega (arith, lt, off)) live below (further up best (row_at rows d).rank (row_at rows u).rank is.1.1 better))
    (cases_eq u d) in
    ((e.0, e.1, refl, is.1.0), none)
best_next up rows n d best false test had =
    let none = λ (u : ℕ) (h : Entry) (lt : u < suc d) (live : (row_at rows u).state ≡ Live h) (below : IsBelow up (row_at rows u).rank n) (better : IsBetter up (row_at rows u).rank best). ⊎_elim
    (λ (same : u ≡ d). not_from_Decides false test refl
    (subst (λ (t : ℕ). (is_live (row_at rows t).state ≡ true) × (IsBelow up (row_at rows t).rank n × IsBetter up (row_at rows t).rank best)) same (ap is_live live, (below, better))))
    (λ (off : u ≡ d → ⊥). had.1 u h (omega (arith, lt, off)) live below better)
    (cases_eq u d) in
    (had.0, none)

is_true : (b : Bool) → Decides b (b ≡ true)
is_true b = (λ is. is, λ is. is)

-- The newest below

newer_test : (x : ℕ) (best : Option At) → Decides (is_newer x best) (IsBetter false x best)
newer_test x None = (λ _. tt, λ _. refl)
newer_test x (Some at) = Decides-ltb at.rank x

newest_is : (rows : List KeptSlot) (n d : ℕ) → IsBest false rows n d (newest_to rows n d)
newest_is rows n zero = (tt, λ u h lt live below better. omega (arith, lt))
newest_is rows n (suc d) =
    let r = row_at rows d in
    let best = newest_to rows n d in
    best_next false rows n d best (is_live r.state && (nat_lt r.rank n && is_newer r.rank best)) (Decides-and (is_live r.state) (nat_lt r.rank n && is_newer r.rank best) (is_true (is_live r.state))
    (Decides-and (nat_lt r.rank n) (is_newer r.rank best) (Decides-ltb r.rank n) (newer_test r.rank best))) (newest_is rows n d)

-- a live slot is among them

live_within : (rows : List KeptSlot) (d : ℕ) → length rows ≡ d → (u : ℕ) (h : Entry) → slot_at (states_of rows) u ≡ Live h → u < d
live_within rows d size u h live = omega (arith, in_within (states_of rows) u h (inl live), length-map rows state_of, size)

-- what a slot's row shows is there
shown : (rows : List KeptSlot) (u : ℕ) (h : Entry) → slot_at (states_of rows) u ≡ Live h → (row_at rows u).state ≡ Live h
shown rows u h live = sym (state_at rows u) ∙ live

leads_from : (rows : List KeptSlot) (n d : ℕ) (best : Option At) (ranks : ℕ → ℕ) → length rows ≡ d → AreRanksOf ranks rows → IsBest false rows n d best → LeadsBelow ranks (states_of rows) n (link_to best)
leads_from rows n d None ranks size are had =
    To_end (λ u h live below. had.1 u h (live_within rows d size u h live) (shown rows u h live) (omega (arith, below, are u h (shown rows u h live))) tt)
leads_from rows n d (Some at) ranks size are had =
    let f = had.0.0 in
    let own : at.rank ≡ ranks f.number = sym had.0.2 ∙ are at.slot f had.0.1 in
    rw add-one (To_slot at.slot f (state_at rows at.slot ∙ had.0.1) (omega (arith, own, had.0.3)) (λ u h live below.
    let same = are u h (shown rows u h live) in
    ⊎_elim
    (λ (more : at.rank < (row_at rows u).rank). absurd (had.1 u h (live_within rows d size u h live) (shown rows u h live) (omega (arith, below, same)) more))
    (λ (le : (row_at rows u).rank ≤ at.rank). omega (arith, le, own, same))
    (cases_lt at.rank (row_at rows u).rank)))

pub newest_leads : (rows : List KeptSlot) (n d : ℕ) → length rows ≡ d → (ranks : ℕ → ℕ) → AreRanksOf ranks rows → LeadsBelow ranks (states_of rows) n (link_to (newest_to rows n d))
newest_leads rows n d size ranks are = leads_from rows n d (newest_to rows n d) ranks size are (newest_is rows n d)

-- The oldest above

older_test : (x : ℕ) (best : Option At) → Decides (is_older x best) (IsBetter true x best)
older_test x None = (λ _. tt, λ _. refl)
older_test x (Some at) = Decides-ltb x at.rank

oldest_is : (rows : List KeptSlot) (n d : ℕ) → IsBest true rows n d (oldest_to rows n d)
oldest_is rows n zero = (tt, λ u h lt live above better. omega (arith, lt))
oldest_is rows n (suc d) =
    let r = row_at rows d in
    let best = oldest_to rows n d in
    best_next true rows n d best (is_live r.state && (nat_lt n r.rank && is_older r.rank best)) (Decides-and (is_live r.state) (nat_lt n r.rank && is_older r.rank best) (is_true (is_live r.state))
    (Decides-and (nat_lt n r.rank) (is_older r.rank best) (Decides-ltb n r.rank) (older_test r.rank best))) (oldest_is rows n d)

before_from : (rows : List KeptSlot) (n d : ℕ) (best : Option At) (ranks : ℕ → ℕ) → length rows ≡ d → AreRanksOf ranks rows → IsBest true rows n d best → IsBefore ranks (states_of rows) n (place_of best)
before_from rows n d None ranks size are had = λ u h live. ⊎_elim
    (λ (lt : n < (row_at rows u).rank). absurd (had.1 u h (live_within rows d size u h live) (shown rows u h live) lt tt))
    (λ (le : (row_at rows u).rank ≤ n). omega (arith, le, are u h (shown rows u h live)))
    (cases_lt n (row_at rows u).rank)
before_from rows n d (Some at) ranks size are had =
    let f = had.0.0 in
    let own : at.rank ≡ ranks f.number = sym had.0.2 ∙ are at.slot f had.0.1 in
    let least : (u : ℕ) (h : Entry) → slot_at (states_of rows) u ≡ Live h → n < ranks h.number → ranks f.number ≤ ranks h.number = λ u h live above.
    let same = are u h (shown rows u h live) in
    ⊎_elim
    (λ (less : (row_at rows u).rank < at.rank). absurd (had.1 u h (live_within rows d size u h live) (shown rows u h live) (omega (arith, above, same)) less))
    (λ (ge : at.rank ≤ (row_at rows u).rank). omega (arith, ge, own, same))
    (cases_lt (row_at rows u).rank at.rank) in
    (f, state_at rows at.slot ∙ had.0.1, omega (arith, own, had.0.3), least)

place_from : (rows : List KeptSlot) (n d : ℕ) (best : Option At) → length rows ≡ d → IsFound true rows n best → IsLinkPlace d (place_of best)
place_from rows n d None size had = tt
place_from rows n d (Some at) size had = live_within rows d size at.slot had.0 (state_at rows at.slot ∙ had.1)

pub oldest_before : (rows : List KeptSlot) (n d : ℕ) → length rows ≡ d → (ranks : ℕ → ℕ) → AreRanksOf ranks rows → IsBefore ranks (states_of rows) n (place_of (oldest_to rows n d))
oldest_before rows n d size ranks are = before_from rows n d (oldest_to rows n d) ranks size are (oldest_is rows n d)

pub oldest_place : (rows : List KeptSlot) (n d : ℕ) → length rows ≡ d → IsLinkPlace d (place_of (oldest_to rows n d))
oldest_place rows n d size = place_from rows n d (oldest_to rows n d) size (oldest_is rows n d).0
