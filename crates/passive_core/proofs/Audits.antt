-- What an audit rests on.
use Rattle.std.proofs.Common.{◌≡◌, ℕ, zero, suc, ◌+◌, ◌*◌, ◌^◌, ◌<◌, ◌≤◌, ◌⊎◌, inl, inr, ⊎_elim, ℤ, pos, ◌+ℤ◌, ◌≤ℤ◌, neg_ℤ, List, [], ◌∷◌, ◌++◌, length, get_or, map, take, fold, refl, sym, ap, subst, ◌∙◌, add-one, arith, sum_by, Bool, true, ne_eqb}
use Rattle.std.specs.Prelude.{if◌then◌else◌}
use Rattle.std.specs.List.{All}
use Rattle.std.proofs.lemmas.Int.{ints}
use Rattle.std.proofs.lemmas.List.{append-nil, map-append, take_more}
use Rattle.std.proofs.lemmas.List.Elements.{All-cons, All-head, All-nil, All-tail}
use Rattle.std.proofs.lemmas.List.Sums.{sum_by-cons}
use Rattle.passive_core.specs.Types.{MOST_CPUS, Balance, Entry, Slot, Vacant, Live, Retired}
use Rattle.protocol.specs.Common.{State, count_at, mark_at, total_at, at_rest, Holds, IsCounting, IsIn, addition_due_at, greatest_limit, is_adding_at, itself, one_if_used}
use Rattle.registry_values.specs.Common.{bias, Tally, less_bias, local_of, sum_of, tally_shown, slot_at}
use Rattle.passive_core.specs.Common.{IsHeldRightly, audit_of, locals_at, tallies_at, tallies_below, tally_of}
use Rattle.protocol.proofs.counts.Bounds.{total_at_rest, word_ceiling, word_floor}
use Rattle.protocol.proofs.keeps.CountKeeps.{fit_of}
use Rattle.protocol.proofs.counts.Counts.{counting_cases}
use Rattle.registry_values.proofs.Fit.{ranges}
use Rattle.protocol.proofs.Occupied.{at_rest_tells, in_within}

-- The sum of what the words say.

local_some : (w : ℕ) → local_of (suc w) ≡ less_bias (suc w)
local_some w = ap (λ (b : Bool). if b then pos 0 else less_bias (suc w)) (ne_eqb (suc w) 0 (λ no_words. absurd (omega (arith, no_words))))

fold_locals : (row : List ℕ) (a : ℤ) → fold ◌+ℤ◌ a (map local_of row) +ℤ pos (bias * sum_by one_if_used row) ≡ a +ℤ pos (sum_by itself row)
fold_locals [] a = omega (arith, ints)
fold_locals (zero ∷ row) a =
    let first : fold ◌+ℤ◌ a (map local_of (0 ∷ row)) ≡ fold ◌+ℤ◌ (a +ℤ pos 0) (map local_of row) = refl in
    omega (arith, ints, first, fold_locals row (a +ℤ pos 0), sum_by-cons one_if_used 0 row, sum_by-cons itself 0 row)
fold_locals (suc w ∷ row) a =
    let first : fold ◌+ℤ◌ a (map local_of (suc w ∷ row)) ≡ fold ◌+ℤ◌ (a +ℤ less_bias (suc w)) (map local_of row) = ap (λ (z : ℤ). fold ◌+ℤ◌ (a +ℤ z) (map local_of row)) (local_some w) in
    omega (arith, ints, first, fold_locals row (a +ℤ less_bias (suc w)), sum_by-cons one_if_used (suc w) row, sum_by-cons itself (suc w) row)

sum_none : (f : ℕ → ℕ) → f 0 ≡ 0 → (row : List ℕ) → ((k : ℕ) → get_or row k 0 ≡ 0) → sum_by f row ≡ 0
sum_none f none [] each = refl
sum_none f none (w ∷ row) each = omega (arith, sum_by-cons f w row, ap f (each 0), none, sum_none f none row (λ k. each (suc k)))

-- the words past the last CPU are 0
sum_taken : (f : ℕ → ℕ) → f 0 ≡ 0 → (n : ℕ) (row : List ℕ) → ((k : ℕ) → n ≤ k → get_or row k 0 ≡ 0) → sum_by f (take n row) ≡ sum_by f row
sum_taken f none zero row past = sym (sum_none f none row (λ k. past k (omega arith)))
sum_taken f none (suc n) [] past = refl
sum_taken f none (suc n) (w ∷ row) past = omega (arith, sum_by-cons f w row, sum_by-cons f w (take n row), sum_taken f none n row (λ k le. past (suc k) (omega arith)))

-- a tally is right: what it says is held is the number of local references held
pub rightly : (s : State) (t : ℕ) (e : Entry) → Holds s → at_rest s.due ≡ true → IsIn e (slot_at s.slots t) → IsHeldRightly s (tally_of s e.number t)
rightly s t e on rest is =
    let due = at_rest_tells s.due rest in
    let row = get_or s.counts t [] in
    let even = (on.balance.balance t e is).even in
    let nothing : addition_due_at t s.due ≡ 0 = ap (addition_due_at t) due in
    let none : is_adding_at t s.due ≡ 0 = ap (is_adding_at t) due in
    let words = sum_taken itself refl s.settings.cpus row (λ k le. on.balance.beyond k t le) in
    let used = sum_taken one_if_used refl s.settings.cpus row (λ k le. on.balance.beyond k t le) in
    let sum = fold_locals (take s.settings.cpus row) (pos 0) in
    omega (arith, ints, even, nothing, none, words, used, sum)

-- How far it goes.

local_bounds : (w : ℕ) → (w ≡ 0) ⊎ (bias ≤ w + MOST_CPUS * greatest_limit) → w ≤ bias + greatest_limit → (neg_ℤ (pos (2 ^ 50)) ≤ℤ local_of w) × (local_of w ≤ℤ pos (2 ^ 50))
local_bounds zero low high = (omega (arith, ints), omega (arith, ints))
local_bounds (suc w) (inl never) high = absurd (omega (arith, never))
local_bounds (suc w) (inr low) high = (omega (arith, ints, low, local_some w), omega (arith, ints, high, local_some w))

pub local_range : (s : State) (c t : ℕ) (e : Entry) → Holds s → IsIn e (slot_at s.slots t) → c < s.settings.cpus
    → (neg_ℤ (pos (2 ^ 50)) ≤ℤ local_of (count_at s.counts c t)) × (local_of (count_at s.counts c t) ≤ℤ pos (2 ^ 50))
local_range s c t e on is low = local_bounds (count_at s.counts c t)
    (⊎_elim
    (λ (counting : IsCounting s.slots s.marks c t). inr (omega (arith, word_floor on.balance (fit_of s on) c t e low is counting)))
    (λ (gone : (slot_at s.slots t ≡ Retired e) × ((mark_at s.marks t c).collected ≡ true)). inl (on.balance.emptied c t e gone.0 gone.1))
    (counting_cases s.slots s.marks c t e is))
    (word_ceiling on.balance (fit_of s on) c t e is)

at_local : (n : ℕ) (row : List ℕ) (k : ℕ) → k < length (map local_of (take n row)) → (get_or (map local_of (take n row)) k (pos 0) ≡ local_of (get_or row k 0)) × (k < n)
at_local zero row k lt = absurd (omega (arith, lt))
at_local (suc n) [] k lt = absurd (omega (arith, lt))
at_local (suc n) (w ∷ row) zero lt = (refl, omega arith)
at_local (suc n) (w ∷ row) (suc k) lt = let rest = at_local n row k (omega (arith, lt)) in (rest.0, omega (arith, rest.1))

pub locals_range : (s : State) (t : ℕ) (e : Entry) → Holds s → IsIn e (slot_at s.slots t) → (k : ℕ) → k < length (locals_at s t)
    → (neg_ℤ (pos (2 ^ 50)) ≤ℤ get_or (locals_at s t) k (pos 0)) × (get_or (locals_at s t) k (pos 0) ≤ℤ pos (2 ^ 50))
locals_range s t e on is k lt =
    let at = at_local s.settings.cpus (get_or s.counts t []) k lt in
    subst (λ (z : ℤ). (neg_ℤ (pos (2 ^ 50)) ≤ℤ z) × (z ≤ℤ pos (2 ^ 50))) (sym at.0) (local_range s k t e on is at.1)

pub locals_few : (n : ℕ) (row : List ℕ) → length (map local_of (take n row)) ≤ n
locals_few zero row = omega arith
locals_few (suc n) [] = omega arith
locals_few (suc n) (w ∷ row) = omega (arith, locals_few n row)

pub word_small : (s : State) (c t : ℕ) (e : Entry) → Holds s → IsIn e (slot_at s.slots t) → count_at s.counts c t < 2 ^ 60
word_small s c t e on is = omega (arith, word_ceiling on.balance (fit_of s on) c t e is)

pub total_range : (s : State) (t : ℕ) (e : Entry) → Holds s → at_rest s.due ≡ true → IsIn e (slot_at s.slots t)
    → (bias ≤ total_at s.totals t + MOST_CPUS * greatest_limit) × (total_at s.totals t ≤ bias + MOST_CPUS * greatest_limit)
total_range s t e on rest is =
    let range = total_at_rest on.balance (fit_of s on) t e (at_rest_tells s.due rest) is in
    (omega (arith, range.0), range.1)

-- How the code goes over CPUs and slots.

pub locals_more : (row : List ℕ) (c : ℕ) (z : ℤ) (items : List ℤ) → c < length row → items ≡ map local_of (take c row) → z ≡ local_of (get_or row c 0)
    → items ++ z ∷ [] ≡ map local_of (take (c + 1) row)
locals_more row c z items lt so_far is =
    rw (so_far, is) (sym (map-append local_of (take c row) (get_or row c 0 ∷ []))) ∙ ap (map local_of) (sym (take_more row c 0 lt))

pub tally_is : (s : State) (n t : ℕ) (held total : ℤ) (locals : List ℤ) → locals ≡ locals_at s t → total ≡ less_bias (total_at s.totals t)
    → held ≡ sum_of (locals_at s t) +ℤ less_bias (total_at s.totals t)
    → record { number = n; slot = t; held = held; locals = locals; total = total } ≡ tally_of s n t
tally_is s n t held total locals l d h = rw (l, d, h) refl

pub tallies_none : (s : State) (t : ℕ) (x : Slot) (list : List Balance) → x ≡ slot_at s.slots t → x ≡ Vacant → map tally_shown list ≡ tallies_below s t → map tally_shown list ≡ tallies_below s (t + 1)
tallies_none s t x list at is so_far =
    so_far ∙ (sym (append-nil (tallies_below s t)) ∙ (ap (λ (y : Slot). tallies_below s t ++ tallies_at s t y) (sym is ∙ at) ∙ ap (tallies_below s) (sym (add-one t))))

tally_at : (s : State) (t : ℕ) (x : Slot) (e : Entry) → IsIn e x → tallies_at s t x ≡ tally_of s e.number t ∷ []
tally_at s t x e is = ⊎_elim
    (λ (live : x ≡ Live e). ap (tallies_at s t) live)
    (λ (gone : x ≡ Retired e). ap (tallies_at s t) gone)
    is

pub tallies_more : (s : State) (t : ℕ) (x : Slot) (e : Entry) (list : List Balance) (b : Balance) → x ≡ slot_at s.slots t → IsIn e x → map tally_shown list ≡ tallies_below s t
    → tally_shown b ≡ tally_of s e.number t → map tally_shown (list ++ b ∷ []) ≡ tallies_below s (t + 1)
tallies_more s t x e list b at is so_far one =
    map-append tally_shown list (b ∷ []) ∙ (ap (λ (ys : List Tally). ys ++ tally_shown b ∷ []) so_far
    ∙ (ap (λ (y : Tally). tallies_below s t ++ y ∷ []) one
    ∙ (ap (λ (ys : List Tally). tallies_below s t ++ ys) (sym (tally_at s t x e is) ∙ ap (tallies_at s t) at) ∙ ap (tallies_below s) (sym (add-one t)))))

-- each tally is right

one_right : (s : State) (t : ℕ) (x : Slot) → Holds s → at_rest s.due ≡ true → slot_at s.slots t ≡ x → All (IsHeldRightly s) (tallies_at s t x)
one_right s t Vacant on rest at = All-nil (IsHeldRightly s)
one_right s t (Live e) on rest at = All-cons (IsHeldRightly s) (tally_of s e.number t) [] (rightly s t e on rest (inl at)) (All-nil (IsHeldRightly s))
one_right s t (Retired e) on rest at = All-cons (IsHeldRightly s) (tally_of s e.number t) [] (rightly s t e on rest (inr at)) (All-nil (IsHeldRightly s))

both_right : (s : State) (xs ys : List Tally) → All (IsHeldRightly s) xs → All (IsHeldRightly s) ys → All (IsHeldRightly s) (xs ++ ys)
both_right s [] ys first second = second
both_right s (x ∷ xs) ys first second = All-cons (IsHeldRightly s) x (xs ++ ys) (All-head (IsHeldRightly s) x xs first) (both_right s xs ys (All-tail (IsHeldRightly s) x xs first) second)

all_right : (s : State) (t : ℕ) → Holds s → at_rest s.due ≡ true → All (IsHeldRightly s) (tallies_below s t)
all_right s zero on rest = All-nil (IsHeldRightly s)
all_right s (suc t) on rest = both_right s (tallies_below s t) (tallies_at s t (slot_at s.slots t)) (all_right s t on rest) (one_right s t (slot_at s.slots t) on rest refl)

shown_right : (s : State) (list : List Balance) → All (IsHeldRightly s) (map tally_shown list) → All (λ (b : Balance). IsHeldRightly s (tally_shown b)) list
shown_right s [] all = All-nil (λ (b : Balance). IsHeldRightly s (tally_shown b))
shown_right s (b ∷ list) all = All-cons (λ (b : Balance). IsHeldRightly s (tally_shown b)) b list (All-head (IsHeldRightly s) (tally_shown b) (map tally_shown list) all)
    (shown_right s list (All-tail (IsHeldRightly s) (tally_shown b) (map tally_shown list) all))

pub audit_right : (s : State) (list : List Balance) → Holds s → at_rest s.due ≡ true → map tally_shown list ≡ audit_of s → All (λ (b : Balance). IsHeldRightly s (tally_shown b)) list
audit_right s list on rest is = shown_right s list (subst (All (IsHeldRightly s)) (sym is) (all_right s s.settings.slots on rest))

pub row_long : (s : State) (c t : ℕ) (e : Entry) → Holds s → IsIn e (slot_at s.slots t) → c < s.settings.cpus → c < length (get_or s.counts t [])
row_long s c t e on is low = omega (arith, low, on.shape.count_rows t (omega (arith, in_within s.slots t e is, on.shape.slots, on.shape.counts)), (ranges s.settings on.fit).cpus)

pub slot_within : (s : State) (t : ℕ) (e : Entry) → Holds s → IsIn e (slot_at s.slots t) → t < s.settings.slots
slot_within s t e on is = omega (arith, in_within s.slots t e is, on.shape.slots)

pub few_locals : (s : State) (t : ℕ) → Holds s → length (locals_at s t) ≤ MOST_CPUS
few_locals s t on = omega (arith, locals_few s.settings.cpus (get_or s.counts t []), (ranges s.settings on.fit).cpus)
