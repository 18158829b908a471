-- Sums over count words, places of references, hands and kept drivers: what they say of what is held, and what events do to a slot's balance.
use Rattle.std.proofs.Common.{◌≡◌, ◌≢◌, ℕ, zero, suc, ◌+◌, ◌*◌, ◌<◌, ◌≤◌, ◌⊎◌, List, ◌∷◌, [], ◌++◌, length, get_or, set, Option, Some, None, Bool, true, cond, ◌==◌, position, refl, sym, ap, ◌∙◌, arith, sum_by, ◌-◌, get_or-set_same, get_or-set_other}
use Rattle.std.proofs.lemmas.List.Sums.{sum_by-set, sum_by-cons, sum_by_push, get_or-le-sum_by}
use Rattle.std.proofs.lemmas.List.Quantifiers.{position-Some}
use Rattle.std.proofs.lemmas.List.{get_or_past}
use Rattle.std.proofs.lemmas.Bool.{cases_lt, eq-eqb, ne_eqb, lt-ltb, le-ltb, cases_eq}
use Rattle.protocol.specs.Types.{MOST_CPUS, Change, Slot}
use Rattle.registry_values.specs.Common.{bias}
use Rattle.protocol.specs.Common.{Hand, Empty, LocalPlace, Free, Standing, Lifted, local_at, kept_at, is_free, id_if, least_id, with_local, one_if_used, itself, greatest_limit, one_if, standing_of, in_hand, kept_of, Due, held_at, Balances, Taking, Giving, Back, Trying, Rest, Subtracting, Occupies, SlotsShow, HandHolds, ReferencesHold, DriversKept}
use Rattle.protocol.proofs.Either.{either}
use Rattle.protocol.proofs.Occupied.{place_within, fresh_unoccupied}

-- no more words are used than there are
pub used-le-length : (row : List ℕ) → sum_by one_if_used row ≤ length row
used-le-length [] = omega arith
used-le-length (zero ∷ row) = let a = sum_by-cons one_if_used 0 row in let b = used-le-length row in omega arith
used-le-length (suc w ∷ row) = let a = sum_by-cons one_if_used (suc w) row in let b = used-le-length row in omega arith

-- words that are at most the bias and the greatest limit
pub words-le-used : (row : List ℕ) → ((c : ℕ) → get_or row c 0 ≤ bias + greatest_limit) → sum_by itself row ≤ (bias + greatest_limit) * sum_by one_if_used row
words-le-used [] most = omega arith
words-le-used (zero ∷ row) most = omega (arith, sum_by-cons one_if_used 0 row, sum_by-cons itself 0 row, words-le-used row (λ c. most (suc c)))
words-le-used (suc w ∷ row) most = omega (arith, sum_by-cons one_if_used (suc w) row, sum_by-cons itself (suc w) row, most 0, words-le-used row (λ c. most (suc c)))

-- words that are 0 or the bias
pub words-at-bias : (row : List ℕ) → ((c : ℕ) → (get_or row c 0 ≡ 0) ⊎ (get_or row c 0 ≡ bias)) → sum_by itself row ≡ bias * sum_by one_if_used row
words-at-bias [] each = omega arith
words-at-bias (zero ∷ row) each =
    let a = sum_by-cons one_if_used 0 row in
    let b = sum_by-cons itself 0 row in
    let rest = words-at-bias row (λ c. each (suc c)) in omega arith
words-at-bias (suc w ∷ row) each =
    let a = sum_by-cons one_if_used (suc w) row in
    let b = sum_by-cons itself (suc w) row in
    let here : suc w ≡ bias = either (each 0) (λ no. absurd (omega arith)) (λ is. is) in
    let rest = words-at-bias row (λ c. each (suc c)) in omega arith

-- words that are all 0
pub words-at-zero : (row : List ℕ) → ((c : ℕ) → get_or row c 0 ≡ 0) → (sum_by itself row ≡ 0) × (sum_by one_if_used row ≡ 0)
words-at-zero [] each = (refl, refl)
words-at-zero (w ∷ row) each =
    let a = sum_by-cons one_if_used w row in
    let b = sum_by-cons itself w row in
    let here : w ≡ 0 = each 0 in
    let none : one_if_used w ≡ 0 = ap one_if_used here in
    let rest = words-at-zero row (λ c. each (suc c)) in (omega (arith, rest.0), omega (arith, rest.1))

-- a word above 0 is used
pub is_used : (w : ℕ) → 0 < w → one_if_used w ≡ 1
is_used w some = grind arith

-- one at the same number, and none at another
pub one_self : (m n : ℕ) → m ≡ n → one_if (m == n) ≡ 1
one_self m n same = ap one_if (eq-eqb m n same)

pub one_other : (m n : ℕ) → m ≢ n → one_if (m == n) ≡ 0
one_other m n off = ap one_if (ne_eqb m n off)

-- a place of a reference that isn't free is in the list
pub local_within : (locals : List LocalPlace) (id : ℕ) (p : LocalPlace) → local_at locals id ≡ p → Free ≢ p → id < length locals
local_within locals id p at full = either (cases_lt id (length locals)) (λ lt. lt) (λ ge. absurd (full (sym (get_or_past locals id Free ge) ∙ at)))

pub standing_within : (locals : List LocalPlace) (id n : ℕ) → local_at locals id ≡ Standing n → id < length locals
standing_within locals id n at = local_within locals id (Standing n) at (λ (no : Free ≡ Standing n). cc)

pub lifted_within : (locals : List LocalPlace) (id c : ℕ) → local_at locals id ≡ Lifted c → id < length locals
lifted_within locals id c at = local_within locals id (Lifted c) at (λ (no : Free ≡ Lifted c). cc)

-- a place, a hand or what is kept changes
pub local_changed : (n : ℕ) (locals : List LocalPlace) (id : ℕ) (p q : LocalPlace) → id < length locals → local_at locals id ≡ p
    → sum_by (standing_of n) (set locals id q) + standing_of n p ≡ sum_by (standing_of n) locals + standing_of n q
local_changed n locals id p q lt at = grind (arith, sum_by-set)

pub hand_changed : (n : ℕ) (hands : List Hand) (c : ℕ) (h k : Hand) → c < length hands → get_or hands c Empty ≡ h
    → sum_by (in_hand n) (set hands c k) + in_hand n h ≡ sum_by (in_hand n) hands + in_hand n k
hand_changed n hands c h k lt at = grind (arith, sum_by-set)

pub kept_changed : (n : ℕ) (keeps : List (Option ℕ)) (t : ℕ) (o k : Option ℕ) → t < length keeps → kept_at keeps t ≡ o
    → sum_by (kept_of n) (set keeps t k) + kept_of n o ≡ sum_by (kept_of n) keeps + kept_of n k
kept_changed n keeps t o k lt at = grind (arith, sum_by-set)

-- a new reference takes a free place, or one more
pub local_added : (n : ℕ) (locals : List LocalPlace) (p : LocalPlace) → sum_by (standing_of n) (with_local locals (least_id locals) p) ≡ sum_by (standing_of n) locals + standing_of n p
local_added n locals p = added (position is_free locals) refl
  where
    freed : (q : LocalPlace) → is_free q ≡ true → standing_of n q ≡ 0
    freed q is = grind arith

    added : (o : Option ℕ) → position is_free locals ≡ o → sum_by (standing_of n) (with_local locals (id_if locals o) p) ≡ sum_by (standing_of n) locals + standing_of n p
    added None none = ap (λ (b : Bool). sum_by (standing_of n) (cond b (set locals (length locals) p) (locals ++ p ∷ []))) (le-ltb (length locals) (length locals) (omega arith))
        ∙ sum_by_push (standing_of n) locals p
    added (Some id) some =
        let at = position-Some is_free locals id Free some in
        let was = freed (local_at locals id) at.1 in
        ap (λ (b : Bool). sum_by (standing_of n) (cond b (set locals id p) (locals ++ p ∷ []))) (lt-ltb id (length locals) at.0)
        ∙ omega (arith, sum_by-set (standing_of n) locals id p Free at.0, was)

-- A reference that stands somewhere is held, and nothing is held where none stands.

-- what a sum counts at one place
at_some : {X : Type 0} (f : X → ℕ) (xs : List X) (i : ℕ) (d x : X) → f d ≡ 0 → get_or xs i d ≡ x → 0 < f x → 0 < sum_by f xs
at_some f xs i d x none at some = grind (arith, get_or-le-sum_by, get_or_past)

pub held_kept : (locals : List LocalPlace) (hands : List Hand) (keeps : List (Option ℕ)) (due : Due) (n t u : ℕ) → kept_at keeps u ≡ Some n → 0 < held_at locals hands keeps due n t
held_kept locals hands keeps due n t u at = omega (arith, at_some (kept_of n) keeps u None (Some n) refl at (omega (arith, one_self n n refl)))

-- What the events do to the balance of one slot, and how far its words and its total can go.

-- no word goes further than its limit
abbrev pub AreWords : List ℕ → Type 0
AreWords row = (length row ≡ MOST_CPUS) × ((c : ℕ) → get_or row c 0 ≤ bias + greatest_limit)

-- a total, with what is to be added, is far above 0
pub total_floor : (row : List ℕ) (total held adding is_adding : ℕ) → AreWords row → Balances row total held adding is_adding
    → bias * (1 + is_adding) + held ≤ total + adding + MOST_CPUS * greatest_limit
total_floor row total held adding is_adding words b =
    let used = used-le-length row in
    let most = words-le-used row words.1 in
    omega (arith, used, most, words.0, b.even)

-- and far below the most that its word can hold
pub total_ceiling : (row : List ℕ) (total held adding is_adding : ℕ) → Balances row total held adding is_adding → total + adding ≤ bias * (1 + is_adding) + MOST_CPUS * greatest_limit
total_ceiling row total held adding is_adding b = omega (arith, b.capped)

-- a word that isn't collected is far above 0
pub word_floor : (row : List ℕ) (total held adding is_adding c : ℕ) → AreWords row → c < MOST_CPUS → 0 < get_or row c 0 → Balances row total held adding is_adding
    → bias + held ≤ get_or row c 0 + (MOST_CPUS - 1) * greatest_limit
word_floor row total held adding is_adding c words lt some b =
    let used = used-le-length row in
    let in_ : c < length row = omega (arith, words.0) in
    let sums = sum_by-set itself row c 0 0 in_ in
    let uses = sum_by-set one_if_used row c 0 0 in_ in
    let was = is_used (get_or row c 0) some in
    let each : (d : ℕ) → get_or (set row c 0) d 0 ≤ bias + greatest_limit = λ d. either (cases_eq d c)
    (λ here. let none : get_or (set row c 0) d 0 ≡ 0 = ap (λ (k : ℕ). get_or (set row c 0) k 0) here ∙ get_or-set_same row c 0 0 in_ in omega arith)
    (λ off. let old = get_or-set_other row c d 0 0 off in omega (arith, old, words.1 d)) in
    let most = words-le-used (set row c 0) each in
    omega (arith, used, sums, uses, was, most, words.0, b.even, b.capped)

-- one reference more is counted
pub counted_up : (row : List ℕ) (total held adding is_adding c w : ℕ) → c < length row → get_or row c 0 ≡ w → 0 < w → Balances row total held adding is_adding
    → Balances (set row c (w + 1)) total (held + 1) adding is_adding
counted_up row total held adding is_adding c w lt at some b = grind (arith, sum_by-set, is_used)

-- one less, at a word that stays above 0
pub counted_down : (row : List ℕ) (total held adding is_adding c w : ℕ) → c < length row → get_or row c 0 ≡ w → 1 < w → Balances row total (held + 1) adding is_adding
    → Balances (set row c (w - 1)) total held adding is_adding
counted_down row total held adding is_adding c w lt at some b = grind (arith, sum_by-set, is_used)

-- a word is swapped for 0
pub collected : (row : List ℕ) (total held c w : ℕ) → c < length row → get_or row c 0 ≡ w → 0 < w → w ≤ bias + greatest_limit → Balances row total held 0 0 → Balances (set row c 0) total held w 1
collected row total held c w lt at some most b = grind (arith, sum_by-set, is_used)

-- what was collected is added to the total, without its bias
pub added : (row : List ℕ) (total held old : ℕ) → AreWords row → Balances row total held old 1 → Balances row (total + old - bias) held 0 0
added row total held old words b =
    let floor = total_floor row total held old 1 words b in
    record { even = omega (arith, floor, b.even); capped = omega (arith, floor, b.capped) }

-- a reference is subtracted from the total
pub subtracted : (row : List ℕ) (total held : ℕ) → AreWords row → Balances row total (held + 1) 0 0 → Balances row (total - 1) held 0 0
subtracted row total held words b =
    let floor = total_floor row total (held + 1) 0 0 words b in
    record { even = omega (arith, floor, b.even); capped = omega (arith, b.capped) }

-- words that are 0 or the bias, and a total that is the bias, count nothing
pub published : (row : List ℕ) → length row ≡ MOST_CPUS → ((c : ℕ) → (get_or row c 0 ≡ 0) ⊎ (get_or row c 0 ≡ bias)) → Balances row bias 0 0 0
published row size each = record { even = omega (arith, words-at-bias row each); capped = omega (arith, used-le-length row, size) }

-- once all words are collected, the total says what is held
pub all_collected : (row : List ℕ) (total held : ℕ) → ((c : ℕ) → get_or row c 0 ≡ 0) → Balances row total held 0 0 → total ≡ bias + held
all_collected row total held each b =
    let none = words-at-zero row each in
    omega (arith, none.0, none.1, b.even)

-- What the sums of local references say of places, hands and kept ones, and back.

-- the number that a hand names
abbrev pub number_of : Hand → Option ℕ
number_of Empty = None
number_of (Taking n) = Some n
number_of (Giving n id) = Some n
number_of (Back n id) = Some n
number_of (Trying t n) = None

-- a place of a list counts in its sum
counted : {X : Type 0} (f : X → ℕ) (d : X) (xs : List X) (i : ℕ) → (get_or xs i d ≡ d → ⊥) → f (get_or xs i d) ≡ 1 → 1 ≤ sum_by f xs
counted f d xs i off one = grind (arith, get_or-le-sum_by, place_within)

-- a sum of nothing is 0
uncounted : {X : Type 0} (f : X → ℕ) (d : X) (xs : List X) → ((i : ℕ) → f (get_or xs i d) ≡ 0) → sum_by f xs ≡ 0
uncounted f d [] none = refl
uncounted f d (x ∷ xs) none = omega (arith, none 0, uncounted f d xs (λ i. none (suc i)), sum_by-cons f x xs)

-- Places

pub standing_counts : (n : ℕ) (locals : List LocalPlace) (id : ℕ) → local_at locals id ≡ Standing n → 1 ≤ sum_by (standing_of n) locals
standing_counts n locals id at = counted (standing_of n) Free locals id (λ free. let q : Standing n ≡ Free = sym at ∙ free in cc) (ap (standing_of n) at ∙ one_self n n refl)

pub none_standing : (n : ℕ) (locals : List LocalPlace) → sum_by (standing_of n) locals ≡ 0 → (id : ℕ) → local_at locals id ≡ Standing n → ⊥
none_standing n locals sum id at = let one = standing_counts n locals id at in omega (arith, one, sum)

pub no_standing : (n : ℕ) (locals : List LocalPlace) → ((id : ℕ) → local_at locals id ≡ Standing n → ⊥) → sum_by (standing_of n) locals ≡ 0
no_standing n locals none = uncounted (standing_of n) Free locals (λ id. grind (arith, one_other, none id))

-- Hands

pub none_in_hand : (n : ℕ) (hands : List Hand) → sum_by (in_hand n) hands ≡ 0 → (c : ℕ) → number_of (get_or hands c Empty) ≡ Some n → ⊥
none_in_hand n hands sum c named = grind (arith, counted (in_hand n) Empty hands c, one_self)

pub no_hand : (n : ℕ) (hands : List Hand) → ((c : ℕ) → number_of (get_or hands c Empty) ≡ Some n → ⊥) → sum_by (in_hand n) hands ≡ 0
no_hand n hands none = uncounted (in_hand n) Empty hands (λ c. grind (arith, one_other, none c))

-- Kept ones

pub none_kept : (n : ℕ) (keeps : List (Option ℕ)) → sum_by (kept_of n) keeps ≡ 0 → (t : ℕ) → kept_at keeps t ≡ Some n → ⊥
none_kept n keeps sum t at = grind (arith, counted (kept_of n) None keeps t, one_self)

pub no_kept : (n : ℕ) (keeps : List (Option ℕ)) → ((t : ℕ) → kept_at keeps t ≡ Some n → ⊥) → sum_by (kept_of n) keeps ≡ 0
no_kept n keeps none = uncounted (kept_of n) None keeps (λ t. grind (arith, one_other, none t))

-- All together

-- where nothing is held nothing refers to n
pub record Unreferred (locals : List LocalPlace) (hands : List Hand) (keeps : List (Option ℕ)) (n : ℕ) : Type 0 where
  pub unplaced : (id : ℕ) → local_at locals id ≡ Standing n → ⊥
  pub unhanded : (c : ℕ) → number_of (get_or hands c Empty) ≡ Some n → ⊥
  pub unkept : (t : ℕ) → kept_at keeps t ≡ Some n → ⊥

pub unreferred : (locals : List LocalPlace) (hands : List Hand) (keeps : List (Option ℕ)) (due : Due) (n t : ℕ) → held_at locals hands keeps due n t ≡ 0 → Unreferred locals hands keeps n
unreferred locals hands keeps due n t none = assumption (none_standing n locals (omega (arith, none)), none_in_hand n hands (omega (arith, none)), none_kept n keeps (omega (arith, none)))

pub nothing_held : (locals : List LocalPlace) (hands : List Hand) (keeps : List (Option ℕ)) (due : Due) (n t : ℕ) → (due ≡ Subtracting t → ⊥) → Unreferred locals hands keeps n
    → held_at locals hands keeps due n t ≡ 0
nothing_held locals hands keeps due n t off free = grind (arith, no_standing, no_hand, no_kept, one_other)

hand_occupied : (slots : List Slot) (locals : List LocalPlace) (c n : ℕ) (h : Hand) → number_of h ≡ Some n → HandHolds slots locals c h → Occupies slots n
hand_occupied slots locals c n h named holds = grind arith

-- nothing refers to a number that no slot has
pub unoccupied : (cpus : ℕ) (slots : List Slot) (hands : List Hand) (keeps : List (Option ℕ)) (due : Due) (locals : List LocalPlace) (n : ℕ) → (Occupies slots n → ⊥)
    → ReferencesHold cpus slots hands due locals → DriversKept slots keeps → Unreferred locals hands keeps n
unoccupied cpus slots hands keeps due locals n off refer kept = grind (arith, hand_occupied)

-- the number that the next publishing gives is held nowhere
pub published_held : (h : List Change) (cpus : ℕ) (slots : List Slot) (hands : List Hand) (keeps : List (Option ℕ)) (due : Due) (locals : List LocalPlace) (n t : ℕ) → SlotsShow h slots → length h < n
    → due ≡ Rest
    → ReferencesHold cpus slots hands due locals → DriversKept slots keeps → held_at locals hands keeps due n t ≡ 0
published_held h cpus slots hands keeps due locals n t show above rest refer kept =
    nothing_held locals hands keeps due n t (λ is. let q : Rest ≡ Subtracting t = sym rest ∙ is in cc) (unoccupied cpus slots hands keeps due locals n (fresh_unoccupied h slots n show above) refer kept)
