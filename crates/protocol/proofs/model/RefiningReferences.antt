-- The events of passive and local references make steps of the model.
use Rattle.std.proofs.Common.{◌≡◌, ℕ, ◌+◌, ◌-◌, ◌<◌, inl, inr, List, length, set, Option, Some, Bool, true, ◌&&◌, ◌||◌, ◌==◌, nat_lt, if◌then◌else◌, refl, sym, ap, subst, ◌∙◌, arith, ltb-true, get_or-set_same, get_or-set_other}
use Rattle.std.proofs.lemmas.Bool.{and_parts, or_cases}
use Rattle.protocol.specs.Types.{Entry, Slot, Retired}
use Rattle.protocol.specs.Common.{Hand, Empty, Taking, Giving, Back, Trying, LocalPlace, Free, Standing, Lifted, Due, Rest, Snapshots, Adding, Subtracting, State, with_cell, found_at, hand_at, passive_at, count_at, local_at, Holds, DueHolds, one_if, put, IsModelRun, passive_in, number_in, subtractions_due, locals_of, picture, TakesNone, cell, trying_at, trying_of, in_hand, IsIn}
use Rattle.protocol.specs.Events
use Rattle.registry_values.specs.Common.{slot_at, slot_of, has_number}
use Rattle.protocol.specs.Model
use Rattle.protocol.proofs.Cells.{cell_here, cell_other, slot_number}
use Rattle.protocol.proofs.Occupied.{one_in, slot_has, is_retired_tells, at_rest_tells}
use Rattle.protocol.proofs.keeps.SectionKeeps.{idle_tells}
use Rattle.protocol.proofs.keeps.MarkKeeps.{may_examine_tells}
use Rattle.protocol.proofs.keeps.Marking.{found_number, shifted_back, shifted_try, trying_none, trying_one, trying_stays}
use Rattle.protocol.proofs.keeps.References.{snapshot_due_tells, giving_holds, back_holds}
use Rattle.protocol.proofs.counts.Sums.{one_self, one_other, standing_within, lifted_within, local_changed, hand_changed, local_added}
use Rattle.protocol.proofs.model.RefiningSections.{Alike, join_runs, no_step, one_step, put_is, put_twice, widen_run, seeing_refines}
use Rattle.protocol.proofs.keeps.CountKeeps.{confirm_tells, hand_full, live_tells, may_try_tells, passive_place, taking_keeps, tried_seen, trying_tells}
use Rattle.protocol.proofs.Either.{either}

-- Passive references

-- a write of a cell leaves what another CPU or slot has
passive_beside : (passive : List (List ℕ)) (hands : List Hand) (t c v j : ℕ) (o : Option ℕ) → ((u : ℕ) → o ≡ Some u → u ≡ t → j ≡ c → ⊥)
    → passive_in passive hands j o ≡ passive_in (with_cell passive t c v) hands j o
passive_beside passive hands t c v j o off = grind (arith, cell_other)

-- two numbers with one slot are one
one_slot : (slots : List Slot) (m n t : ℕ) → slot_of slots n ≡ Some t → slot_of slots m ≡ Some t → m ≡ n
one_slot slots m n t first second =
    let a = slot_has slots n t first in
    let b = slot_has slots m t second in
    sym b.1.2 ∙ (ap (λ (e : Entry). e.number) (one_in b.1.0 a.1.0 (slot_at slots t) a.1.1 b.1.1) ∙ a.1.2)

-- how many passive references a CPU has to an entry
abbrev pub passives_of : State → ℕ → ℕ → ℕ
passives_of s c n = passive_in s.passive s.hands c (slot_of s.slots n)

pub passive_put : (s : State) (c n t v : ℕ) → Holds s → c < s.settings.cpus → slot_of s.slots n ≡ Some t → trying_at s.hands c t ≡ 0
    → (j m : ℕ) → put (passives_of s) c (put (passives_of s c) n v) j m ≡ passive_in (with_cell s.passive t c v) s.hands j (slot_of s.slots m)
passive_put s c n t v on low is untried =
    let place = passive_place s c t on low (omega (arith, (slot_has s.slots n t is).0, on.shape.slots)) in
    let here : cell 0 (with_cell s.passive t c v) t c - trying_at s.hands c t ≡ v = omega (arith, cell_here 0 s.passive t c v place.0 place.1, untried) in
    put_twice (passives_of s) (λ k. λ i. passive_in (with_cell s.passive t c v) s.hands k (slot_of s.slots i)) c n v (sym (ap (passive_in (with_cell s.passive t c v) s.hands c) is ∙ here))
    (λ m off. passive_beside s.passive s.hands t c v c (slot_of s.slots m) (λ u at same here. off (one_slot s.slots m n t is (at ∙ ap (λ (k : ℕ). Some k) same))))
    (λ j m off. passive_beside s.passive s.hands t c v j (slot_of s.slots m) (λ u at same here. off here))

pub add_refines : (s : State) (c n t : ℕ) → Holds s → slot_of s.slots n ≡ Some t → Events.may_add s c n t ≡ true → IsModelRun TakesNone (picture s) (picture (Events.after_add s c t))
add_refines s c n t on is ok =
    let p = and_parts (Events.is_idle s c) ((Events.is_number n (found_at s c) || nat_lt 0 (passive_at s.passive c t)) && nat_lt (passive_at s.passive c t) s.settings.passive_limit) ok in
    let q = and_parts (Events.is_number n (found_at s c) || nat_lt 0 (passive_at s.passive c t)) (nat_lt (passive_at s.passive c t) s.settings.passive_limit) p.1 in
    let untried : trying_at s.hands c t ≡ 0 = ap (trying_of t) (idle_tells s c on p.0).1 in
    let word : passive_at s.passive c t - trying_at s.hands c t ≡ passive_at s.passive c t = omega (arith, untried) in
    let was : passive_in s.passive s.hands c (slot_of s.slots n) ≡ passive_at s.passive c t = ap (passive_in s.passive s.hands c) is ∙ word in
    let made : (m : ℕ) → m ≡ n → Alike (record (picture s) { passive = put (picture s).passive c (put ((picture s).passive c) m ((picture s).passive c m + 1)) }) (picture (Events.after_add s c t)) =
    λ m same. assumption (λ (j : ℕ) (i : ℕ). ap (λ (k : ℕ). put (passives_of s) c (put (passives_of s c) k (passives_of s c k + 1)) j i) same
    ∙ (ap (λ (v : ℕ). put (passives_of s) c (put (passives_of s c) n (v + 1)) j i) was ∙ passive_put s c n t (passive_at s.passive c t + 1) on (idle_tells s c on p.0).0 is untried j i)) in
    either (or_cases (Events.is_number n (found_at s c)) (nat_lt 0 (passive_at s.passive c t)) q.0)
    (λ f.
    let e = found_number n (found_at s c) f in
    one_step (picture s) _ (picture (Events.after_add s c t)) (Model.Acquires c e.0 e.1) (made e.0.number e.2))
    (λ h.
    one_step (picture s) _ (picture (Events.after_add s c t)) (Model.Copies c n (omega (arith, ltb-true 0 (passive_at s.passive c t) h, was))) (made n refl))

pub sub_refines : (s : State) (c n t : ℕ) → Holds s → slot_of s.slots n ≡ Some t → Events.may_sub s c t ≡ true → IsModelRun TakesNone (picture s) (picture (Events.after_sub s c t))
sub_refines s c n t on is ok =
    let p = and_parts (Events.is_idle s c) (nat_lt 0 (passive_at s.passive c t)) ok in
    let untried : trying_at s.hands c t ≡ 0 = ap (trying_of t) (idle_tells s c on p.0).1 in
    let word : passive_at s.passive c t - trying_at s.hands c t ≡ passive_at s.passive c t = omega (arith, untried) in
    let was : passive_in s.passive s.hands c (slot_of s.slots n) ≡ passive_at s.passive c t = ap (passive_in s.passive s.hands c) is ∙ word in
    one_step (picture s) _ (picture (Events.after_sub s c t)) (Model.Releases c n (omega (arith, ltb-true 0 (passive_at s.passive c t) p.1, was))) (assumption (
    λ (j : ℕ) (i : ℕ). ap (λ (v : ℕ). put (passives_of s) c (put (passives_of s c) n (v - 1)) j i) was ∙ passive_put s c n t (passive_at s.passive c t - 1) on (idle_tells s c on p.0).0 is untried j i
    ))

-- A passive reference without a section

-- each CPU is trying what it was
passive_tries : (passive : List (List ℕ)) (hands others : List Hand) (c : ℕ) (o : Option ℕ) → ((t : ℕ) → trying_at others c t ≡ trying_at hands c t)
    → passive_in passive hands c o ≡ passive_in passive others c o
passive_tries passive hands others c o same = grind arith

-- words and what is tried change by the same
passive_shows : (passive words : List (List ℕ)) (hands others : List Hand) (c : ℕ) (o : Option ℕ)
    → ((t : ℕ) → passive_at words c t + trying_at hands c t ≡ passive_at passive c t + trying_at others c t) → passive_in passive hands c o ≡ passive_in words others c o
passive_shows passive words hands others c o both = grind arith

-- a word and a hand change, and no reference does
tried_refines : (s : State) (c t v : ℕ) (h k : Hand) → c < length s.hands → hand_at s c ≡ h → ((m : ℕ) → in_hand m h ≡ 0) → ((m : ℕ) → in_hand m k ≡ 0)
    → ((d u : ℕ) → passive_at (with_cell s.passive t c v) d u + trying_at s.hands d u ≡ passive_at s.passive d u + trying_at (set s.hands c k) d u)
    → IsModelRun TakesNone (picture s) (picture (Events.after_tried s c t v k))
tried_refines s c t v h k lt hand before later both =
    let held : (i : ℕ) → locals_of s i ≡ locals_of (Events.after_tried s c t v k) i = λ i. omega (arith, hand_changed i s.hands c h k lt hand, before i, later i) in
    no_step (picture s) (picture (Events.after_tried s c t v k))
    (assumption (λ (j : ℕ) (i : ℕ). passive_shows s.passive (with_cell s.passive t c v) s.hands (set s.hands c k) j (slot_of s.slots i) (both j)))

pub try_refines : (s : State) (c t n : ℕ) → Holds s → Events.may_try s c t n ≡ true → IsModelRun TakesNone (picture s) (picture (Events.after_try s c t n))
try_refines s c t n on ok =
    let tests = may_try_tells s c t n ok in
    let idle = idle_tells s c on tests.0 in
    let place = passive_place s c t on idle.0 tests.2 in
    let lt : c < length s.hands = omega (arith, idle.0, on.shape.hands) in
    tried_refines s c t (passive_at s.passive c t + 1) Empty (Trying t n) lt idle.1 (λ m. refl) (λ m. refl) (shifted_try s.passive s.hands c t n place.0 place.1 lt idle.1)

pub take_back_refines : (s : State) (c t n : ℕ) → Holds s → hand_at s c ≡ Trying t n → IsModelRun TakesNone (picture s) (picture (Events.after_take_back s c t))
take_back_refines s c t n on hand =
    let told = trying_tells s c t n on hand in
    let place = passive_place s c t on told.0 told.1 in
    let lt : c < length s.hands = omega (arith, told.0, on.shape.hands) in
    tried_refines s c t (passive_at s.passive c t - 1) (Trying t n) Empty lt hand (λ m. refl) (λ m. refl) (shifted_back s.passive s.hands c t n place.0 place.1 lt hand told.2)

-- what c is trying elsewhere is nothing, and stays so
untried_beside : (s : State) (c t n : ℕ) (o : Option ℕ) → c < length s.hands → hand_at s c ≡ Trying t n → ((u : ℕ) → o ≡ Some u → u ≡ t → ⊥)
    → passive_in s.passive s.hands c o ≡ passive_in s.passive (set s.hands c Empty) c o
untried_beside s c t n o lt hand off = grind (arith, trying_none, get_or-set_same)

-- what c was trying in t is a reference to n
pub confirmed : (s : State) (c t n : ℕ) → Holds s → hand_at s c ≡ Trying t n → slot_of s.slots n ≡ Some t
    → (j m : ℕ) → put (passives_of s) c (put (passives_of s c) n (passives_of s c n + 1)) j m ≡ passive_in s.passive (set s.hands c Empty) j (slot_of s.slots m)
confirmed s c t n on hand is =
    let told = trying_tells s c t n on hand in
    let lt : c < length s.hands = omega (arith, told.0, on.shape.hands) in
    let tries : trying_at s.hands c t ≡ 1 = ap (trying_of t) hand ∙ trying_one t n t refl in
    let none : trying_at (set s.hands c Empty) c t ≡ 0 = ap (trying_of t) (get_or-set_same s.hands c Empty Empty lt) in
    put_twice (passives_of s) (λ k. λ i. passive_in s.passive (set s.hands c Empty) k (slot_of s.slots i)) c n (passive_in s.passive s.hands c (slot_of s.slots n) + 1)
    (omega (arith, ap (passive_in s.passive s.hands c) is, ap (passive_in s.passive (set s.hands c Empty) c) is, tries, none, told.2))
    (λ m off. untried_beside s c t n (slot_of s.slots m) lt hand (λ u at same. off (one_slot s.slots m n t is (at ∙ ap (λ (k : ℕ). Some k) same))))
    (λ j m off. passive_tries s.passive s.hands (set s.hands c Empty) j (slot_of s.slots m) (λ u. ap (trying_of u) (get_or-set_other s.hands c j Empty Empty off)))

taking_refines : {MayTake : ℕ → ℕ → Type 0} (s : State) (c t n : ℕ) → Holds s → hand_at s c ≡ Trying t n → Events.has_live n (slot_at s.slots t) ≡ true → MayTake c n
    → IsModelRun MayTake (picture s) (picture (Events.after_taking s c))
taking_refines {MayTake} s c t n on hand ok may =
    let is = live_tells n (slot_at s.slots t) ok in
    let e : Entry = is.0 in
    let in_ : IsIn e (slot_at s.slots t) = inl is.2 in
    let of : slot_of s.slots e.number ≡ Some t = slot_number s.history s.slots e t on.slots in_ in
    let same : Trying t n ≡ Trying t e.number = ap (λ (k : ℕ). Trying t k) (sym is.1) in
    let told = trying_tells s c t n on hand in
    let occupant : number_in (slot_at s.slots t) ≡ Some e.number = ap number_in is.2 in
    let held : (i : ℕ) → locals_of s i ≡ locals_of (Events.after_taking s c) i = λ i. omega (arith, hand_changed i s.hands c (Trying t n) Empty (omega (arith, told.0, on.shape.hands)) hand) in
    one_step (picture s) _ (picture (Events.after_taking s c)) (Model.Takes c t e (on.slots.live t e is.2).0 occupant (tried_seen s c t e.number on (hand ∙ same)) (subst (MayTake c) (sym is.1) may))
    (assumption (confirmed s c t e.number on (hand ∙ same) of))

-- what was tried is a reference, and then the pass grows
pub confirm_refines : {MayTake : ℕ → ℕ → Type 0} (s : State) (c t n : ℕ) → Holds s → hand_at s c ≡ Trying t n → Events.may_confirm s c n (slot_at s.slots t) ≡ true → MayTake c n
    → IsModelRun MayTake (picture s) (picture (Events.after_confirm s c))
confirm_refines s c t n on hand ok may =
    let live = (confirm_tells s c n (slot_at s.slots t) ok).1 in
    join_runs (picture s) (picture (Events.after_taking s c)) (picture (Events.after_confirm s c)) (taking_refines s c t n on hand live may)
    (widen_run (λ d m none. absurd none) (picture (Events.after_taking s c)) (picture (Events.after_confirm s c))
    (seeing_refines (Events.after_taking s c) c (taking_keeps s c t n on hand live) (trying_tells s c t n on hand).0))

-- Local references

-- what the keeper must do next waits only where it must subtract
waiting_else : (slots : List Slot) (n : ℕ) (due next : Due) → due ≡ next → subtractions_due slots n next ≡ 0 → subtractions_due slots n due ≡ 0
waiting_else slots n due next is none = ap (subtractions_due slots n) is ∙ none

-- at a retired entry it waits for a reference to that one
waiting_one : (slots : List Slot) (n t : ℕ) (e : Entry) (due : Due) → slot_at slots t ≡ Retired e → due ≡ Subtracting t → subtractions_due slots n due ≡ one_if (e.number == n)
waiting_one slots n t e due at is = ap (subtractions_due slots n) is ∙ ap (λ (x : Slot). if has_number n x then 1 else 0) at

abbrev with_places : State → List Hand → Due → List LocalPlace → State
with_places s hands due locals = record s { hands = hands; due = due; locals = locals }

locals_same : (s : State) (hands : List Hand) (due : Due) (locals : List LocalPlace) → ((c t : ℕ) → trying_at hands c t ≡ trying_at s.hands c t)
    → ((n : ℕ) → locals_of s n ≡ locals_of (with_places s hands due locals) n) → IsModelRun TakesNone (picture s) (picture (with_places s hands due locals))
locals_same s hands due locals tries same = no_step _ _ (assumption (λ (c : ℕ) (n : ℕ). passive_tries s.passive s.hands hands c (slot_of s.slots n) (tries c)))

-- one reference more
locals_more : (s : State) (c : ℕ) (e : Entry) (hands : List Hand) (due : Due) (locals : List LocalPlace) → found_at s c ≡ Some e → ((d t : ℕ) → trying_at hands d t ≡ trying_at s.hands d t)
    → ((n : ℕ) → locals_of (with_places s hands due locals) n ≡ locals_of s n + one_if (e.number == n))
    → IsModelRun TakesNone (picture s) (picture (with_places s hands due locals))
locals_more s c e hands due locals found tries more =
    one_step (picture s) _ (picture (with_places s hands due locals)) (Model.Counts c e found) (assumption (
      λ (d : ℕ) (i : ℕ). passive_tries s.passive s.hands hands d (slot_of s.slots i) (tries d),
      put_is (λ i. locals_of s i) (λ i. locals_of (with_places s hands due locals) i) e.number (locals_of s e.number + 1)
          (omega (arith, more e.number, one_self e.number e.number refl))
          (λ i off. omega (arith, more i, one_other e.number i (λ same. off (sym same)))),
    ))

-- one reference less
locals_less : (s : State) (n : ℕ) (hands : List Hand) (due : Due) (locals : List LocalPlace) → ((c t : ℕ) → trying_at hands c t ≡ trying_at s.hands c t)
    → ((i : ℕ) → locals_of (with_places s hands due locals) i + one_if (n == i) ≡ locals_of s i)
    → IsModelRun TakesNone (picture s) (picture (with_places s hands due locals))
locals_less s n hands due locals tries less =
    one_step (picture s) _ (picture (with_places s hands due locals)) (Model.Uncounts n (omega (arith, less n, one_self n n refl))) (assumption (
      λ (c : ℕ) (i : ℕ). passive_tries s.passive s.hands hands c (slot_of s.slots i) (tries c),
      put_is (λ i. locals_of s i) (λ i. locals_of (with_places s hands due locals) i) n (locals_of s n - 1)
          (omega (arith, less n, one_self n n refl))
          (λ i off. omega (arith, less i, one_other n i (λ same. off (sym same)))),
    ))

pub count_add_refines : (s : State) (c t : ℕ) (e : Entry) → Holds s → found_at s c ≡ Some e → Events.may_count s c t ≡ true → IsModelRun TakesNone (picture s) (picture (Events.after_count_add s c e.number t))
count_add_refines s c t e on found ok =
    let idle = (and_parts (Events.is_idle s c) _ ok).0 in
    let lt : c < length s.hands = omega (arith, (idle_tells s c on idle).0, on.shape.hands) in
    locals_more s c e (set s.hands c (Taking e.number)) s.due s.locals found (trying_stays s.hands c (Taking e.number) (λ u. sym (ap (trying_of u) (idle_tells s c on idle).1)))
    (λ n. omega (arith, hand_changed n s.hands c Empty (Taking e.number) lt (idle_tells s c on idle).1))

-- a hand that tries nothing is emptied
emptied : (s : State) (c : ℕ) (h : Hand) → hand_at s c ≡ h → ((u : ℕ) → trying_of u h ≡ 0) → (d u : ℕ) → trying_at (set s.hands c Empty) d u ≡ trying_at s.hands d u
emptied s c h hand none = trying_stays s.hands c Empty (λ u. sym (ap (trying_of u) hand ∙ none u))

pub split_refines : (s : State) (c n : ℕ) → Holds s → hand_at s c ≡ Taking n → IsModelRun TakesNone (picture s) (picture (Events.after_split s c n))
split_refines s c n on hand =
    let lt : c < length s.hands = (hand_full s c Empty (Taking n) on hand (λ is. let q : Taking n ≡ Empty = is in cc) tt).0 in
    locals_same s (set s.hands c Empty) s.due (Events.with_local s.locals (Events.least_id s.locals) (Standing n)) (emptied s c _ hand (λ u. refl))
    (λ i. omega (arith, hand_changed i s.hands c (Taking n) Empty lt hand, local_added i s.locals (Standing n)))

pub join_refines : (s : State) (c n id : ℕ) → Holds s → Events.is_idle s c ≡ true → local_at s.locals id ≡ Standing n → IsModelRun TakesNone (picture s) (picture (Events.after_hand s c (Giving n id) id (Lifted c)))
join_refines s c n id on idle at =
    let lt : c < length s.hands = omega (arith, (idle_tells s c on idle).0, on.shape.hands) in
    locals_same s (set s.hands c (Giving n id)) s.due (set s.locals id (Lifted c)) (trying_stays s.hands c (Giving n id) (λ u. sym (ap (trying_of u) (idle_tells s c on idle).1)))
    (λ i. omega (arith, hand_changed i s.hands c Empty (Giving n id) lt (idle_tells s c on idle).1, local_changed i s.locals id (Standing n) (Lifted c) (standing_within s.locals id n at) at))

pub count_down_refines : (s : State) (c n id t : ℕ) → Holds s → hand_at s c ≡ Giving n id → IsModelRun TakesNone (picture s) (picture (Events.after_count_down s c t id))
count_down_refines s c n id t on hand =
    let lt : c < length s.hands = (hand_full s c Empty (Giving n id) on hand (λ is. let q : Giving n id ≡ Empty = is in cc) tt).0 in
    let lifted = (giving_holds s.settings.cpus s.slots s.hands s.due s.locals c n id hand on.references).1 in
    locals_less s n (set s.hands c Empty) s.due (set s.locals id Free) (emptied s c _ hand (λ u. refl))
    (λ i. omega (arith, hand_changed i s.hands c (Giving n id) Empty lt hand, local_changed i s.locals id (Lifted c) Free (lifted_within s.locals id c lifted) lifted))

pub collected_refines : (s : State) (c n id : ℕ) → Holds s → hand_at s c ≡ Giving n id → IsModelRun TakesNone (picture s) (picture (Events.after_collected s c n id))
collected_refines s c n id on hand =
    let lt : c < length s.hands = (hand_full s c Empty (Giving n id) on hand (λ is. let q : Giving n id ≡ Empty = is in cc) tt).0 in
    locals_same s (set s.hands c (Back n id)) s.due s.locals (trying_stays s.hands c (Back n id) (λ u. sym (ap (trying_of u) hand)))
    (λ i. omega (arith, hand_changed i s.hands c (Giving n id) (Back n id) lt hand))

pub split_back_refines : (s : State) (c n id : ℕ) → Holds s → hand_at s c ≡ Back n id → IsModelRun TakesNone (picture s) (picture (Events.after_hand s c Empty id (Standing n)))
split_back_refines s c n id on hand =
    let lt : c < length s.hands = (hand_full s c Empty (Back n id) on hand (λ is. let q : Back n id ≡ Empty = is in cc) tt).0 in
    let lifted = (back_holds s.settings.cpus s.slots s.hands s.due s.locals c n id hand on.references).1 in
    locals_same s (set s.hands c Empty) s.due (set s.locals id (Standing n)) (emptied s c _ hand (λ u. refl))
    (λ i. omega (arith, hand_changed i s.hands c (Back n id) Empty lt hand, local_changed i s.locals id (Lifted c) (Standing n) (lifted_within s.locals id c lifted) lifted))

-- What the keeper does with marks, counts and totals.

waiting_snapshots : (slots : List Slot) (n t c : ℕ) (b : Bool) → subtractions_due slots n (if b then Snapshots t c else Rest) ≡ 0
waiting_snapshots slots n t c b = grind arith

pub snapshot_refines : (s : State) (t c : ℕ) → Events.is_snapshot_due s.due t c ≡ true → IsModelRun TakesNone (picture s) (picture (Events.after_snapshot s t c))
snapshot_refines s t c ok =
    locals_same s s.hands (Events.due_after s t c) s.locals (λ j u. refl)
    (λ n. omega (arith, waiting_else s.slots n s.due (Snapshots t c) (snapshot_due_tells s.due t c ok) refl, waiting_snapshots s.slots n t (c + 1) (nat_lt (c + 1) s.settings.cpus)))

pub collect_refines : (s : State) (t c : ℕ) → Events.may_collect s t c ≡ true → IsModelRun TakesNone (picture s) (picture (Events.after_collect s t c))
collect_refines s t c ok =
    let rest = (may_examine_tells s t c (and_parts _ _ ok).0).0 in
    locals_same s s.hands (Adding t (count_at s.counts c t)) s.locals (λ j u. refl) (λ n. omega (arith, waiting_else s.slots n s.due Rest rest refl))

pub total_add_refines : (s : State) (t old v : ℕ) → s.due ≡ Adding t old → IsModelRun TakesNone (picture s) (picture (Events.after_total s t v))
total_add_refines s t old v is = locals_same s s.hands Rest s.locals (λ j u. refl) (λ n. omega (arith, waiting_else s.slots n s.due (Adding t old) is refl))

pub total_sub_refines : (s : State) (t v : ℕ) → Holds s → s.due ≡ Subtracting t → IsModelRun TakesNone (picture s) (picture (Events.after_total s t v))
total_sub_refines s t v on is =
    let gone : (e : Entry) × (slot_at s.slots t ≡ Retired e) = subst (DueHolds s.settings.cpus s.slots) is on.references.due_at in
    locals_less s gone.0.number s.hands Rest s.locals (λ j u. refl) (λ i. omega (arith, waiting_one s.slots i t gone.0 s.due gone.1 is))

pub join_keeper_refines : (s : State) (id n t : ℕ) → Holds s → local_at s.locals id ≡ Standing n → slot_of s.slots n ≡ Some t → Events.may_join_keeper s t ≡ true
    → IsModelRun TakesNone (picture s) (picture (Events.after_join_keeper s id t))
join_keeper_refines s id n t on at of ok =
    let p = and_parts _ (Events.may_join s t) ok in
    let rest : s.due ≡ Rest = at_rest_tells s.due (and_parts _ _ p.1).0 in
    let gone : (e : Entry) × (slot_at s.slots t ≡ Retired e) = is_retired_tells (slot_at s.slots t) p.0 in
    let has = slot_has s.slots n t of in
    let same : gone.0.number ≡ n = ap (λ (e : Entry). e.number) (one_in gone.0 has.1.0 (slot_at s.slots t) has.1.1 (inr gone.1)) ∙ has.1.2 in
    locals_same s s.hands (Subtracting t) (set s.locals id Free) (λ j u. refl)
    (λ i. let one : one_if (gone.0.number == i) ≡ one_if (n == i) = ap (λ (k : ℕ). one_if (k == i)) same in
    omega (
      arith,
      one,
      waiting_else s.slots i s.due Rest rest refl,
      waiting_one s.slots i t gone.0 (Subtracting t) gone.1 refl,
      local_changed i s.locals id (Standing n) Free (standing_within s.locals id n at) at,
    ))
