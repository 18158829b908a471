-- Places of rows, of slots, totals and marks after one is written: how rows grow, and which slot has the entry with a number.
use Rattle.std.proofs.Common.{◌≡◌, ℕ, zero, suc, ◌<◌, ◌⊎◌, List, [], length, get_or, set, replicate, refl, sym, ap, subst, ◌∙◌, get_or-set_same, get_or-set_other, Bool, None, Some, arith, false, true, ◌∷◌, take, ◌||◌}
use Rattle.std.proofs.lemmas.List.{set_past}
use Rattle.std.proofs.lemmas.Bool.{cases_eq, and_from}
use Rattle.std.proofs.lemmas.Option.{none-some}
use Rattle.std.specs.List.{list_all, list_any}
use Rattle.std.specs.Prelude.{position}
use Rattle.protocol.specs.Types.{Entry, Slot, Vacant, Change, Mark}
use Rattle.registry_values.specs.Common.{slot_at, slot_of, Grows, are_clear, are_collected, have_passed, is_clear, is_collected, is_passed, no_mark, is_retired}
use Rattle.registry_values.proofs.Fit.{ranges}
use Rattle.protocol.specs.Common.{cell, with_cell, total_at, IsIn, IsAttached, Occupies, SlotsShow, Rest, Snapshots, AllClear, AllCollected, AllPassed, MarksGrow, SameElsewhere, Holds, at_rest, State, mark_at}
use Rattle.protocol.proofs.Occupied.{not_vacant, one_in as same_in, place_cases, written_cases, at_rest_tells, is_retired_tells, position_found, slot_found, slot_its}
use Rattle.protocol.proofs.Either.{either}

-- it is the place that was written, or another
pub by_place : (P : ℕ → Type 0) (c j : ℕ) → P c → ((j ≡ c → ⊥) → P j) → P j
by_place P c j here other = either (cases_eq j c) (λ same. subst P (sym same) here) (λ off. other off)

-- the same of a place in a row
pub by_cell : (P : ℕ → ℕ → Type 0) (t c u j : ℕ) → P t c → ((u ≡ t → j ≡ c → ⊥) → P u j) → P u j
by_cell P t c u j here other = grind (arith, cases_eq u t, cases_eq j c)

-- the row that was written, and the others
pub row_here : {X : Type 0} (rows : List (List X)) (t c : ℕ) (x : X) → t < length rows → get_or (with_cell rows t c x) t [] ≡ set (get_or rows t []) c x
row_here rows t c x lt = get_or-set_same rows t (set (get_or rows t []) c x) [] lt

pub row_other : {X : Type 0} (rows : List (List X)) (t c : ℕ) (x : X) (u : ℕ) → (u ≡ t → ⊥) → get_or (with_cell rows t c x) u [] ≡ get_or rows u []
row_other rows t c x u off = get_or-set_other rows t u (set (get_or rows t []) c x) [] off

pub cell_here : {X : Type 0} (d : X) (rows : List (List X)) (t c : ℕ) (x : X) → t < length rows → c < length (get_or rows t []) → cell d (with_cell rows t c x) t c ≡ x
cell_here {X} d rows t c x lt cl = ap (λ (r : List X). get_or r c d) (row_here rows t c x lt) ∙ get_or-set_same (get_or rows t []) c x d cl

pub cell_other : {X : Type 0} (d : X) (rows : List (List X)) (t c : ℕ) (x : X) (u j : ℕ) → (u ≡ t → j ≡ c → ⊥) → cell d (with_cell rows t c x) u j ≡ cell d rows u j
cell_other {X} d rows t c x u j off = grind (arith, row_here, get_or-set_other, set_past, row_other, cases_eq u t)

-- what was written, or what stood there
pub cell_cases : {X : Type 0} (d : X) (rows : List (List X)) (t c : ℕ) (x : X) (u j : ℕ)
    → ((u ≡ t) × (j ≡ c) × (cell d (with_cell rows t c x) u j ≡ x)) ⊎ (cell d (with_cell rows t c x) u j ≡ cell d rows u j)
cell_cases {X} d rows t c x u j = grind (arith, cell_here, row_here, set_past, cell_other, cases_eq u t, cases_eq j c)

-- what holds of a place after a write: of what was written there, and of each place before
pub place_put : {X : Type 0} (d : X) (xs : List X) (t : ℕ) (x : X) (P : ℕ → X → Type 0) (u : ℕ) → P t x → P u (get_or xs u d) → P u (get_or (set xs t x) u d)
place_put {X} d xs t x P u here old = grind (arith, written_cases)

-- the same of a place in the list, where the others alone are asked of
pub place_in : {X : Type 0} (d : X) (xs : List X) (t : ℕ) (x : X) (P : ℕ → X → Type 0) (u : ℕ) → t < length xs → P t x → ((u ≡ t → ⊥) → P u (get_or xs u d)) → P u (get_or (set xs t x) u d)
place_in {X} d xs t x P u lt here other = grind (arith, place_cases)

-- of a place in a row
pub cell_put : {X : Type 0} (d : X) (rows : List (List X)) (t c : ℕ) (x : X) (P : ℕ → ℕ → X → Type 0) (u j : ℕ) → P t c x → P u j (cell d rows u j) → P u j (cell d (with_cell rows t c x) u j)
cell_put {X} d rows t c x P u j here old = grind (arith, cell_cases)

-- a row that was written whole
pub cell_in_new : {X : Type 0} (d : X) (rows : List (List X)) (t : ℕ) (row : List X) (j : ℕ) → t < length rows → cell d (set rows t row) t j ≡ get_or row j d
cell_in_new {X} d rows t row j lt = ap (λ (r : List X). get_or r j d) (get_or-set_same rows t row [] lt)

pub cell_in_old : {X : Type 0} (d : X) (rows : List (List X)) (t : ℕ) (row : List X) (u j : ℕ) → (u ≡ t → ⊥) → cell d (set rows t row) u j ≡ cell d rows u j
cell_in_old {X} d rows t row u j off = ap (λ (r : List X). get_or r j d) (get_or-set_other rows t u row [] off)

-- each place of such a list shows x, and so does each place past its end
pub get_or_all : {X : Type 0} (n : ℕ) (x : X) (i : ℕ) → get_or (replicate n x) i x ≡ x
get_or_all zero x i = refl
get_or_all (suc n) x zero = refl
get_or_all (suc n) x (suc i) = get_or_all n x i

-- a slot has one entry
pub one_in : (e f : Entry) (x : Slot) → IsIn e x → IsIn f x → f ≡ e
one_in e f x first second = same_in f e x first second

-- the slot that was written, and the others
pub slot_here : (slots : List Slot) (t : ℕ) (x : Slot) → t < length slots → slot_at (set slots t x) t ≡ x
slot_here slots t x lt = get_or-set_same slots t x Vacant lt

pub slot_other : (slots : List Slot) (t : ℕ) (x : Slot) (u : ℕ) → (u ≡ t → ⊥) → slot_at (set slots t x) u ≡ slot_at slots u
slot_other slots t x u off = get_or-set_other slots t u x Vacant off

-- a slot that isn't the one made vacant
pub not_vacated : (slots : List Slot) (t : ℕ) (u : ℕ) (f : Entry) → t < length slots → IsIn f (slot_at (set slots t Vacant) u) → u ≡ t → ⊥
not_vacated slots t u f lt is same = not_vacant f (slot_at (set slots t Vacant) u) (ap (slot_at (set slots t Vacant)) same ∙ slot_here slots t Vacant lt) is

-- the total that was written, and the others
pub total_here : (totals : List ℕ) (t v : ℕ) → t < length totals → total_at (set totals t v) t ≡ v
total_here totals t v lt = get_or-set_same totals t v 0 lt

pub total_other : (totals : List ℕ) (t v u : ℕ) → (u ≡ t → ⊥) → total_at (set totals t v) u ≡ total_at totals u
total_other totals t v u off = get_or-set_other totals t u v 0 off

-- Which slot has the entry with a number.

-- where a place passes, one is found
pub position_passes : {X : Type 0} (p : X → Bool) (xs : List X) (k : ℕ) (d : X) → k < length xs → p (get_or xs k d) ≡ true → (i : ℕ) × (position p xs ≡ Some i)
position_passes p xs k d lt passes = position_found p d xs k lt passes

-- and where none is found, no place passes
pub position_fails : {X : Type 0} (p : X → Bool) (xs : List X) (k : ℕ) (d : X) → position p xs ≡ None → k < length xs → p (get_or xs k d) ≡ true → ⊥
position_fails p xs k d none lt passes = let i = position_passes p xs k d lt passes in none-some i.0 (sym none ∙ i.1)

-- an entry in a slot is attached, in that slot
pub entry_attached : (h : List Change) (slots : List Slot) (e : Entry) (t : ℕ) → SlotsShow h slots → IsIn e (slot_at slots t) → IsAttached h e × (e.slot ≡ t)
entry_attached h slots e t show is = grind arith

-- the slot of an entry's number is its own
pub slot_number : (h : List Change) (slots : List Slot) (e : Entry) (t : ℕ) → SlotsShow h slots → IsIn e (slot_at slots t) → slot_of slots e.number ≡ Some t
slot_number h slots e t show is =
    let found = slot_found slots e.number (t, e, is, refl) in
    found.1 ∙ ap Some (slot_its h slots t found.0 e show is found.1)

-- a number that some slot has is found
pub occupied_slot : (h : List Change) (slots : List Slot) (n : ℕ) → SlotsShow h slots → Occupies slots n → (t : ℕ) × (slot_of slots n ≡ Some t)
occupied_slot h slots n show o = slot_found slots n o

-- Rows of marks: how they grow, and what all their marks say together.

pub snapshot_stands : (s : State) (t c : ℕ) → Holds s → at_rest s.due ≡ true → is_retired (slot_at s.slots t) ≡ true → c < s.settings.cpus → (w : ℕ) × ((mark_at s.marks t c).snapshot ≡ Some w)
snapshot_stands s t c on rest gone lt =
    let e = is_retired_tells (slot_at s.slots t) gone in
    on.snapshots t c e.0 e.1 lt (λ due. let q : Rest ≡ Snapshots t due.0 = sym (at_rest_tells s.due rest) ∙ due.1 in cc)

-- one mark of a row is written
pub mark_written : (P : Mark → Mark → Type 0) (marks : List (List Mark)) (t c : ℕ) (m : Mark) → ((x : Mark) → P x x) → P (mark_at marks t c) m → (j : ℕ)
    → P (mark_at marks t j) (mark_at (with_cell marks t c m) t j)
mark_written P marks t c m same new j = cell_put no_mark marks t c m (λ v i x. v ≡ t → P (mark_at marks v i) x) t j (λ _. new) (λ _. same (mark_at marks t j)) refl

pub row_elsewhere : {X : Type 0} (rows : List (List X)) (t c : ℕ) (x : X) → SameElsewhere rows (with_cell rows t c x) t
row_elsewhere rows t c x u off = get_or-set_other rows t u (set (get_or rows t []) c x) [] off

-- what is written is there
pub mark_there : (s : State) (t c : ℕ) (m : Mark) → Holds s → t < s.settings.slots → c < s.settings.cpus → mark_at (with_cell s.marks t c m) t c ≡ m
mark_there s t c m on ts lt =
    let tm : t < length s.marks = omega (arith, on.shape.marks) in
    let cm : c < length (get_or s.marks t []) = omega (arith, on.shape.mark_rows t tm, (ranges s.settings on.fit).cpus, lt) in
    ap (λ (r : List Mark). get_or r c no_mark) (get_or-set_same s.marks t (set (get_or s.marks t []) c m) [] tm) ∙ get_or-set_same (get_or s.marks t []) c m no_mark cm

all_from : (p : Mark → Bool) (n : ℕ) (row : List Mark) → ((c : ℕ) → c < n → p (get_or row c no_mark) ≡ true) → list_all p (take n row) ≡ true
all_from p zero row each = refl
all_from p (suc n) [] each = refl
all_from p (suc n) (x ∷ row) each = and_from (p x) (list_all p (take n row)) (each 0 (omega arith)) (all_from p n row (λ c lt. each (suc c) (omega arith)))

pub passed_from : (s : State) (t : ℕ) → AllPassed s t → have_passed s.settings.cpus (get_or s.marks t []) ≡ true
passed_from s t all = all_from is_passed s.settings.cpus (get_or s.marks t []) all

pub clear_from : (s : State) (t : ℕ) → AllClear s t → are_clear s.settings.cpus (get_or s.marks t []) ≡ true
clear_from s t all = all_from is_clear s.settings.cpus (get_or s.marks t []) all

pub collected_from : (s : State) (t : ℕ) → AllCollected s t → are_collected s.settings.cpus (get_or s.marks t []) ≡ true
collected_from s t all = all_from is_collected s.settings.cpus (get_or s.marks t []) all

pub grows_none : (m : Mark) → Grows m m
grows_none m = record { snapshot = refl; passed = λ x. x; clear = λ x. x; collected = λ x. x }

pub grows_more : (a b d : Mark) → Grows a b → Grows b d → Grows a d
grows_more a b d x y = record { snapshot = y.snapshot ∙ x.snapshot; passed = λ p. y.passed (x.passed p); clear = λ p. y.clear (x.clear p); collected = λ p. y.collected (x.collected p) }

pub marks_grow_none : (marks : List (List Mark)) (t : ℕ) → MarksGrow marks marks t
marks_grow_none marks t = record { elsewhere = λ u off. refl; here = λ c. grows_none (mark_at marks t c) }

pub marks_grow_more : (a b d : List (List Mark)) (t : ℕ) → MarksGrow a b t → MarksGrow b d t → MarksGrow a d t
marks_grow_more a b d t x y = record { elsewhere = λ u off. y.elsewhere u off ∙ x.elsewhere u off; here = λ c. grows_more (mark_at a t c) (mark_at b t c) (mark_at d t c) (x.here c) (y.here c) }

pub mark_grows : (marks : List (List Mark)) (t c : ℕ) (m : Mark) → Grows (mark_at marks t c) m → MarksGrow marks (with_cell marks t c m) t
mark_grows marks t c m grows = record { elsewhere = row_elsewhere marks t c m; here = mark_written Grows marks t c m grows_none grows }

pub any_within : {X : Type 0} (p : X → Bool) (n : ℕ) (row : List X) (d : X) (c : ℕ) → c < n → c < length row → p (get_or row c d) ≡ true → list_any p (take n row) ≡ true
any_within p n [] d c lt within is = absurd (omega arith)
any_within p zero (x ∷ row) d c lt within is = absurd (omega arith)
any_within p (suc n) (x ∷ row) d zero lt within is = rw is refl
any_within p (suc n) (x ∷ row) d (suc c) lt within is = rw (any_within p n row d c (omega arith) (omega arith) is) (elim (p x) as (λ (b : Bool). (b || true) ≡ true) [ true ↦ refl | false ↦ refl ])
