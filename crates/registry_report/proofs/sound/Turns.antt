-- A function with one value put, labels that are counted, and answers behind tests: what the turns share.
use Rattle.std.proofs.Common.{◌≡◌, ℕ, zero, suc, ◌+◌, ◌-◌, ◌<◌, ◌≤◌, ◌⊎◌, inl, inr, List, [], ◌∷◌, Option, Some, None, Bool, true, false, refl, sym, ap, subst, ◌∙◌, arith, eqb-true}
use Rattle.std.specs.Prelude.{Result, Ok, Err, if◌then◌else◌}
use Rattle.std.proofs.lemmas.Bool.{cases_eq, cases_lt, eq-eqb, ne_eqb}
use Rattle.std.specs.List.{All}
use Rattle.std.proofs.lemmas.List.Elements.{All-head, All-tail}
use Rattle.std.proofs.lemmas.Option.{none-some, same_Some}
use Rattle.protocol.specs.Common.{one_if, put, Stays}
use Rattle.protocol.proofs.model.RefiningSections.{join_runs, put_here, put_other}
use Rattle.registry_report.specs.Types.{Refusal, Settings}
use Rattle.registry_report.specs.Common.{Hitch, Refused, count_below, command_answer, is_this, Registry, opening_registry, after_each, labels_for, IsSound, IsLawfulTurn, on_ok}
use Rattle.protocol.proofs.History.{empty_brings}
use Rattle.protocol.proofs.Either.{either}
use Rattle.protocol.proofs.keeps.MarkKeeps.{legal_opening}

-- A function with one value put

pub put_cases : {X : Type 0} (f : ℕ → X) (i : ℕ) (x : X) (j : ℕ) → ((j ≡ i) × (put f i x j ≡ x)) ⊎ ((j ≡ i → ⊥) × (put f i x j ≡ f j))
put_cases {X} f i x j = either (cases_eq j i) (λ same. inl (same, ap (put f i x) same ∙ put_here f i x)) (λ off. inr (off, put_other f i x j off))

-- what stands where nothing was taken away stood there before
pub put_none : {X : Type 0} (f : ℕ → Option X) (i j : ℕ) (y : X) → put f i None j ≡ Some y → (j ≡ i → ⊥) × (f j ≡ Some y)
put_none {X} f i j y is = either (put_cases f i None j) (λ here. absurd (none-some y (sym here.1 ∙ is))) (λ off. (off.0, sym off.1 ∙ is))

-- a full place stays so, where an empty one is written
pub still_there : {X : Type 0} (f : ℕ → Option X) (i j : ℕ) (x : Option X) (y : X) → f i ≡ None → f j ≡ Some y → put f i x j ≡ Some y
still_there {X} f i j x y empty is = put_other f i x j (λ same. none-some y (sym empty ∙ (ap f (sym same) ∙ is))) ∙ is

-- and where one with another value is emptied
pub still_beside : (f : ℕ → Option ℕ) (i j n k : ℕ) → f i ≡ Some n → f j ≡ Some k → (k ≡ n → ⊥) → put f i None j ≡ Some k
still_beside f i j n k full is other = put_other f i None j (λ same. other (same_Some k n (sym is ∙ (ap f same ∙ full)))) ∙ is

-- each value is at most n
pub put_capped : (f : ℕ → ℕ) (i n m : ℕ) → ((j : ℕ) → f j ≤ m) → m ≤ n → (j : ℕ) → put f i n j ≤ n
put_capped f i n m all le j = either (put_cases f i n j) (λ here. omega (arith, here.1)) (λ off. omega (arith, off.1, all j))

-- Labels

pub is_this_own : (n : ℕ) → is_this n (Some n) ≡ true
is_this_own n = eq-eqb n n refl

pub is_this_other : (n m : ℕ) → (n ≡ m → ⊥) → is_this m (Some n) ≡ false
is_this_other n m off = ne_eqb n m off

pub is_this_tells : (n : ℕ) (o : Option ℕ) → is_this n o ≡ true → o ≡ Some n
is_this_tells n None is = absurd (let q : ◌≡◌ {A = Bool} false true = is in cc)
is_this_tells n (Some m) is = ap (λ (k : ℕ). Some k) (eqb-true m n is)

-- of labels before x nothing changes
count_before : (labels : ℕ → Option ℕ) (n x : ℕ) (l : Option ℕ) (k : ℕ) → k ≤ x → labels_for (put labels x l) n k ≡ labels_for labels n k
count_before labels n x l zero le = refl
count_before labels n x l (suc k) le =
    let here : one_if (is_this n (put labels x l k)) ≡ one_if (is_this n (labels k)) = ap (λ (o : Option ℕ). one_if (is_this n o)) (put_other labels x l k (λ same. omega arith)) in
    omega (arith, here, count_before labels n x l k (omega arith))

-- past x there is what the new one makes of it
count_past : (labels : ℕ → Option ℕ) (n x : ℕ) (l : Option ℕ) (k : ℕ) → x < k → labels_for (put labels x l) n k + one_if (is_this n (labels x)) ≡ labels_for labels n k + one_if (is_this n l)
count_past labels n x l zero lt = absurd (omega arith)
count_past labels n x l (suc k) lt = either (cases_lt x k)
    (λ low.
    let here : one_if (is_this n (put labels x l k)) ≡ one_if (is_this n (labels k)) = ap (λ (o : Option ℕ). one_if (is_this n o)) (put_other labels x l k (λ same. omega arith)) in
    omega (arith, here, count_past labels n x l k low))
    (λ ge.
    let same : k ≡ x = omega arith in
    let here : one_if (is_this n (put labels x l k)) ≡ one_if (is_this n l) = ap (λ (o : Option ℕ). one_if (is_this n o)) (ap (put labels x l) same ∙ put_here labels x l) in
    let was : one_if (is_this n (labels k)) ≡ one_if (is_this n (labels x)) = ap (λ (j : ℕ). one_if (is_this n (labels j))) same in
    omega (arith, here, was, count_before labels n x l k ge))

count_more : (p : ℕ → Bool) (k j : ℕ) → count_below p k ≤ count_below p (k + j)
count_more p k zero = let same : k + 0 ≡ k = omega arith in omega (arith, ap (count_below p) same)
count_more p k (suc j) =
    let same : k + suc j ≡ suc (k + j) = omega arith in
    omega (arith, ap (count_below p) same, count_more p k j)

-- a number that a label names is counted
pub labelled_counts : (labels : ℕ → Option ℕ) (x n : ℕ) → labels x ≡ Some n → 0 < labels_for labels n (suc x)
labelled_counts labels x n is =
    let one : one_if (is_this n (labels x)) ≡ 1 = ap (λ (o : Option ℕ). one_if (is_this n o)) is ∙ ap one_if (is_this_own n) in
    omega (arith, one)

-- of another number nothing changes
count_beside : (labels : ℕ → Option ℕ) (n x : ℕ) (l : Option ℕ) (k : ℕ) → is_this n (labels x) ≡ false → is_this n l ≡ false → labels_for (put labels x l) n k ≡ labels_for labels n k
count_beside labels n x l k was now = either (cases_lt x k)
    (λ low. omega (arith, ap one_if was, ap one_if now, count_past labels n x l k low))
    (λ ge. count_before labels n x l k ge)

-- a label is given up with its reference
pub dropped_counts : (labels : ℕ → Option ℕ) (locals : ℕ → ℕ) (x n : ℕ) → labels x ≡ Some n → ((m k : ℕ) → labels_for labels m k ≤ locals m)
    → (m k : ℕ) → labels_for (put labels x None) m k ≤ put locals n (locals n - 1) m
dropped_counts labels locals x n is all m k = either (put_cases locals n (locals n - 1) m)
    (λ here.
    let top : ℕ = k + suc x in
    let more : labels_for (put labels x None) m k ≤ labels_for (put labels x None) m (k + suc x) = count_more (λ y. is_this m (put labels x None y)) k (suc x) in
    let change = count_past labels m x None (k + suc x) (omega arith) in
    let one : one_if (is_this m (labels x)) ≡ 1 = ap (λ (o : Option ℕ). one_if (is_this m o)) is ∙ ap one_if (eq-eqb n m (sym here.0)) in
    omega (arith, more, change, one, here.1, all m (k + suc x), ap locals here.0))
    (λ off.
    let was : is_this m (labels x) ≡ false = ap (is_this m) is ∙ is_this_other n m (λ same. off.0 (sym same)) in
    omega (arith, count_beside labels m x None k was refl, off.1, all m k))

-- and one is filled with one more
pub added_counts : (labels : ℕ → Option ℕ) (locals : ℕ → ℕ) (x n : ℕ) → labels x ≡ None → ((m k : ℕ) → labels_for labels m k ≤ locals m)
    → (m k : ℕ) → labels_for (put labels x (Some n)) m k ≤ put locals n (locals n + 1) m
added_counts labels locals x n free all m k = either (put_cases locals n (locals n + 1) m)
    (λ here.
    let one : one_if (is_this m (Some n)) ≡ 1 = ap one_if (eq-eqb n m (sym here.0)) in
    let none : one_if (is_this m (labels x)) ≡ 0 = ap (λ (o : Option ℕ). one_if (is_this m o)) free in
    either (cases_lt x k)
    (λ low. omega (arith, count_past labels m x (Some n) k low, one, none, here.1, all m k, ap locals here.0))
    (λ ge. omega (arith, count_before labels m x (Some n) k ge, here.1, all m k, ap locals here.0)))
    (λ off.
    omega (arith, count_beside labels m x (Some n) k (ap (is_this m) free) (is_this_other n m (λ same. off.0 (sym same))), off.1, all m k))

-- where none is counted, none passes
pub count_none : (p : ℕ → Bool) (k t : ℕ) → count_below p k ≡ 0 → t < k → p t ≡ false
count_none p zero t none lt = absurd (omega arith)
count_none p (suc k) t none lt = either (cases_lt t k)
    (λ low. count_none p k t (omega (arith, none)) low)
    (λ ge. ap p (let same : t ≡ k = omega arith in same) ∙ no_one (p k) (omega (arith, none)))
  where
    no_one : (b : Bool) → one_if b ≡ 0 → b ≡ false
    no_one true is = absurd (omega (arith, is))
    no_one false is = refl

count_empty : (n k : ℕ) → labels_for (λ x. None) n k ≡ 0
count_empty n zero = refl
count_empty n (suc k) = omega (arith, count_empty n k)

-- Tests and answers

pub same_ok : {X E : Type 0} (a b : X) → ◌≡◌ {A = Result X E} (Ok a) (Ok b) → a ≡ b
same_ok a b is = cc

pub not_ok : {X E : Type 0} (f : E) (x : X) → ◌≡◌ {A = Result X E} (Err f) (Ok x) → ⊥
not_ok f x is = cc

-- a result that a test refuses, or accepts
pub else_ok : {X E : Type 0} (b : Bool) (f : E) (answer : Result X E) (x : X) → ◌≡◌ {A = Result X E} (if b then Err f else answer) (Ok x) → (b ≡ false) × (answer ≡ Ok x)
else_ok true f answer x is = absurd (not_ok f x is)
else_ok false f answer x is = (refl, is)

pub then_ok : {X E : Type 0} (b : Bool) (f : E) (answer : Result X E) (x : X) → ◌≡◌ {A = Result X E} (if b then answer else Err f) (Ok x) → (b ≡ true) × (answer ≡ Ok x)
then_ok true f answer x is = (refl, is)
then_ok false f answer x is = absurd (not_ok f x is)

pub hitched_ok : {X : Type 0} (answer : Result X Refusal) (x : X) → command_answer answer ≡ Ok x → answer ≡ Ok x
hitched_ok (Ok y) x is = ap (λ z. Ok z) (same_ok {E = Hitch} y x is)
hitched_ok (Err f) x is = absurd (not_ok (Refused f) x is)

-- Turns

-- nothing happens
pub idle_turn : (r : Registry) → IsSound r → IsLawfulTurn r r
idle_turn r on = (on, Stays, refl)

-- a turn by an answer is one by each that is Ok
pub ok_turn : {X E : Type 0} (r : Registry) (answer : Result X E) (f : X → Registry) → IsSound r → ((x : X) → answer ≡ Ok x → IsLawfulTurn r (f x)) → IsLawfulTurn r (on_ok r answer f)
ok_turn r (Ok x) f on turn = turn x refl
ok_turn r (Err e) f on turn = idle_turn r on

-- commands that fit the settings; each makes a lawful turn
pub each_turn : {C : Type 0} (after : Registry → C → Registry) (Fits : Settings → C → Type 0) → ((r : Registry) (x : C) → IsSound r → Fits r.settings x → IsLawfulTurn r (after r x))
    → (r : Registry) (xs : List C) → IsSound r → All (Fits r.settings) xs → IsLawfulTurn r (after_each after r xs)
each_turn {C} after Fits turn r [] on fits = idle_turn r on
each_turn {C} after Fits turn r (x ∷ xs) on fits =
    let first = turn r x on (All-head (Fits r.settings) x xs fits) in
    let rest : All (Fits (after r x).settings) xs = subst (λ (z : Settings). All (Fits z) xs) (sym first.2) (All-tail (Fits r.settings) x xs fits) in
    let second = each_turn after Fits turn (after r x) xs first.0 rest in
    (second.0, join_runs r.model (after r x).model (after_each after (after r x) xs).model first.1 second.1, second.2 ∙ first.2)

-- As a script begins

pub opened_sound : (z : Settings) → IsSound (opening_registry z)
opened_sound z = record {
  legal = legal_opening;
  live = λ e on. absurd (empty_brings e.number e on.attached);
  held = λ c b e in_ hold. absurd (none-some b in_);
  begun = λ c b in_. absurd (none-some b in_);
  seen = λ c. omega arith;
  unsearching = λ c. refl;
  last_found = λ c e is. absurd (none-some e is);
  referring = λ c n some. absurd (omega (arith, some));
  keeping = λ t d is. absurd (none-some d is);
  labelled = λ x n is. absurd (none-some n is);
  counted = λ n k. omega (arith, count_empty n k);
}
