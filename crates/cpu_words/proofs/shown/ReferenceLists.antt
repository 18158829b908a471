-- Lists of passive references: how many are to one entry, and what one more or one less changes.
use Rattle.std.proofs.Common.{◌≡◌, ◌⊎◌, inl, inr, ⊎_elim, ℕ, zero, suc, ◌+◌, ◌<◌, Bool, true, false, cond, List, [], ◌∷◌, refl, sym, ap, ◌∙◌, subst, arith}
use Rattle.std.proofs.lemmas.Bool.{eq-eqb, ne_eqb, eqb-true, cases_Bool}
use Rattle.std.proofs.lemmas.List.Sums.{sum_by-cons}
use Rattle.std.specs.List.{Contains}
use Rattle.cpu_words.specs.Types.{Entry}
use Rattle.protocol.specs.Common.{one_if}
use Rattle.cpu_words.specs.Common.{is_to, references_to, without}

-- 1 for an entry with the number n
abbrev one_for : ℕ → Entry → ℕ
one_for n e = cond (is_to n e) 1 0

-- the first of the list counts, and the rest
pub to_cons : (n : ℕ) (e : Entry) (es : List Entry) → references_to n (e ∷ es) ≡ one_for n e + references_to n es
to_cons n e es = sum_by-cons (one_for n) e es

-- one reference more to an entry, and to the others none
pub to_same : (n : ℕ) (e : Entry) (es : List Entry) → e.number ≡ n → references_to n (e ∷ es) ≡ references_to n es + 1
to_same n e es same = omega (arith, to_cons n e es, ap one_if (eq-eqb e.number n same))

pub to_other : (n : ℕ) (e : Entry) (es : List Entry) → (e.number ≡ n → ⊥) → references_to n (e ∷ es) ≡ references_to n es
to_other n e es off = omega (arith, to_cons n e es, ap one_if (ne_eqb e.number n off))

-- what is in a longer list
pub in_cons : (e f : Entry) (es : List Entry) → Contains (e ∷ es) f → (e ≡ f) ⊎ Contains es f
in_cons e f es (zero, lt, is) = inl is
in_cons e f es (suc k, lt, is) = inr (k, omega arith, is)

pub in_rest : (e f : Entry) (es : List Entry) → Contains es f → Contains (e ∷ es) f
in_rest e f es among = (suc among.0, (let lt = among.1 in omega arith), among.2)

-- an entry of the list counts
pub counts : (es : List Entry) (f : Entry) (n : ℕ) → Contains es f → f.number ≡ n → 0 < references_to n es
counts [] f n among same = let lt = among.1 in absurd (omega arith)
counts (e ∷ es) f n among same = ⊎_elim
    (λ (here : e ≡ f). let more = to_same n e es (ap (λ (g : Entry). g.number) here ∙ same) in omega arith)
    (λ (later : Contains es f). let some = counts es f n later same in let all = to_cons n e es in omega arith)
    (in_cons e f es among)

-- one of the references to n
pub record Among (n : ℕ) (es : List Entry) : Type 0 where
  pub entry : Entry
  pub among : Contains es entry
  pub number : entry.number ≡ n

-- where there are references to n, one is in the list
pub some_of : (n : ℕ) (es : List Entry) → 0 < references_to n es → Among n es
some_of n [] some = absurd (omega (arith, some))
some_of n (e ∷ es) some = ⊎_elim
    (λ (test : is_to n e ≡ true). record { entry = e; among = (0, omega arith, refl); number = eqb-true e.number n test })
    (λ (test : is_to n e ≡ false).
    let less = to_other n e es (λ (same : e.number ≡ n). let is : is_to n e ≡ true = eq-eqb e.number n same in cc) in
    let rest = some_of n es (omega (arith, some, less)) in
    record { entry = rest.entry; among = in_rest e rest.entry es rest.among; number = rest.number })
    (cases_Bool (is_to n e))

-- the first of the list is left out, or stays
without_same : (n : ℕ) (e : Entry) (es : List Entry) → is_to n e ≡ true → without n (e ∷ es) ≡ es
without_same n e es test = ap (λ (b : Bool). cond b es (e ∷ without n es)) test

without_other : (n : ℕ) (e : Entry) (es : List Entry) → is_to n e ≡ false → without n (e ∷ es) ≡ e ∷ without n es
without_other n e es test = ap (λ (b : Bool). cond b es (e ∷ without n es)) test

-- one reference less to an entry
pub one_less : (n : ℕ) (es : List Entry) → 0 < references_to n es → references_to n (without n es) + 1 ≡ references_to n es
one_less n [] some = absurd (omega arith)
one_less n (e ∷ es) some = ⊎_elim
    (λ (test : is_to n e ≡ true). omega (arith, ap (references_to n) (without_same n e es test), to_same n e es (eqb-true e.number n test)))
    (λ (test : is_to n e ≡ false).
    let none : one_for n e ≡ 0 = ap one_if test in
    let less = ap (references_to n) (without_other n e es test) in
    let had = to_cons n e es in
    let has = to_cons n e (without n es) in
    let rest = one_less n es (omega arith) in
    omega arith)
    (cases_Bool (is_to n e))

-- and to the others no less
pub others_stay : (n m : ℕ) (es : List Entry) → (m ≡ n → ⊥) → references_to m (without n es) ≡ references_to m es
others_stay n m [] off = refl
others_stay n m (e ∷ es) off = ⊎_elim
    (λ (test : is_to n e ≡ true). ap (references_to m) (without_same n e es test) ∙ sym (to_other m e es (λ same. off (sym same ∙ eqb-true e.number n test))))
    (λ (test : is_to n e ≡ false). omega (arith, ap (references_to m) (without_other n e es test), to_cons m e es, to_cons m e (without n es), others_stay n m es off))
    (cases_Bool (is_to n e))

-- what is left was there
pub was_in : (n : ℕ) (es : List Entry) (f : Entry) → Contains (without n es) f → Contains es f
was_in n [] f among = among
was_in n (e ∷ es) f among = ⊎_elim
    (λ (test : is_to n e ≡ true). in_rest e f es (subst (λ (l : List Entry). Contains l f) (without_same n e es test) among))
    (λ (test : is_to n e ≡ false). ⊎_elim
    (λ (here : e ≡ f). (0, omega arith, here))
    (λ (later : Contains (without n es) f). in_rest e f es (was_in n es f later))
    (in_cons e f (without n es) (subst (λ (l : List Entry). Contains l f) (without_other n e es test) among)))
    (cases_Bool (is_to n e))
