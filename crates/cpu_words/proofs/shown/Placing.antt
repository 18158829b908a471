-- Where the words lie: no two share a place, those of two owners are at least nine words apart, and one step changes one word.
use Rattle.std.proofs.Common.{◌≡◌, ℕ, ◌+◌, ◌*◌, ◌<◌, ◌≤◌, List, length, get_or, set, refl, sym, ap, ◌∙◌, subst, arith, length-set, get_or-set_same, get_or-set_other, inl, inr, ⊎_elim, Option, Some, None}
use Rattle.std.proofs.lemmas.Nat.{same_from_place, row_fits}
use Rattle.std.proofs.lemmas.Bool.{cases_order}
use mathlib.Core.Logic.{dite}
use native.Mathlib.Decide.{ℕ_discrete}
use Rattle.cpu_words.specs.Types.{Settings}
use Rattle.protocol.specs.Common.{State}
use Rattle.cpu_words.specs.Common.{Spot, section_of, passive_of, count_of, head_word, live_of, next_of, record_of, total_of, index, IsSpot, rows_from, stride_of, words_of, word_at, Agrees, owner, AreApart, LinesApart, OnePlace, FirstWordsFree}

-- two places of rows that are one: one row, and one place in it
in_rows : (z : Settings) (c d a b : ℕ) → a < stride_of z.slots → b < stride_of z.slots → rows_from z.slots + c * stride_of z.slots + a ≡ rows_from z.slots + d * stride_of z.slots + b → (c ≡ d) × (a ≡ b)
in_rows z c d a b p q e = same_from_place c a d b (stride_of z.slots) p q (omega arith)

-- a CPU's row lies within the table
pub row_within : (z : Settings) (c : ℕ) → c < z.cpus → rows_from z.slots + c * stride_of z.slots + stride_of z.slots ≤ words_of z
row_within z c lt = omega (arith, row_fits c (stride_of z.slots) z.cpus (stride_of z.slots) lt (omega arith))

-- two words at one place are one word
pub same_spot : (z : Settings) (p q : Spot) → IsSpot z p → IsSpot z q → index z q ≡ index z p → q ≡ p
same_spot z (section_of c) (section_of c') here there e = let p = in_rows z c' c (0) (0) (omega (arith, there)) (omega (arith, here)) (omega arith) in ap section_of p.0
same_spot z (section_of c) (passive_of c' t') here there e = let p = in_rows z c' c (1 + t') (0) (omega (arith, there)) (omega (arith, here)) (omega arith) in absurd (omega (arith, p.1, here, there))
same_spot z (section_of c) (count_of c' t') here there e = let p = in_rows z c' c (1 + z.slots + t') (0) (omega (arith, there)) (omega (arith, here)) (omega arith) in absurd (omega (arith, p.1, here, there))
same_spot z (passive_of c t) (section_of c') here there e = let p = in_rows z c' c (0) (1 + t) (omega (arith, there)) (omega (arith, here)) (omega arith) in absurd (omega (arith, p.1, here, there))
same_spot z (passive_of c t) (passive_of c' t') here there e = let p = in_rows z c' c (1 + t') (1 + t) (omega (arith, there)) (omega (arith, here)) (omega arith) in let j : t' ≡ t = omega (arith, p.1) in ap (λ (k : ℕ). passive_of k t') p.0 ∙ ap (passive_of c) j
same_spot z (passive_of c t) (count_of c' t') here there e = let p = in_rows z c' c (1 + z.slots + t') (1 + t) (omega (arith, there)) (omega (arith, here)) (omega arith) in absurd (omega (arith, p.1, here, there))
same_spot z (count_of c t) (section_of c') here there e = let p = in_rows z c' c (0) (1 + z.slots + t) (omega (arith, there)) (omega (arith, here)) (omega arith) in absurd (omega (arith, p.1, here, there))
same_spot z (count_of c t) (passive_of c' t') here there e = let p = in_rows z c' c (1 + t') (1 + z.slots + t) (omega (arith, there)) (omega (arith, here)) (omega arith) in absurd (omega (arith, p.1, here, there))
same_spot z (count_of c t) (count_of c' t') here there e = let p = in_rows z c' c (1 + z.slots + t') (1 + z.slots + t) (omega (arith, there)) (omega (arith, here)) (omega arith) in let j : t' ≡ t = omega (arith, p.1) in ap (λ (k : ℕ). count_of k t') p.0 ∙ ap (count_of c) j
same_spot z head_word head_word here there e = refl
same_spot z (live_of t) (live_of t') here there e = let i : t' ≡ t = omega arith in ap live_of i
same_spot z (next_of t) (next_of t') here there e = let i : t' ≡ t = omega arith in ap next_of i
same_spot z (record_of t k) (record_of t' k') here there e = let i : t' ≡ t = omega arith in let j : k' ≡ k = omega (arith, e, i, here, there) in ap (λ (k : ℕ). record_of k k') i ∙ ap (record_of t) j
same_spot z (total_of t) (total_of t') here there e = let i : t' ≡ t = omega arith in ap total_of i
same_spot z p q here there e = absurd (omega arith)

pub below_size : (z : Settings) (p : Spot) → IsSpot z p → index z p < words_of z
below_size z (section_of c) here = omega (arith, row_within z c here)
below_size z (passive_of c t) here = omega (arith, row_within z c here.0, here.1)
below_size z (count_of c t) here = omega (arith, row_within z c here.0, here.1)
below_size z head_word here = omega arith
below_size z q here = omega (arith, here)

-- one word changes
pub agrees_set : (z : Settings) (words : List ℕ) (g g' : State) (p : Spot) (n : ℕ) → Agrees z words g → g'.settings ≡ g.settings → IsSpot g.settings p → word_at g' p ≡ n
    → ((q : Spot) → IsSpot g.settings q → (q ≡ p → ⊥) → word_at g' q ≡ word_at g q) → Agrees z (set words (index z p) n) g'
agrees_set z words g g' p n agrees same here is others =
    let mine : IsSpot z p = subst (λ (y : Settings). IsSpot y p) agrees.settings here in
    let lt : index z p < length words = omega (arith, below_size z p mine, agrees.size) in record {
      settings = same ∙ agrees.settings;
      size = length-set words (index z p) n ∙ agrees.size;
      at = λ q there'.
          let there = subst (λ (y : Settings). IsSpot y q) same there' in
          let its = subst (λ (y : Settings). IsSpot y q) agrees.settings there in
          dite (ℕ_discrete (index z q) (index z p))
          (λ e. ap (λ k. get_or (set words (index z p) n) k 0) e ∙ get_or-set_same words (index z p) n 0 lt ∙ sym (ap (word_at g') (same_spot z p q mine its e) ∙ is))
          (λ ne. get_or-set_other words (index z p) (index z q) n 0 ne ∙ agrees.at q there ∙ sym (others q there (λ e. ne (ap (index z) e))));
      unused = λ i free. get_or-set_other words (index z p) i n 0 (λ e. free.1 p mine (sym e)) ∙ agrees.unused i free;
    }

-- no word changes
pub agrees_same : (z : Settings) (words : List ℕ) (g g' : State) → Agrees z words g → g'.settings ≡ g.settings → ((q : Spot) → IsSpot g.settings q → word_at g' q ≡ word_at g q) → Agrees z words g'
agrees_same z words g g' agrees same others = record {
  settings = same ∙ agrees.settings;
  size = agrees.size;
  at = λ q there'. let there = subst (λ (y : Settings). IsSpot y q) same there' in agrees.at q there ∙ sym (others q there);
  unused = agrees.unused;
}

-- The words of two owners are at least nine words apart.

-- a CPU's words lie in its row, and the shared ones before all rows
abbrev LiesIn : Settings → Option ℕ → ℕ → Type 0
LiesIn z (Some c) i = (rows_from z.slots + c * stride_of z.slots ≤ i) × (i + 16 ≤ rows_from z.slots + c * stride_of z.slots + stride_of z.slots)
LiesIn z None i = i + 9 ≤ rows_from z.slots

-- each word lies where its owner's lie
lies_in : (z : Settings) (p : Spot) → IsSpot z p → LiesIn z (owner p) (index z p)
lies_in z (section_of c) here = (omega arith, omega arith)
lies_in z (passive_of c t) here = (omega arith, omega (arith, here))
lies_in z (count_of c t) here = (omega arith, omega (arith, here))
lies_in z head_word here = omega arith
lies_in z q here = omega (arith, here)

-- two such ranges are apart, where they are not one CPU's or both the shared ones
rows_apart : (z : Settings) (a b : Option ℕ) (i j : ℕ) → LiesIn z a i → LiesIn z b j → (a ≡ b → ⊥) → AreApart i j
rows_apart z None None i j at there other = absurd (other refl)
rows_apart z None (Some d) i j at there other = inl (omega (arith, at, there))
rows_apart z (Some c) None i j at there other = inr (omega (arith, at, there))
rows_apart z (Some c) (Some d) i j at there other = ⊎_elim
    (λ (same : c ≡ d). absurd (other (ap Some same)))
    (⊎_elim
    (λ (less : c < d). inl (omega (arith, at, there, row_fits c (stride_of z.slots) d (stride_of z.slots) less (omega arith))))
    (λ (more : d < c). inr (omega (arith, at, there, row_fits d (stride_of z.slots) c (stride_of z.slots) more (omega arith)))))
    (cases_order c d)

-- words of two owners share no line
pub lines_apart : LinesApart
lines_apart z p q here there other = rows_apart z (owner p) (owner q) (index z p) (index z q) (lies_in z p here) (lies_in z q there) other

-- no word is among the first
pub first_words_free : FirstWordsFree
first_words_free z (section_of c) here = omega arith
first_words_free z q here = omega arith

-- two words share no place
pub one_place : OnePlace
one_place z p q here there other same = other (sym (same_spot z p q here there (sym same)))
