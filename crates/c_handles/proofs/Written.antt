-- A text is written byte by byte, and a zero after it.
use Rattle.std.proofs.Common.{◌≡◌, ℕ, ◌<◌, List, length, get_or, refl, arith, ◌≢◌, ⊎_elim, ◌+◌, ◌-◌, ◌≤◌, set, take, Option, Some, None, sym, ap, ◌∙◌, length-set, subst, Bool, true, false}
use Rattle.std.specs.Prelude.{if◌then◌else◌}
use Rattle.std.proofs.lemmas.Bool.{cases_lt}
use Rattle.std.proofs.lemmas.List.{ext_get_or, get_or-set_other, get_or-set_same, get_or-take, length-take-le, get_or_past}
use mathlib.Core.Logic.{dite}
use native.Mathlib.Decide.{ℕ_discrete}
use Rattle.c_handles.specs.Heap.{IsThere, number_at}
use Rattle.registry_values.specs.Names.{are_key_words}
use Rattle.registry_values.specs.Common.{key_of_words, bytes_of}
use Rattle.c_handles.specs.Types.{Name}
use Rattle.c_handles.specs.declared.values.plain.CName.{CName}
use Rattle.c_handles.specs.values.Texts.{Formats, IsTextLength, IsWritten, WritesText}

-- A text is written byte by byte, and a zero after it.

-- the first k bytes of the text are there, and the others are as before
pub record AreCopied (t first new : List ℕ) (k : ℕ) : Type 0 where
  pub size : length new ≡ length first
  pub done : (j : ℕ) → j < k → get_or new j 0 ≡ get_or t j 0
  pub rest : (j : ℕ) → k ≤ j → get_or new j 0 ≡ get_or first j 0

pub none_copied : (t first : List ℕ) → AreCopied t first first 0
none_copied t first = record { size = refl; done = λ j lt. absurd (omega (arith, lt)); rest = λ j past. refl }

pub copied_more : (t first new : List ℕ) (k b : ℕ) → k < length new → b ≡ get_or t k 0 → AreCopied t first new k → AreCopied t first (set new k b) (k + 1)
copied_more t first new k b lt is so_far = record {
  size = length-set new k b ∙ so_far.size;
  done = λ j less. dite (ℕ_discrete j k)
      (λ (same : j ≡ k). ap (λ i. get_or (set new k b) i 0) same ∙ (get_or-set_same new k b 0 lt ∙ (is ∙ ap (λ i. get_or t i 0) (sym same))))
      (λ (off : j ≢ k). get_or-set_other new k j b 0 off ∙ so_far.done j (omega (arith, less, off)));
  rest = λ j past. get_or-set_other new k j b 0 (λ e. absurd (omega (arith, past, e))) ∙ so_far.rest j (omega (arith, past));
}

-- the zero after them
pub written : (t first new : List ℕ) (n : ℕ) → n ≡ length t → length t < length first → AreCopied t first new n → IsWritten t first (set new n 0)
written t first new n all room copied = record {
  text = λ k lt. get_or-set_other new n k 0 0 (λ e. absurd (omega (arith, lt, all, e))) ∙ copied.done k (omega (arith, lt, all));
  zero = ap (λ i. get_or (set new n 0) i 0) (sym all) ∙ get_or-set_same new n 0 0 (omega (arith, room, all, copied.size));
  rest = λ k past. get_or-set_other new n k 0 0 (λ e. absurd (omega (arith, past, all, e))) ∙ copied.rest k (omega (arith, past, all));
}

-- the first k of the bytes are in the first places of a row
pub record AreRead (bytes : Option (List ℕ)) (row : List ℕ) (k : ℕ) : Type 0 where
  pub size : length row ≡ 16
  pub done : (j : ℕ) → j < k → get_or row j 0 ≡ number_at bytes j

same_first : (n : ℕ) (row xs : List ℕ) → length xs ≡ n → n ≤ length row → ((j : ℕ) → j < n → get_or row j 0 ≡ get_or xs j 0) → take n row ≡ xs
same_first n row xs count room same =
    let long : length (take n row) ≡ n = length-take-le n row room in
    ext_get_or 0 (take n row) xs (long ∙ sym count) (λ i lt. get_or-take n row i 0 (omega (arith, lt, long)) ∙ same i (omega (arith, lt, long)))

-- all of them are
pub all_read : (bytes : Option (List ℕ)) (row : List ℕ) (n : ℕ) → IsThere bytes n → n ≤ 16 → AreRead bytes row n → bytes ≡ Some (take n row)
all_read None row n there few so_far = absurd there
all_read (Some xs) row n there few so_far = ap Some (sym (same_first n row xs there (omega (arith, few, so_far.size)) so_far.done))

-- How many bytes lead up to the last one that isn't 0, of the first k

pub record IsLengthOf (bytes : List ℕ) (n k : ℕ) : Type 0 where
  pub few : n ≤ k
  pub zeros : (j : ℕ) → n ≤ j → j < k → get_or bytes j 0 ≡ 0
  pub last : 0 < n → get_or bytes (n - 1) 0 ≢ 0

pub none_long : (bytes : List ℕ) → IsLengthOf bytes 0 0
none_long bytes = record { few = omega arith; zeros = λ j past lt. absurd (omega (arith, lt)); last = λ some. absurd (omega (arith, some)) }

pub longer : (bytes : List ℕ) (n k : ℕ) → get_or bytes k 0 ≢ 0 → IsLengthOf bytes (k + 1) (k + 1)
longer bytes n k other = record {
  few = omega arith;
  zeros = λ j past lt. absurd (omega (arith, past, lt));
  last = λ some. subst (λ i. get_or bytes i 0 ≢ 0) (omega arith) other;
}

pub as_long : (bytes : List ℕ) (n k : ℕ) → get_or bytes k 0 ≡ 0 → IsLengthOf bytes n k → IsLengthOf bytes n (k + 1)
as_long bytes n k none was = record {
  few = omega (arith, was.few);
  zeros = λ j past lt. dite (ℕ_discrete j k)
      (λ (same : j ≡ k). ap (λ i. get_or bytes i 0) same ∙ none)
      (λ (off : j ≢ k). was.zeros j past (omega (arith, lt, off)));
  last = was.last;
}

pub all_long : (bytes : List ℕ) (n : ℕ) → length bytes ≡ 16 → IsLengthOf bytes n 16 → IsTextLength bytes n
all_long bytes n size was = record {
  few = was.few;
  zeros = λ k past. ⊎_elim
      (λ (lt : k < 16). was.zeros k past lt)
      (λ (ge : 16 ≤ k). get_or_past bytes k 0 (omega (arith, ge, size)))
      (cases_lt k 16);
  last = was.last;
}

-- A name as a text

-- the two words that a name was made of
words_are : (high low : ℕ) (m : Name) → key_of_words high low ≡ Some m → m ≡ record { high = high; low = low }
words_are high low m is = by (are_key_words high low) is
  where
    by : (b : Bool) → ◌≡◌ {A = Option Name} (if b then Some (record { high = high; low = low }) else None) (Some m) → m ≡ record { high = high; low = low }
    by true q = cc
    by false q = cc

no_words : (o : Option Name) (m : Name) → o ≡ Some m → o ≡ None → ⊥
no_words o m is none = cc

pub formatted : (name : CName) (m : Name) (bytes : List ℕ) (high low size n : ℕ) (old new : List ℕ) → key_of_words name.high name.low ≡ Some m → high ≡ m.high → low ≡ m.low → bytes ≡ bytes_of high low
    → IsTextLength bytes size → WritesText (take size bytes) n old new → Formats name n old new
formatted name m bytes high low size n old new is first second are long writes =
    let whole = words_are name.high name.low m is in
    let same : bytes ≡ bytes_of name.high name.low = are ∙ λ i. bytes_of ((first ∙ ap (λ (w : Name). w.high) whole) i) ((second ∙ ap (λ (w : Name). w.low) whole) i) in
    record {
      bad = λ none. absurd (no_words (key_of_words name.high name.low) m is none);
      good = λ w at. (size, subst (λ (b : List ℕ). IsTextLength b size) same long, subst (λ (b : List ℕ). WritesText (take size b) n old new) same writes);
    }
