-- How the bytes of a name and its two words hang together, and that the digits of an id say it.
use Rattle.std.proofs.Common.{◌≡◌, ℕ, ◌+◌, ◌-◌, ◌<◌, ◌==◌, zero, suc, Bool, true, false, ◌&&◌, List, [], ◌∷◌, ◌++◌, length, get_or, take, drop, replicate, Option, Some, None, is_none, if◌then◌else◌, nat_le, not, refl, ap, ap₂, sym, ◌∙◌, arith, ◌⊎◌, ◌≤◌, inl, inr, ◌*◌, ◌/◌, ◌%◌, ◌^◌, IsTrue, ⊎_elim}
use Rattle.std.proofs.lemmas.Bool.{and_parts, and_from, cases_lt, le-ltb, lt-ltb, eq-eqb, eqb-true, true≢false}
use Rattle.std.proofs.lemmas.Bool.Decides.{nat_tests}
use Rattle.std.proofs.lemmas.List.{length-replicate, length-append, length-drop, length-take-le, take-append-drop}
use Rattle.std.proofs.lemmas.Nat.{be_bytes_8, from_be_bytes-to_be_bytes_8, mul-add-lt, mod-mul-add, div-add-mod'}
use Rattle.std.specs.Int.{w64, from_be_bytes, to_be_bytes}
use native.Mathlib.Nat.{le-mul_of_pos_right, mod-lt, pow-succ'}
use Rattle.registry_values.specs.Common.{Name, is_allowed, bad_place, is_name, padded_bytes, high_word, low_word, bytes_of, are_zeros, is_rest, is_padded, RoundTrip, IsWritten, digit_byte, digits, digit_value, value_of, id_bytes, id_of_bytes, said_by, is_same, IdsComeBack, NamesComeBack}
use Rattle.registry_values.specs.Names.{NamesAreKeys, are_key_words, are_name_words, name_of_id, id_of_name}

-- ---- one byte

-- a byte that may stand somewhere isn't zero
above_zero : (place b : ℕ) → is_allowed place b ≡ true → (b == 0) ≡ false
above_zero place b h = grind (arith, nat_tests)

is_byte : (place b : ℕ) → is_allowed place b ≡ true → b < 256
is_byte place b h = grind (arith, nat_tests)

-- after the first place they are all alike
later : (place b : ℕ) → is_allowed (place + 1) b ≡ is_allowed 1 b
later place b = grind (arith, nat_tests)

is_zero : (b : ℕ) → (b == 0) ≡ true → b ≡ 0
is_zero b h = grind (arith, nat_tests)

-- ---- lists whose items are bytes

Small : List ℕ → Type 0
Small xs = (i : ℕ) → get_or xs i 0 < 256

small_none : Small []
unfolding Small
small_none i = omega arith

small_more : (b : ℕ) (xs : List ℕ) → b < 256 → Small xs → Small (b ∷ xs)
unfolding Small
small_more b xs first rest zero = first
small_more b xs first rest (suc i) = rest i

small_take : (n : ℕ) (xs : List ℕ) → Small xs → Small (take n xs)
unfolding Small
small_take zero xs h i = omega arith
small_take (suc n) [] h i = omega arith
small_take (suc n) (x ∷ xs) h zero = h 0
small_take (suc n) (x ∷ xs) h (suc i) = small_take n xs (λ k. h (suc k)) i

small_drop : (n : ℕ) (xs : List ℕ) → Small xs → Small (drop n xs)
unfolding Small
small_drop zero xs h i = h i
small_drop (suc n) [] h i = omega arith
small_drop (suc n) (x ∷ xs) h i = small_drop n xs (λ k. h (suc k)) i

-- ---- zero bytes

zeros_are_zeros : (n : ℕ) → are_zeros (replicate n 0) ≡ true
zeros_are_zeros zero = refl
zeros_are_zeros (suc n) = zeros_are_zeros n

only_zeros : (xs : List ℕ) → are_zeros xs ≡ true → xs ≡ replicate (length xs) 0
only_zeros [] h = refl
only_zeros (b ∷ xs) h =
    let parts = and_parts (b == 0) (are_zeros xs) h in
    ap₂ (λ (x : ℕ) (ys : List ℕ). x ∷ ys) (is_zero b parts.0) (only_zeros xs parts.1)

-- ---- from the bytes of a name to 16 bytes

-- what `bad_place` says of the bytes after one
good_rest : (t : Bool) (i : ℕ) (o : Option ℕ) → is_none (if t then o else Some i) ≡ true → (t ≡ true) × (is_none o ≡ true)
good_rest true i o h = (refl, h)
good_rest false i o h = (cc, cc)

rest_padded : (i : ℕ) (bs : List ℕ) (n : ℕ) → is_none (bad_place (i + 1) bs) ≡ true → is_rest (bs ++ replicate (suc n) 0) ≡ true
rest_padded i [] n h = zeros_are_zeros n
rest_padded i (b ∷ bs) n h =
    let parts = good_rest (is_allowed (i + 1) b) (i + 1) (bad_place (i + 1 + 1) bs) h in
    let here : is_allowed 1 b ≡ true = sym (later i b) ∙ parts.0 in
    rw (above_zero 1 b here, here) (rest_padded (i + 1) bs n parts.1)

-- the parts of `is_name`
name_parts : (b : ℕ) (bs : List ℕ) → is_name (b ∷ bs) ≡ true → (length bs < 15) × (is_allowed 0 b ≡ true) × (is_none (bad_place 1 bs) ≡ true)
name_parts b bs h =
    let parts = and_parts (nat_le 1 (suc (length bs)) && nat_le (suc (length bs)) 15) (is_none (bad_place 0 (b ∷ bs))) h in
    let sizes = and_parts (nat_le 1 (suc (length bs))) (nat_le (suc (length bs)) 15) parts.0 in
    let size : nat_le (suc (length bs)) 15 ≡ true = sizes.1 in
    let bytes = good_rest (is_allowed 0 b) 0 (bad_place 1 bs) parts.1 in
    let below : length bs < 15 = grind (arith, nat_tests) in
    (below, bytes.0, bytes.1)

name_padded : (bytes : List ℕ) → is_name bytes ≡ true → is_padded (padded_bytes bytes) ≡ true
name_padded [] h = absurd (cc)
name_padded (b ∷ bs) h =
    let parts = name_parts b bs h in
    let below : length bs < 15 = parts.0 in
    let left : 16 - suc (length bs) ≡ suc (14 - length bs) = omega arith in
    and_from (is_allowed 0 b) (is_rest (bs ++ replicate (16 - suc (length bs)) 0)) parts.1
    (rw left (rest_padded 0 bs (14 - length bs) parts.2))

padded_length : (bytes : List ℕ) → is_name bytes ≡ true → length (padded_bytes bytes) ≡ 16
padded_length [] h = absurd (cc)
padded_length (b ∷ bs) h =
    let below : length bs < 15 = (name_parts b bs h).0 in
    omega (arith, length-append (b ∷ bs) (replicate (16 - suc (length bs)) 0), length-replicate {A = ℕ} (16 - suc (length bs)) 0)

-- ---- from 16 bytes to two words and back

-- the two ways on in `is_rest`
rest_ways : (t z a r : Bool) → (if t then z else a && r) ≡ true → ((t ≡ true) × (z ≡ true)) ⊎ ((a ≡ true) × (r ≡ true))
rest_ways true z a r h = inl (refl, h)
rest_ways false z a r h = inr (and_parts a r h)

small_zeros : (xs : List ℕ) → are_zeros xs ≡ true → Small xs
small_zeros [] h = small_none
small_zeros (b ∷ xs) h =
    let parts = and_parts (b == 0) (are_zeros xs) h in
    let e : b ≡ 0 = is_zero b parts.0 in
    small_more b xs (omega arith) (small_zeros xs parts.1)

small_rest : (xs : List ℕ) → is_rest xs ≡ true → Small xs
small_rest [] h = small_none
small_rest (b ∷ xs) h =
    elim (rest_ways (b == 0) (are_zeros xs) (is_allowed 1 b) (is_rest xs) h) [
      | inl ends ↦
          let e : b ≡ 0 = is_zero b ends.0 in
          small_more b xs (omega arith) (small_zeros xs ends.1)
      | inr goes ↦ small_more b xs (is_byte 1 b goes.0) (small_rest xs goes.1)
    ]

small_padded : (xs : List ℕ) → is_padded xs ≡ true → Small xs
small_padded [] h = absurd (cc)
small_padded (b ∷ xs) h =
    let parts = and_parts (is_allowed 0 b) (is_rest xs) h in
    small_more b xs (is_byte 0 b parts.0) (small_rest xs parts.1)

half : (xs : List ℕ) → length xs ≡ 8 → Small xs → to_be_bytes w64 (from_be_bytes w64 xs) ≡ xs
unfolding Small
half xs size h = be_bytes_8 xs _ size h refl

halves : (xs : List ℕ) → length xs ≡ 16 → Small xs → bytes_of (from_be_bytes w64 (take 8 xs)) (from_be_bytes w64 (drop 8 xs)) ≡ xs
halves xs size h =
    let front : length (take 8 xs) ≡ 8 = length-take-le 8 xs (omega arith) in
    let back : length (drop 8 xs) ≡ 8 = omega (arith, length-drop 8 xs) in
    ap₂ (λ (a b : List ℕ). a ++ b) (half (take 8 xs) front (small_take 8 xs h)) (half (drop 8 xs) back (small_drop 8 xs h)) ∙ take-append-drop 8 xs

-- a name's words have its bytes
pub bytes_back : (bytes : List ℕ) → is_name bytes ≡ true → bytes_of (high_word bytes) (low_word bytes) ≡ padded_bytes bytes
bytes_back bytes h = halves (padded_bytes bytes) (padded_length bytes h) (small_padded (padded_bytes bytes) (name_padded bytes h))

-- a name's words are lawful
pub lawful_words : (bytes : List ℕ) → is_name bytes ≡ true → are_name_words (high_word bytes) (low_word bytes) ≡ true
unfolding are_name_words
lawful_words bytes h = ap is_padded (bytes_back bytes h) ∙ name_padded bytes h

pub round_trip : RoundTrip
round_trip bytes h = rw (lawful_words bytes h) refl

-- ---- keys

no_zeros : are_name_words 0 0 ≡ true → ⊥
unfolding are_name_words
no_zeros e = absurd (true≢false (sym e))

-- words that aren't a key's are both 0
key_or_zeros : (high low : ℕ) → (are_key_words high low ≡ true) ⊎ ((high ≡ 0) × (low ≡ 0))
unfolding are_key_words
key_or_zeros high low = by_cases (high == 0 && low == 0) refl
  where
    by_cases : (b : Bool) → (high == 0 && low == 0) ≡ b → (not (high == 0 && low == 0) ≡ true) ⊎ ((high ≡ 0) × (low ≡ 0))
    by_cases false is = inl (ap not is)
    by_cases true is =
        let both = and_parts (high == 0) (low == 0) is in
        inr (eqb-true high 0 both.0, eqb-true low 0 both.1)

pub names_are_keys : NamesAreKeys
names_are_keys name lawful =
    elim (key_or_zeros name.high name.low) [
      | inl key ↦ key
      | inr zeros ↦ absurd (no_zeros (sym (λ i. are_name_words (zeros.0 i) (zeros.1 i)) ∙ lawful))
    ]

zeros_8 : (xs : List ℕ) → length xs ≡ 8 → from_be_bytes w64 xs ≡ 0 → are_zeros xs ≡ true
zeros_8 (a ∷ b ∷ c ∷ d ∷ e ∷ f ∷ g ∷ h ∷ []) size none =
    let z : (a ≡ 0) × (b ≡ 0) × (c ≡ 0) × (d ≡ 0) × (e ≡ 0) × (f ≡ 0) × (g ≡ 0) × (h ≡ 0) = omega (arith, none) in
    rw (z.0, z.1, z.2, z.3, z.4, z.5, z.6, z.7) refl
zeros_8 _ size none = absurd (omega (arith, size))

zeros_end : (xs ys : List ℕ) → are_zeros xs ≡ true → are_zeros ys ≡ true → are_zeros (xs ++ ys) ≡ true
zeros_end [] ys first rest = rest
zeros_end (x ∷ xs) ys first rest =
    let parts = and_parts (x == 0) (are_zeros xs) first in
    and_from (x == 0) (are_zeros (xs ++ ys)) parts.0 (zeros_end xs ys parts.1 rest)

zeros_begin : (xs ys : List ℕ) → are_zeros (xs ++ ys) ≡ true → are_zeros xs ≡ true
zeros_begin [] ys all = refl
zeros_begin (x ∷ xs) ys all =
    let parts = and_parts (x == 0) (are_zeros (xs ++ ys)) all in
    and_from (x == 0) (are_zeros xs) parts.0 (zeros_begin xs ys parts.1)

-- bytes that aren't all 0 are a key's
pub key_from : (bytes : List ℕ) → length bytes ≤ 16 → are_zeros bytes ≡ false → are_key_words (high_word bytes) (low_word bytes) ≡ true
key_from bytes few some =
    elim (key_or_zeros (high_word bytes) (low_word bytes)) [
      | inl key ↦ key
      | inr zeros ↦
          let p = padded_bytes bytes in
          let size : length p ≡ 16 = omega (arith, few, length-append bytes (replicate (16 - length bytes) 0), length-replicate {A = ℕ} (16 - length bytes) 0) in
          let front = zeros_8 (take 8 p) (length-take-le 8 p (omega arith)) zeros.0 in
          let back = zeros_8 (drop 8 p) (omega (arith, length-drop 8 p)) zeros.1 in
          let all : are_zeros p ≡ true = ap are_zeros (sym (take-append-drop 8 p)) ∙ zeros_end (take 8 p) (drop 8 p) front back in
          absurd (true≢false (sym (zeros_begin bytes (replicate (16 - length bytes) 0) all) ∙ some))
    ]

-- ---- from two words to the bytes of a name

-- what stands before the zero bytes
rest_text : (xs : List ℕ) → is_rest xs ≡ true → (bs : List ℕ) × (n : ℕ) × (xs ≡ bs ++ replicate (suc n) 0) × ((i : ℕ) → is_none (bad_place (i + 1) bs) ≡ true)
rest_text [] h = absurd (cc)
rest_text (b ∷ xs) h =
    elim (rest_ways (b == 0) (are_zeros xs) (is_allowed 1 b) (is_rest xs) h) [
      | inl ends ↦ ([], length xs, ap₂ (λ (x : ℕ) (ys : List ℕ). x ∷ ys) (is_zero b ends.0) (only_zeros xs ends.1), λ i. refl)
      | inr goes ↦
          let text = rest_text xs goes.1 in
          (b ∷ text.0, text.1, ap (λ ys. b ∷ ys) text.2, λ i. let here : is_allowed (i + 1) b ≡ true = later i b ∙ goes.0 in rw here (text.3 (i + 1)))
    ]

name_from : (b : ℕ) (bs : List ℕ) → length bs < 15 → is_allowed 0 b ≡ true → is_none (bad_place 1 bs) ≡ true → is_name (b ∷ bs) ≡ true
name_from b bs below first rest =
    let size : (nat_le 1 (suc (length bs)) && nat_le (suc (length bs)) 15) ≡ true = grind (arith, nat_tests) in
    and_from (nat_le 1 (suc (length bs)) && nat_le (suc (length bs)) 15) (is_none (bad_place 0 (b ∷ bs))) size (rw first rest)

padded_text : (xs : List ℕ) → is_padded xs ≡ true → length xs ≡ 16 → (bytes : List ℕ) × (is_name bytes ≡ true) × (padded_bytes bytes ≡ xs)
padded_text [] h size = absurd (cc)
padded_text (b ∷ xs) h size =
    let parts = and_parts (is_allowed 0 b) (is_rest xs) h in
    let text = rest_text xs parts.1 in
    let sum : length xs ≡ length text.0 + suc text.1 = ap length text.2 ∙ length-append text.0 (replicate (suc text.1) 0) ∙ ap (λ n. length text.0 + n) (length-replicate {A = ℕ} (suc text.1) 0) in
    let left : 16 - suc (length text.0) ≡ suc text.1 = omega arith in
    let below : length text.0 < 15 = omega arith in
    (b ∷ text.0, name_from b text.0 below parts.0 (text.3 0), ap (λ ys. b ∷ ys) (rw left (sym text.2)))

-- what `named_by_words` does with a test
opened : (t : Bool) (n m : Name) → (if t then Some n else None) ≡ Some m → (t ≡ true) × (n ≡ m)
opened true n m h = (refl, cc)
opened false n m h = (cc, cc)

pub written : IsWritten
unfolding are_name_words
written high low name high_fits low_fits h =
    let open_test = opened (are_name_words high low) (record { high = high; low = low }) name h in
    let text = padded_text (bytes_of high low) open_test.0 refl in
    let named_from : List ℕ → Name = λ p. record { high = from_be_bytes w64 (take 8 p); low = from_be_bytes w64 (drop 8 p) } in
    let back : named_from (bytes_of high low) ≡ record { high = high; low = low } =
    ap₂ (λ (a b : ℕ). record { high = a; low = b }) (from_be_bytes-to_be_bytes_8 high high_fits) (from_be_bytes-to_be_bytes_8 low low_fits) in
    (text.0, text.1, ap named_from text.2 ∙ back ∙ open_test.1)

-- The digits of an id say it, and are bytes of a name.

-- ---- the bytes are a name's

small_allowed : (place d : ℕ) → 0 < place → d < 10 → is_allowed place (digit_byte d) ≡ true
small_allowed place d later lt = rw (lt-ltb d 10 lt) (grind (arith, nat_tests))

large_allowed : (place d : ℕ) → 10 ≤ d → d < 32 → is_allowed place (digit_byte d) ≡ true
large_allowed place d le few = rw (le-ltb d 10 le) (grind (arith, nat_tests))

digit_allowed : (place d : ℕ) → 0 < place → d < 32 → is_allowed place (digit_byte d) ≡ true
digit_allowed place d later few = ⊎_elim (λ (lt : d < 10). small_allowed place d later lt) (λ (le : 10 ≤ d). large_allowed place d le few) (cases_lt d 10)

bytes_allowed : (k n place : ℕ) → 0 < place → bad_place place (digits k n) ≡ None
bytes_allowed zero n place later = refl
bytes_allowed (suc k) n place later = rw (digit_allowed place (n / 32 ^ k % 32) later (omega arith)) (bytes_allowed k n (place + 1) (omega arith))

first_allowed : (d : ℕ) → d < 16 → is_allowed 0 (97 + d) ≡ true
first_allowed d few = grind (arith, nat_tests)

pub ids_are_names : (id : ℕ) → id < 2 ^ 64 → IsTrue (is_name (id_bytes id))
ids_are_names id few = rw (first_allowed (id / 2 ^ 60) (omega (arith, few)), bytes_allowed 12 id 1 (omega arith)) refl

-- ---- they say the id

small_value : (d : ℕ) → d < 10 → digit_value (digit_byte d) ≡ d
small_value d lt = rw (lt-ltb d 10 lt, lt-ltb (48 + d) 58 (omega (arith, lt))) (omega arith)

large_value : (d : ℕ) → 10 ≤ d → digit_value (digit_byte d) ≡ d
large_value d le = rw (le-ltb d 10 le, le-ltb (87 + d) 58 (omega (arith, le))) (omega arith)

digit_back : (d : ℕ) → digit_value (digit_byte d) ≡ d
digit_back d = ⊎_elim (small_value d) (large_value d) (cases_lt d 10)

pow_some : (k : ℕ) → 0 < 32 ^ k
pow_some zero = omega arith
pow_some (suc k) = omega (arith, pow_some k, pow-succ' 32 k)

-- the remainder by one digit more
one_digit : (n p : ℕ) → 0 < p → n / p % 32 * p + n % p ≡ n % (32 * p)
one_digit n p some =
    let q : ℕ = n / p in
    let b : ℕ = q % 32 * p + n % p in
    let low : n % p < p = mod-lt n some in
    let lt : b < 32 * p = omega (arith, mul-add-lt (q % 32) p (n % p) 32 (omega arith) low) in
    let whole : q * p + n % p ≡ n = div-add-mod' n p in
    let parts : q ≡ q / 32 * 32 + q % 32 = omega arith in
    let same : q * p ≡ (q / 32 * 32 + q % 32) * p = ap (λ (k : ℕ). k * p) parts in
    let split : q / 32 * (32 * p) + b ≡ n = omega (arith, whole, same) in
    sym (mod-mul-add (q / 32) (32 * p) b lt) ∙ ap (λ (k : ℕ). k % (32 * p)) split

-- a digit after those that said m
said_more : (m d : ℕ) → m * 32 + d < 2 ^ 64 → (m * 32 % 2 ^ 64 + digit_value (digit_byte d)) % 2 ^ 64 ≡ m * 32 + d
said_more m d few = rw (digit_back d) (omega (arith, few))

value_digits : (k n m : ℕ) → m * 32 ^ k + n % 32 ^ k < 2 ^ 64 → value_of m (digits k n) ≡ m * 32 ^ k + n % 32 ^ k
value_digits zero n m few = omega arith
value_digits (suc k) n m few =
    let d : ℕ = n / 32 ^ k % 32 in
    let power : 32 ^ suc k ≡ 32 * 32 ^ k = pow-succ' 32 k in
    let rest = one_digit n (32 ^ k) (pow_some k) in
    let whole : (m * 32 + d) * 32 ^ k + n % 32 ^ k ≡ m * 32 ^ suc k + n % 32 ^ suc k = omega (arith, rest) ∙ ap (λ (p : ℕ). m * p + n % p) (sym power) in
    let below : (m * 32 + d) * 32 ^ k + n % 32 ^ k < 2 ^ 64 = omega (arith, whole, few) in
    let here : m * 32 + d < 2 ^ 64 = omega (arith, le-mul_of_pos_right (m * 32 + d) (pow_some k), below) in
    ap (λ (v : ℕ). value_of v (digits k n)) (said_more m d here) ∙ (value_digits k n (m * 32 + d) below ∙ whole)

bytes_say : (id : ℕ) → id < 2 ^ 64 → id_of_bytes (id_bytes id) ≡ id
bytes_say id few =
    let whole : (97 + id / 2 ^ 60 - 97) * 32 ^ 12 + id % 32 ^ 12 ≡ id = omega arith in
    value_digits 12 id (97 + id / 2 ^ 60 - 97) (omega (arith, whole, few)) ∙ whole

said_back : (id : ℕ) → id < 2 ^ 64 → said_by (name_of_id id) ≡ id
unfolding name_of_id
said_back id few = ap id_of_bytes (bytes_back (id_bytes id) (ids_are_names id few)) ∙ bytes_say id few

same_self : (n : Name) → is_same n n ≡ true
same_self n = and_from (n.high == n.high) (n.low == n.low) (eq-eqb n.high n.high refl) (eq-eqb n.low n.low refl)

pub ids_come_back : IdsComeBack
unfolding id_of_name
ids_come_back id few = rw (said_back id few, same_self (name_of_id id)) refl

-- what the test of `id_of_name` leaves
tested : (t : Bool) (said id : ℕ) → (if t then Some said else None) ≡ Some id → (t ≡ true) × (said ≡ id)
tested true said id is = (refl, cc)
tested false said id is = (cc, cc)

are_one : (a b : Name) → is_same a b ≡ true → a ≡ b
are_one a b same =
    let parts = and_parts (a.high == b.high) (a.low == b.low) same in
    ap₂ (λ (h l : ℕ). record { high = h; low = l }) (eqb-true a.high b.high parts.0) (eqb-true a.low b.low parts.1)

pub names_come_back : NamesComeBack
unfolding id_of_name
names_come_back name id is =
    let t = tested (is_same (name_of_id (said_by name)) name) (said_by name) id is in
    ap name_of_id (sym t.1) ∙ are_one (name_of_id (said_by name)) name t.0
