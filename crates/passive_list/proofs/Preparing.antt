-- The words of a slot before its entry is published: a slot that is written stays vacant, and each store is a line more.
use Rattle.std.proofs.Common.{◌≡◌, ⊎_elim, ℕ, ◌+◌, ◌<◌, ◌≤◌, List, [], ◌∷◌, ◌++◌, length, drop, get_or, set, replicate, sym, ap, ◌∙◌, subst, arith, get_or-set_same, length-set}
use Rattle.std.proofs.lemmas.Bool.{cases_lt}
use Rattle.std.proofs.lemmas.List.{length-replicate, replicate_more, set-set, set_at, set_past, append_assoc, length-append, length-drop, get_or_append_left, get_or-replicate}
use Rattle.std.proofs.Math.Seq.{drop-cons}
use Rattle.std.proofs.Math.Numerals.{add-one}
use Rattle.passive_list.specs.Types.{Entry, RecordWords, MOST_CPUS, KeeperView}
use Rattle.protocol.specs.Common.{with_biases, no_words, row_at, count_at, with_cell, with_word, words_of}
use Rattle.registry_values.specs.Common.{bias}
use Rattle.protocol.proofs.Cells.{cell_in_new}
use Rattle.cpu_words.specs.Common.{HasRecordWord, HasCountWord, HasLink, MayWrite}
use Rattle.passive_list.specs.Common.{AreSized, with_row, with_counts, keeper_after_stores}

-- The record

-- a second word is stored in a row that was stored
row_again : (rows : List RecordWords) (t : ℕ) (r : RecordWords) (j v : ℕ) → set (set rows t r) t (with_word (row_at (set rows t r) t) j v) ≡ set rows t (with_word r j v)
row_again rows t r j v = set-set rows t r (with_word (row_at (set rows t r) t) j v) ∙ ⊎_elim
    (λ (lt : t < length rows). ap (λ (x : RecordWords). set rows t (with_word x j v)) (get_or-set_same rows t r no_words lt))
    (λ (ge : length rows ≤ t). set_past rows t (with_word (row_at (set rows t r) t) j v) ge ∙ sym (set_past rows t (with_word r j v) ge))
    (cases_lt t (length rows))

-- a view whose slot is written may be written again
pub row_may : (k l : KeeperView) (t : ℕ) (r : RecordWords) → MayWrite k t → l ≡ with_row k t r → MayWrite l t
row_may k l t r may at = subst (λ (x : KeeperView). MayWrite x t) (sym at) assumption

-- one word more
pub row_next : (k l m : KeeperView) (t j v : ℕ) (r : RecordWords) → l ≡ with_row k t r → HasRecordWord l t j v m → m ≡ with_row k t (with_word r j v)
row_next k l m t j v r at is =
    is ∙ (ap (λ (x : KeeperView). record x { rows = set x.rows t (with_word (row_at x.rows t) j v) }) at ∙ ap (λ (rows : List RecordWords). record k { rows = rows }) (row_again k.rows t r j v))

-- The count words

-- one count word more
biases_more : (row : List ℕ) (c : ℕ) → c < length row → set (with_biases c row) c bias ≡ with_biases (c + 1) row
biases_more row c lt =
    let next : drop c row ≡ get_or row c 0 ∷ drop (c + 1) row = rw add-one (drop-cons row c 0 lt) in
    ap (λ (xs : List ℕ). set (replicate c bias ++ xs) c bias) next
    ∙ (set_at (replicate c bias) (get_or row c 0) (drop (c + 1) row) bias c (length-replicate c bias)
    ∙ (sym (append_assoc (replicate c bias) (bias ∷ []) (drop (c + 1) row)) ∙ ap (λ (xs : List ℕ). xs ++ drop (c + 1) row) (replicate_more c bias)))

counts_set : (k : KeeperView) (t c : ℕ) → t < length k.counts → c < length (get_or k.counts t []) → with_cell (with_counts k t c).counts t c bias ≡ (with_counts k t (c + 1)).counts
counts_set k t c low lt =
    let row = get_or k.counts t [] in
    let here : get_or (set k.counts t (with_biases c row)) t [] ≡ with_biases c row = get_or-set_same k.counts t (with_biases c row) [] low in
    let more : set (get_or (set k.counts t (with_biases c row)) t []) c bias ≡ with_biases (c + 1) row = ap (λ (xs : List ℕ). set xs c bias) here ∙ biases_more row c lt in
    set-set k.counts t (with_biases c row) (set (get_or (set k.counts t (with_biases c row)) t []) c bias) ∙ ap (set k.counts t) more

pub counts_next : (k l m : KeeperView) (t c : ℕ) → AreSized k.settings.slots k → t < k.settings.slots → c < MOST_CPUS → l ≡ with_counts k t c → HasCountWord l t c bias m → m ≡ with_counts k t (c + 1)
counts_next k l m t c sized low few at is =
    let within : t < length k.counts = omega (arith, sized.counts, low) in
    is ∙ (ap (λ (x : KeeperView). record x { counts = with_cell x.counts t c bias }) at
    ∙ ap (λ (counts : List (List ℕ)). record k { counts = counts }) (counts_set k t c within (omega (arith, sized.count_rows t within, few))))

pub counts_may : (k l : KeeperView) (t c : ℕ) → MayWrite k t → l ≡ with_counts k t c → MayWrite l t
counts_may k l t c may at = subst (λ (x : KeeperView). MayWrite x t) (sym at) assumption

-- a row of count words has a place for each CPU, stored or not
pub biases_size : (row : List ℕ) (c : ℕ) → length row ≡ MOST_CPUS → c ≤ MOST_CPUS → length (with_biases c row) ≡ MOST_CPUS
biases_size row c size few = omega (arith, length-append (replicate c bias) (drop c row), length-replicate c bias, length-drop c row, size, few)

pub bias_stored : (counts : List (List ℕ)) (t n c : ℕ) (row : List ℕ) → t < length counts → c < n → count_at (set counts t (with_biases n row)) c t ≡ bias
bias_stored counts t n c row within lt =
    let none : ℕ = 0 in
    let front = length-replicate n bias in
    cell_in_new none counts t (with_biases n row) c within ∙ (get_or_append_left (replicate n bias) (drop n row) none c (omega (arith, front, lt)) ∙ get_or-replicate n c bias none lt)

-- All words

pub row_settings : (k l : KeeperView) (t : ℕ) (r : RecordWords) → l ≡ with_row k t r → l.settings ≡ k.settings
row_settings k l t r at = ap (λ (x : KeeperView). x.settings) at

pub sized_after : (k l : KeeperView) (t : ℕ) (r : RecordWords) → AreSized k.settings.slots k → l ≡ with_row k t r → AreSized l.settings.slots l
sized_after k l t r had at = subst (λ (x : KeeperView). AreSized x.settings.slots x) (sym at) (assumption (length-set k.rows t r ∙ had.rows))

pub prepared_from : (k l m o : KeeperView) (e : Entry) (cpus v : ℕ) → cpus ≡ k.settings.cpus → l ≡ with_row k e.slot (words_of e) → m ≡ with_counts l e.slot cpus → HasLink m e.slot v o
    → o ≡ keeper_after_stores k e v
prepared_from k l m o e cpus v same row counts link =
    let t = e.slot in
    let w = with_counts (with_row k t (words_of e)) t k.settings.cpus in
    let at : m ≡ w = counts ∙ (ap (λ (x : KeeperView). with_counts x t cpus) row ∙ ap (with_counts (with_row k t (words_of e)) t) same) in
    link ∙ ap (λ (x : KeeperView). record x { next = set x.next t v }) at
