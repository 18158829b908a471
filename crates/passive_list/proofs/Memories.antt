-- What a row that is remembered tells, what stays remembered, and what is remembered from then on.
use Rattle.passive_list.specs.Common.{Memory, HasCleared, HasForgotten, HasNumbered, ByWord, IsEntrys, IsOfRow, IsRow, IsSome, IsTrueMiss, KeepsOthers, Missed, Recalls, RecallsAt, RecallsWords, Remembers, Seen, WasAbsent, LeadBelow, hint_at, hint_of, hinted, is_for, keeps, memo_at, memo_of, memo_with, miss_at, miss_of, missed_as, no_hint, no_memo, no_memory, no_miss, no_name, with_miss, with_seen}
use Rattle.std.proofs.Common.{◌≡◌, ◌≢◌, ⊎_elim, inl, inr, ℕ, ◌+◌, ◌%◌, ◌<◌, ◌≤◌, ◌==◌, if◌then◌else◌, min, Bool, true, false, List, length, replicate, set, get_or-set_same, get_or-set_other, Option, Some, None, refl, sym, ap, ◌∙◌, subst, arith, IsTrue, ◌⊎◌}
use Rattle.std.proofs.lemmas.Bool.{cases_eq, cases_lt, eqb-true}
use Rattle.std.proofs.lemmas.List.{length-replicate, length-set, set_past}
use mathlib.Core.List.{IsPrefix}
use Rattle.passive_list.specs.Types.{Change, Driver, Iface, Key, Kind, Name, MOST_SLOTS}
use Rattle.registry_values.specs.Common.{is_key, kind_word}
use Rattle.cpu_words.specs.Common.{key_with}
use Rattle.protocol.specs.Common.{IsAttached, entry_with}
use Rattle.protocol.proofs.Cells.{get_or_all}
use Rattle.protocol.proofs.Occupied.{place_cases}
use Rattle.cpu_words.proofs.shown.Seeing.{attached_prefix}
use Rattle.passive_list.specs.declared.memory.Hint.{Hint}
use Rattle.passive_list.specs.declared.memory.Memo.{Memo}
use Rattle.passive_list.specs.declared.memory.Miss.{Miss}
use Rattle.passive_list.proofs.GoingOver.{no_zeros, one_kind}
use Rattle.passive_list.proofs.Walking.{live_before, prefix_length}
use Rattle.passive_list.specs.declared.memory.TheConstants.{HINTS, MOST_MISSES, SPARE_MISSES}

-- A pass and a longer one

pub numbered_longer : (h g : List Change) (n : ℕ) → IsPrefix h g → HasNumbered h n → HasNumbered g n
numbered_longer h g n longer had = record { entry = had.entry; attached = attached_prefix h g had.entry longer had.attached; number = had.number }

absent_longer : (h g : List Change) (key : Key) (n : ℕ) → IsPrefix h g → WasAbsent h key n → WasAbsent g key n
absent_longer h g key n longer was = record {
  newest = numbered_longer h g n longer was.newest;
  point = was.point;
  from_on = was.from_on;
  up_to = omega (arith, prefix_length h g longer, was.up_to);
  answered = λ e live. was.answered e (live_before h g was.point was.point e longer live.begun was.up_to (omega arith) live);
}

entrys_longer : (z : ℕ) (h g : List Change) (t : ℕ) (m : Memo) → IsPrefix h g → IsEntrys z h t m → IsEntrys z g t m
entrys_longer z h g t m longer had = record { few = had.few; of = had.of; word = had.word; attached = attached_prefix h g (entry_with (key_with had.of m.name) t m.number m.value) longer had.attached }

-- what is remembered stays, as the pass grows
pub stays : (z : ℕ) (h g : List Change) (m : Memory) → IsPrefix h g → Remembers z h m → Remembers z g m
stays z h g m longer had = record {
  size = had.size;
  hints = had.hints;
  each = λ t. ⊎_elim (λ none. inl none) (λ had. inr (entrys_longer z h g t (memo_at m.rows t) longer had)) (had.each t);
  absent = λ i some. absent_longer h g _ _ longer (had.absent i some);
}

-- Places of hints

pub hint_few : (n : Name) → hint_of n < HINTS
hint_few n = omega arith

-- at first each hint leads to the first slot
pub none_lead : (z : ℕ) → 0 < z → LeadBelow z (replicate HINTS no_hint)
none_lead z some i = subst (λ (h : Hint). (h.last < z) × (h.older < z)) (sym (get_or_all HINTS no_hint i)) (some, some)

-- a hint more that leads to a slot
pub lead_more : (z i : ℕ) (hints : List Hint) (x : Hint) → LeadBelow z hints → x.last < z → x.older < z → LeadBelow z (set hints i x)
lead_more z i hints x lead last older j = ⊎_elim
    (λ (few : i < length hints). ⊎_elim
    (λ (here : (j ≡ i) × (hint_at (set hints i x) j ≡ x)). subst (λ (h : Hint). (h.last < z) × (h.older < z)) (sym here.1) (last, older))
    (λ (off : (j ≡ i → ⊥) × (hint_at (set hints i x) j ≡ hint_at hints j)). subst (λ (h : Hint). (h.last < z) × (h.older < z)) (sym off.1) (lead j))
    (place_cases no_hint hints i x j few))
    (λ (past : length hints ≤ i). subst (λ (l : List Hint). ((hint_at l j).last < z) × ((hint_at l j).older < z)) (sym (set_past hints i x past)) (lead j))
    (cases_lt i (length hints))

-- nothing is remembered at first
pub none_remembered : (z : ℕ) (h : List Change) → 0 < z → z ≤ MOST_SLOTS → Remembers z h (no_memory z)
none_remembered z h some most = record {
  size = length-replicate z no_memo;
  hints = length-replicate HINTS no_hint;
  each = λ t. inl (get_or_all z no_memo t);
  absent = λ i some. absurd (some (ap (λ (m : Miss). m.number) (get_or_all (min (z + SPARE_MISSES) MOST_MISSES) no_miss i)));
}

-- One row more

-- the hints keep their number
same_length : (b : Bool) (xs ys : List Hint) → length ys ≡ length xs → length (if b then xs else ys) ≡ length xs
same_length true xs ys same = refl
same_length false xs ys same = same

pub remembers_more : (z : ℕ) (h : List Change) (m : Memory) (key : Key) (s : Seen) → Remembers z h m → s.slot < z → IsAttached h (entry_with key s.slot s.number s.value)
    → Remembers z h (with_seen m key s)
remembers_more z h m key s had low attached = record {
  size = length-set m.rows s.slot (memo_of key s) ∙ had.size;
  hints = same_length ((hinted m.hints key.name).last == s.slot) m.hints _ (length-set m.hints _ _) ∙ had.hints;
  each = λ t. ⊎_elim
      (λ (here : (t ≡ s.slot) × (memo_at (set m.rows s.slot (memo_of key s)) t ≡ memo_of key s)).
      inr (subst (IsEntrys z h t) (sym here.1) (subst (λ (u : ℕ). IsEntrys z h u (memo_of key s)) (sym here.0) (record { few = low; of = key.kind; word = refl; attached = attached }))))
      (λ (off : (t ≡ s.slot → ⊥) × (memo_at (set m.rows s.slot (memo_of key s)) t ≡ memo_at m.rows t)).
      subst (λ (r : Memo). (r ≡ no_memo) ⊎ IsEntrys z h t r) (sym off.1) (had.each t))
      (place_cases no_memo m.rows s.slot (memo_of key s) t (omega (arith, low, had.size)));
  absent = had.absent;
}

-- the hint of a name, where the hint of the name n is set to x
hint_here : (hints : List Hint) (n : Name) (x : Hint) → length hints ≡ HINTS → hinted (set hints (hint_of n) x) n ≡ x
hint_here hints n x all = get_or-set_same hints (hint_of n) x no_hint (omega (arith, hint_few n, all))

hint_other : (hints : List Hint) (n other : Name) (x : Hint) → hint_of other ≢ hint_of n → hinted (set hints (hint_of n) x) other ≡ hinted hints other
hint_other hints n other x off = get_or-set_other hints (hint_of n) (hint_of other) x no_hint off

row_few : (rows : List Memo) (m : Memo) (t u : ℕ) → u < length rows → u < length (set rows t m)
row_few rows m t u few = omega (arith, few, length-set rows t m)

-- the newer hint leads to its slot
leads_by : (b : Bool) (m : Memory) (key : Key) (s : Seen) (x : Hint) → length m.hints ≡ HINTS → x.last ≡ s.slot → (hinted m.hints key.name).last == s.slot ≡ b
    → (hinted (if b then m.hints else set m.hints (hint_of key.name) x) key.name).last ≡ s.slot
leads_by true m key s x few at is = eqb-true (hinted m.hints key.name).last s.slot is
leads_by false m key s x few at is = ap (λ (h : Hint). h.last) (hint_here m.hints key.name x few) ∙ at

-- it is what the key is remembered as
pub recalls_seen : (z : ℕ) (h : List Change) (m : Memory) (key : Key) (s : Seen) → Remembers z h m → s.slot < z → Recalls (with_seen m key s) key (Some s)
recalls_seen z h m key s had low =
    let few : s.slot < length m.rows = omega (arith, low, had.size) in
    let row : IsOfRow (set m.rows s.slot (memo_of key s)) (kind_word key.kind) key.name s =
    record { few = row_few m.rows (memo_of key s) s.slot s.slot few; is = get_or-set_same m.rows s.slot (memo_of key s) no_memo few } in
    inl (s, refl, (sym (leads_by ((hinted m.hints key.name).last == s.slot) m key s _ had.hints refl refl), row))

-- a hint of another name
other_by : (b : Bool) (hints : List Hint) (n other : Name) (x : Hint) → hint_of other ≢ hint_of n
    → hinted (if b then hints else set hints (hint_of n) x) other ≡ hinted hints other
other_by true hints n other x off = refl
other_by false hints n other x off = hint_other hints n other x off

-- What is remembered of other keys

-- a row of another slot says the same
row_stays : (rows : List Memo) (m : Memo) (t word : ℕ) (name : Name) (o : Seen) → o.slot ≢ t → IsOfRow rows word name o → IsOfRow (set rows t m) word name o
row_stays rows m t word name o off row = record { few = row_few rows m t o.slot row.few; is = get_or-set_other rows t o.slot m no_memo off ∙ row.is }

-- where a slot didn't have the key, it doesn't, as a row of another name is set
none_stays : (rows : List Memo) (key : Key) (word : ℕ) (name : Name) (s : Seen) (t : ℕ) → hint_of name ≢ hint_of key.name → RecallsAt rows word name t None
    → RecallsAt (set rows s.slot (memo_of key s)) word name t None
none_stays rows key word name s t apart none low row =
    let few : t < length rows = omega (arith, low, length-set rows s.slot (memo_of key s)) in
    ⊎_elim
    (λ (same : t ≡ s.slot).
    let here : memo_at (set rows s.slot (memo_of key s)) t ≡ memo_of key s = ap (memo_at (set rows s.slot (memo_of key s))) same
    ∙ get_or-set_same rows s.slot (memo_of key s) no_memo (omega (arith, few, same)) in
    apart (ap hint_of (sym row.name ∙ ap (λ (m : Memo). m.name) here)))
    (λ (off : t ≢ s.slot). none few (subst (IsRow word name) (get_or-set_other rows s.slot t (memo_of key s) no_memo off) row))
    (cases_eq t s.slot)

pub keeps_others : (m : Memory) (key : Key) (s : Seen) → KeepsOthers key (Some s.slot) m (with_seen m key s)
keeps_others m key s other o apart off recalls = by recalls
  where
    hints : hinted (with_seen m key s).hints other.name ≡ hinted m.hints other.name
    hints = other_by ((hinted m.hints key.name).last == s.slot) m.hints key.name other.name _ apart

    word : ℕ
    word = kind_word other.kind

    found : (t u : ℕ) → u ≡ t → RecallsAt m.rows word other.name t (Some o) → RecallsAt (set m.rows s.slot (memo_of key s)) word other.name u (Some o)
    found t u same at = (at.0 ∙ sym same, row_stays m.rows (memo_of key s) s.slot word other.name o off at.1)

    by : Recalls m other (Some o) → Recalls (with_seen m key s) other (Some o)
    by (inl at) = inl (o, refl, found _ _ (ap (λ (h : Hint). h.last) hints) at.2)
    by (inr at) = inr (
      subst (λ (h : Hint). RecallsAt (set m.rows s.slot (memo_of key s)) word other.name h.last None) (sym hints) (none_stays m.rows key word other.name s _ apart at.0),
      found _ _ (ap (λ (h : Hint). h.older) hints) at.1,
    )

-- What is remembered by the word of a kind

-- what the row says that has the word and the name
pub at_words : (rows : List Memo) (word : ℕ) (name : Name) (t : ℕ) (m : Memo) → t < length rows → m ≡ memo_at rows t → IsRow word name m
    → RecallsAt rows word name t (Some (record { number = m.number; slot = t; value = m.value }))
at_words rows word name t m few here had = (refl, record { few = few; is = sym here ∙ λ i. record { number = m.number; value = m.value; kind = had.kind i; name = had.name i } })

-- by the newer hint, or by the older one
pub by_newer : (m : Memory) (word : ℕ) (name : Name) (s : Seen) → RecallsAt m.rows word name (hinted m.hints name).last (Some s) → RecallsWords m word name (Some s)
by_newer m word name s had = inl (s, refl, had)

pub by_older : (m : Memory) (word : ℕ) (name : Name) (found : Option Seen) → RecallsAt m.rows word name (hinted m.hints name).last None
    → RecallsAt m.rows word name (hinted m.hints name).older found → RecallsWords m word name found
by_older m word name found none had = inr (none, had)

-- the row that it is of
row_of : (m : Memory) (word : ℕ) (name : Name) (s : Seen) → RecallsWords m word name (Some s) → IsOfRow m.rows word name s
row_of m word name s (inl (r, is, had)) = had.1
row_of m word name s (inr had) = had.1.1

-- no entry has the name of a row of no entry
unnamed : IsTrue (is_key no_name) → ⊥
unnamed named = no_zeros named

-- what is remembered by the word is an entry's, and the word is its kind's
pub entry_by_word : (z : ℕ) (h : List Change) (m : Memory) (word : ℕ) (name : Name) (s : Seen) → Remembers z h m → IsSome word name → RecallsWords m word name (Some s)
    → (k : Kind) × (word ≡ kind_word k) × (s.slot < z) × IsAttached h (entry_with (key_with k name) s.slot s.number s.value)
entry_by_word z h m word name s had some recalls = by (had.each s.slot)
  where
    row : memo_at m.rows s.slot ≡ memo_with word name s
    row = (row_of m word name s recalls).is

    by : (memo_at m.rows s.slot ≡ no_memo) ⊎ IsEntrys z h s.slot (memo_at m.rows s.slot) → (k : Kind) × (word ≡ kind_word k) × (s.slot < z) × IsAttached h (entry_with (key_with k name) s.slot s.number s.value)
    by (inl none) =
        let is : memo_with word name s ≡ no_memo = sym row ∙ none in
        absurd (unnamed (subst (λ (n : Name). IsTrue (is_key n)) (ap (λ (r : Memo). r.name) is) (some (ap (λ (r : Memo). r.kind) is))))
    by (inr e) = let f = subst (IsEntrys z h s.slot) row e in (f.of, f.word, f.few, f.attached)

-- what is found by a kind's word is found of the kind
pub of_word : (P : Kind → Option Seen → Type 0) (kind : Kind) (word : ℕ) (found : Option Seen) → word ≡ kind_word kind → ByWord word found P → P kind found
of_word P kind word None is had = had kind is
of_word P kind word (Some s) is (k, word_is, had) = subst (λ (k : Kind). P k (Some s)) (one_kind k kind (sym word_is ∙ is)) had

-- a kind's word isn't 0
pub kind_is_some : (kind : Kind) (word : ℕ) (name : Name) → word ≡ kind_word kind → IsSome word name
kind_is_some Iface word name is zero = absurd (omega (arith, is, zero))
kind_is_some Driver word name is zero = absurd (omega (arith, is, zero))

-- Rows that are cleared

wordless : (kind : Kind) → kind_word kind ≡ 0 → ⊥
wordless Iface is = omega (arith, is)
wordless Driver is = omega (arith, is)

-- a slot without the key stays so
still_none : (m n : Memory) (w : ℕ) (key other : Key) (t u : ℕ) → HasCleared w key.name t m n → RecallsAt m.rows (kind_word other.kind) other.name u None
    → RecallsAt n.rows (kind_word other.kind) other.name u None
still_none m n w key other t u had none low row = ⊎_elim
    (λ (same : memo_at n.rows u ≡ memo_at m.rows u). none (omega (arith, low, had.size)) (subst (IsRow (kind_word other.kind) other.name) same row))
    (λ (gone : IsRow w key.name (memo_at m.rows u) × (memo_at n.rows u ≡ no_memo)). wordless other.kind (sym row.kind ∙ ap (λ (m : Memo). m.kind) gone.1))
    (had.each u)

cleared_stays : (z : ℕ) (h : List Change) (m n : Memory) (word : ℕ) (name : Name) (t : ℕ) → HasCleared word name t m n → Remembers z h m → Remembers z h n
cleared_stays z h m n word name t had was = record {
  size = had.size ∙ was.size;
  hints = ap (λ (x : Memory). length x.hints) had.is ∙ was.hints;
  each = λ u. ⊎_elim
      (λ (same : memo_at n.rows u ≡ memo_at m.rows u). subst (λ (r : Memo). (r ≡ no_memo) ⊎ IsEntrys z h u r) (sym same) (was.each u))
      (λ (gone : IsRow word name (memo_at m.rows u) × (memo_at n.rows u ≡ no_memo)). inl gone.1)
      (had.each u);
  absent = subst (λ (x : Missed). (i : ℕ) → IsTrueMiss h (miss_at x.places i)) (sym (ap (λ (x : Memory). x.missed) had.is)) was.absent;
}

pub forgotten_stays : (z : ℕ) (h : List Change) (m n : Memory) (key : Key) → HasForgotten key m n → Remembers z h m → Remembers z h n
forgotten_stays z h m n key had was = cleared_stays z h had.0 n (kind_word key.kind) key.name _ had.2 (cleared_stays z h m had.0 (kind_word key.kind) key.name _ had.1 was)

pub none_recalled : (m n : Memory) (key : Key) → HasForgotten key m n → Recalls n key None
none_recalled m n key had =
    let c = had.0 in
    let hints : n.hints ≡ m.hints = ap (λ (m : Memory). m.hints) had.2.is ∙ ap (λ (m : Memory). m.hints) had.1.is in
    inr (
      subst (λ (l : List Hint). RecallsAt n.rows (kind_word key.kind) key.name (hinted l key.name).last None) (sym hints) (still_none c n (kind_word key.kind) key key _ _ had.2 had.1.none),
      subst (λ (l : List Hint). RecallsAt n.rows (kind_word key.kind) key.name (hinted l key.name).older None) (sym hints) had.2.none,
    )

-- what is remembered of a key with another hint is of rows with another key
other_kept : (m n : Memory) (key : Key) (t : ℕ) → HasCleared (kind_word key.kind) key.name t m n → KeepsOthers key None m n
other_kept m n key t had other o apart any recalls = subst (λ (l : List Hint). Recalls (record n { hints = l }) other (Some o)) (sym (ap (λ (x : Memory). x.hints) had.is)) (by recalls)
  where
    word : ℕ
    word = kind_word other.kind

    row : IsOfRow m.rows word other.name o → IsOfRow n.rows word other.name o
    row was = ⊎_elim
        (λ (same : memo_at n.rows o.slot ≡ memo_at m.rows o.slot). record { few = omega (arith, had.size, was.few); is = same ∙ was.is })
        (λ (gone : IsRow (kind_word key.kind) key.name (memo_at m.rows o.slot) × (memo_at n.rows o.slot ≡ no_memo)).
        absurd (apart (ap hint_of (ap (λ (m : Memo). m.name) (sym was.is) ∙ gone.0.name))))
        (had.each o.slot)

    by : Recalls m other (Some o) → Recalls (record n { hints = m.hints }) other (Some o)
    by (inl at) = inl (o, refl, (at.2.0, row at.2.1))
    by (inr at) = inr (still_none m n (kind_word key.kind) key other t _ had at.0, (at.1.0, row at.1.1))

pub others_kept : (m n : Memory) (key : Key) → HasForgotten key m n → KeepsOthers key None m n
others_kept m n key had other o apart any recalls =
    let still = subst (λ (x : Memory). hint_of other.name ≢ hint_of key.name) (sym had.1.is) apart in
    other_kept had.0 n key _ had.2 other o still any (other_kept m had.0 key _ had.1 other o apart any recalls)

-- One miss more

pub misses_more : (z : ℕ) (h : List Change) (m : Memory) (key : Key) (n : ℕ) → Remembers z h m → WasAbsent h key n → Remembers z h (with_miss m key n)
misses_more z h m key n had was =
    record { size = had.size; hints = had.hints; each = had.each; absent = kept (keeps m.missed.places key last) }
  where
    last : ℕ
    last = (hinted m.missed.hints key.name).last

    miss : Miss
    miss = missed_as key n

    put : (p i : ℕ) → IsTrueMiss h (miss_at (set m.missed.places p miss) i)
    put p i = ⊎_elim
        (λ (few : p < length m.missed.places). ⊎_elim
        (λ (same : i ≡ p). subst (IsTrueMiss h) (sym (ap (miss_at (set m.missed.places p miss)) same ∙ get_or-set_same m.missed.places p miss no_miss few)) (λ some. was))
        (λ (off : i ≢ p). subst (IsTrueMiss h) (sym (get_or-set_other m.missed.places p i miss no_miss off)) (had.absent i))
        (cases_eq i p))
        (λ (past : length m.missed.places ≤ p). subst (λ (l : List Miss). IsTrueMiss h (miss_at l i)) (sym (set_past m.missed.places p miss past)) (had.absent i))
        (cases_lt p (length m.missed.places))

    kept : (b : Bool) (i : ℕ) → IsTrueMiss h (miss_at (if b then record m.missed { places = set m.missed.places last miss } else record {
      places = set m.missed.places m.missed.next miss;
      hints = set m.missed.hints (hint_of key.name) (record { last = m.missed.next; older = last });
      next = (m.missed.next + 1) % length m.missed.places;
    }).places i)
    kept true i = put last i
    kept false i = put m.missed.next i

-- the miss that is remembered of a key is true
pub true_miss : (h : List Change) (m : Missed) (key : Key) → ((i : ℕ) → IsTrueMiss h (miss_at m.places i)) → IsTrueMiss h (miss_of m key)
true_miss h m key are = by_case (is_for key (miss_at m.places (hinted m.hints key.name).last))
  where
    by_case : (b : Bool) → IsTrueMiss h (if b then miss_at m.places (hinted m.hints key.name).last else miss_at m.places (hinted m.hints key.name).older)
    by_case true = are (hinted m.hints key.name).last
    by_case false = are (hinted m.hints key.name).older
