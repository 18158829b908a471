-- A walk over links: what each load leaves holds, and what ends it is lawful.
use Rattle.std.proofs.Common.{◌≡◌, ℕ, zero, suc, ◌+◌, ◌*◌, ◌<◌, ◌≤◌, ◌⊎◌, inl, inr, List, length, get_or, set, Option, Some, None, Bool, true, false, refl, sym, ap, subst, ◌∙◌, arith, get_or-set_same, get_or-set_other, eqb-true}
use Rattle.std.proofs.lemmas.Option.{same_Some, none-some}
use Rattle.std.proofs.lemmas.List.{get_or_past}
use Rattle.std.proofs.lemmas.Bool.{cases_lt, cases_eq, and_parts}
use Rattle.protocol.specs.Types.{Entry, Change, Key}
use Rattle.protocol.specs.History.{rank_at}
use Rattle.protocol.specs.Common.{Reply, Done, Word, Found, Missed, Ref, Collected, RecordWords, Loaded, SearchPlace, AtHead, AtNext, AtNumber, AtKind, AtHigh, AtLow, AtValue, Search, EndsAt, MayHold, IsLookup, IsLawful, State, Outcome, SlotWithin, IsIn, SearchHolds, SearchesHold, FoundHold, StandsOn, AllBelow, PlaceHolds, Holds}
use Rattle.protocol.specs.Common.{row_at, seen_at, search_at, begin_at, entry_with, loaded_at, loaded_of_name, row_of_place}
use Rattle.protocol.specs.Events
use Rattle.registry_values.specs.Common.{are_words_of, key_of, slot_at, kind_word}
use Rattle.protocol.proofs.History.{ended_within, rank_key, rank_low, Ahead, No_more, One_more, step_ahead, all_below_later, found_lawful, missed_lawful, find_exact}
use Rattle.protocol.proofs.Occupied.{in_within}
use Rattle.protocol.proofs.Either.{either}

-- a place that shows something is within the list
pub within_some : {X : Type 0} (xs : List (Option X)) (c : ℕ) (x : X) → get_or xs c None ≡ Some x → c < length xs
within_some xs c x is = either (cases_lt c (length xs)) (λ lt. lt) (λ ge. absurd (none-some x (sym (get_or_past xs c None ge) ∙ is)))

-- c's search is over
pub searches_over : (h : List Change) (begins : List (Option ℕ)) (seen : List ℕ) (searches : List (Option Search)) (c : ℕ) → c < length searches
    → SearchesHold h begins seen searches → SearchesHold h begins seen (set searches c None)
searches_over h begins seen searches c cs hold j q is = grind (arith, none-some, get_or-set_same, get_or-set_other, cases_eq j c)

-- c's search is q now
pub searches_on : (h : List Change) (begins : List (Option ℕ)) (seen : List ℕ) (searches : List (Option Search)) (c : ℕ) (q : Search) → c < length searches
    → SearchHolds h (get_or begins c None) (get_or seen c 0) q
    → SearchesHold h begins seen searches → SearchesHold h begins seen (set searches c (Some q))
searches_on h begins seen searches c q cs now hold j r is = grind (arith, same_Some, get_or-set_same, get_or-set_other, cases_eq j c)

-- a lookup's answer becomes the last found entry
pub found_none : (h : List Change) (begins : List (Option ℕ)) (found : List (Option Entry)) (c : ℕ) → c < length found → FoundHold h begins found → FoundHold h begins (set found c None)
found_none h begins found c cf hold j e is = grind (arith, none-some, get_or-set_same, get_or-set_other, cases_eq j c)

pub found_some : (h : List Change) (begins : List (Option ℕ)) (found : List (Option Entry)) (c b : ℕ) (f : Entry) → c < length found
    → get_or begins c None ≡ Some b → MayHold h b f → FoundHold h begins found → FoundHold h begins (set found c (Some f))
found_some h begins found c b f cf in_ may hold j e is = grind (arith, same_Some, get_or-set_same, get_or-set_other, cases_eq j c)

-- a walk of c from `from`: its section began before, and nothing of it is yet to come
pub record Walks (s : State) (c from : ℕ) : Type 0 where
  pub begin : ℕ
  pub open_since : begin_at s c ≡ Some begin
  pub since : begin ≤ from
  pub by_now : from ≤ length s.history

-- a search walks from its start
pub search_walks : (s : State) (c : ℕ) (q : Search) → Holds s → search_at s c ≡ Some q → Walks s c q.start
search_walks s c q on is =
    let was : SearchHolds s.history (begin_at s c) (seen_at s c) q = on.searches c q is in
    record { begin = was.begun.0; open_since = was.begun.1; since = was.begun.2; by_now = omega (arith, was.started, on.sections.prefix c) }

-- a search walks from the end of the history too
pub walks_now : (s : State) (c : ℕ) (q : Search) → Holds s → search_at s c ≡ Some q → Walks s c (length s.history)
walks_now s c q on is =
    let was : SearchHolds s.history (begin_at s c) (seen_at s c) q = on.searches c q is in
    record { begin = was.begun.0; open_since = was.begun.1; since = omega (arith, was.begun.2, was.started, on.sections.prefix c); by_now = omega arith }

-- the entry of a walk has its slot
pub stands_in : (s : State) (c from to t : ℕ) (e : Entry) → Holds s → Walks s c from → StandsOn s.history from to t e → IsIn e (slot_at s.slots t)
stands_in s c from to t e on walk stands =
    subst (λ (u : ℕ). IsIn e (slot_at s.slots u)) stands.at
    (on.held c walk.begin e walk.open_since (record { attached = stands.attached; unended = λ p x. omega (arith, stands.unended p x, walk.since) }))

pub stands_within : (s : State) (c from to t : ℕ) (e : Entry) → Holds s → Walks s c from → StandsOn s.history from to t e → t < length s.slots
stands_within s c from to t e on walk stands = in_within s.slots t e (stands_in s c from to t e on walk stands)

-- the words of the entry of a walk
pub words_stand : (s : State) (c from to t : ℕ) (e : Entry) → Holds s → Walks s c from → StandsOn s.history from to t e → row_at s.rows t ≡ Events.words_of e
words_stand s c from to t e on walk stands = (on.rows t e (stands_in s c from to t e on walk stands)).0

-- the slot that a walk reads is in range
pub place_within : (s : State) (c from to : ℕ) (key : Key) (place : SearchPlace) → Holds s → Walks s c from → PlaceHolds s.history from to key place → SlotWithin place (length s.slots)
place_within s c from to key AtHead on walk p = tt
place_within s c from to key (AtNext t) on walk p = stands_within s c from to t p.0 on walk p.1
place_within s c from to key (AtNumber t) on walk p = stands_within s c from to t p.0 on walk p.1
place_within s c from to key (AtKind t n) on walk p = stands_within s c from to t p.0 on walk p.1
place_within s c from to key (AtHigh t n k) on walk p = stands_within s c from to t p.0 on walk p.1
place_within s c from to key (AtLow t n k x) on walk p = stands_within s c from to t p.0 on walk p.1
place_within s c from to key (AtValue t n) on walk p = stands_within s c from to t p.0 on walk p.1

-- the head leads on
pub head_ahead : (s : State) (from : ℕ) (key : Key) → Holds s → from ≤ length s.history → Ahead s.history from (length s.history) key (suc (length s.history)) s.head
head_ahead s from key on le =
    step_ahead s.history on.legal from (length s.history) (length s.history) (suc (length s.history)) key s.head le (omega arith)
    (λ f g lf lg rank same. omega (arith, rank_low s.history on.legal f.number, lf.begun, le))
    on.list.first

-- and so does the link of the walk's entry, a live one or a retired one, to a lower rank
pub next_ahead : (s : State) (c from to t : ℕ) (key : Key) (e : Entry) → Holds s → Walks s c from → from ≤ to → to ≤ length s.history
    → StandsOn s.history from to t e → AllBelow s.history from to key (rank_at s.history e.number) → Ahead s.history from (length s.history) key (rank_at s.history e.number) (get_or s.next t 0)
next_ahead s c from to t key e on walk lo le stands below =
    let rank : ℕ = rank_at s.history e.number in
    let later : AllBelow s.history from (length s.history) key rank = all_below_later s.history on.legal from to (length s.history) key rank lo le below in
    either (stands_in s c from to t e on walk stands)
    (λ live.
    step_ahead s.history on.legal from (length s.history) (length s.history) rank key (get_or s.next t 0) walk.by_now (omega arith) later (on.list.links t e live))
    (λ gone.
    let end : (p : ℕ) × EndsAt s.history e.number p = (on.slots.retired t e gone).2 in
    let past : from < end.0 = stands.unended end.0 end.1 in
    step_ahead s.history on.legal from end.0 (length s.history) rank key (get_or s.next t 0)
    (omega arith) (ended_within s.history e.number end.0 end.1).1 later
    (on.frozen_links t end.0 c walk.begin e gone end.1 walk.open_since (omega (arith, walk.since))))

-- the link at the place of a walk, and what it leads to
pub at_next_ahead : (s : State) (c from to t : ℕ) (key : Key) → Holds s → Walks s c from → from ≤ to → to ≤ length s.history → (p : PlaceHolds s.history from to key (AtNext t))
    → (t < length s.next) × Ahead s.history from (length s.history) key (rank_at s.history p.0.number) (get_or s.next t 0)
at_next_ahead s c from to t key on walk lo le p =
    let lt : t < length s.slots = stands_within s c from to t p.0 on walk p.1 in
    (omega (arith, on.shape.slots, on.shape.links), next_ahead s c from to t key p.0 on walk lo le p.1 p.2)

-- a link that isn't the end leads to a slot in range, to a rank below n, and the walk holds there
abbrev pub GoesTo : State → ℕ → Key → ℕ → ℕ → Type 0
GoesTo s from key n t = (e : Entry) × StandsOn s.history from (length s.history) t e × AllBelow s.history from (length s.history) key (suc (rank_at s.history e.number)) × (rank_at s.history e.number < n) × (t < length s.slots)

-- what a link tells: the end of the walk, or where it goes
abbrev pub LinkTells : State → ℕ → Key → ℕ → ℕ → Type 0
LinkTells s from key n zero = IsLawful s.history from (length s.history) key None
LinkTells s from key n (suc t) = GoesTo s from key n t

pub link_tells : (s : State) (c from n x : ℕ) (key : Key) → Holds s → Walks s c from → Ahead s.history from (length s.history) key n x → LinkTells s from key n x
link_tells s c from n zero key on walk (No_more below) = missed_lawful s.history on.legal from (length s.history) key walk.by_now below
link_tells s c from n _ key on walk (One_more e stands lt below) = (e, stands, below, lt, stands_within s c from (length s.history) e.slot e on walk stands)

-- what is left of a walk at a place: it falls with each load
abbrev pub weight : State → SearchPlace → ℕ
weight s AtHead = 6 * (length s.history + 1)
weight s (AtNext t) = 6 * rank_at s.history (row_at s.rows t).number
weight s (AtNumber t) = 6 * rank_at s.history (row_at s.rows t).number + 5
weight s (AtKind t n) = 6 * rank_at s.history (row_at s.rows t).number + 4
weight s (AtHigh t n k) = 6 * rank_at s.history (row_at s.rows t).number + 3
weight s (AtLow t n k x) = 6 * rank_at s.history (row_at s.rows t).number + 2
weight s (AtValue t n) = 6 * rank_at s.history (row_at s.rows t).number + 1

-- the search q, at another place
abbrev pub placed : Search → SearchPlace → Search
placed q place = record { key = q.key; start = q.start; place = place }

-- What a load leaves of a walk of c for the key of q from `from`, which had n left: a place that holds, with less left, or a lawful answer.
abbrev pub IsStep : State → ℕ → ℕ → Search → ℕ → Reply → Type 0
IsStep s c from q n Done = Unit {0}
IsStep s c from q n (Word w) = (place : SearchPlace) × (search_at s c ≡ Some (placed q place)) × PlaceHolds s.history from (seen_at s c) q.key place × (weight s place < n)
IsStep s c from q n (Found e) = IsLawful s.history from (seen_at s c) q.key (Some e)
IsStep s c from q n Missed = IsLawful s.history from (seen_at s c) q.key None
IsStep s c from q n (Ref id) = Unit {0}
IsStep s c from q n Collected = Unit {0}

abbrev pub Steps : ℕ → ℕ → Search → ℕ → Option Outcome → Type 0
Steps c from q n None = Unit {0}
Steps c from q n (Some o) = IsStep o.state c from q n o.reply

-- the pass of c is the whole history
pub seen_now : (s : State) (c : ℕ) → Holds s → c < s.settings.cpus → seen_at (Events.after_seeing s c) c ≡ length s.history
seen_now s c on lt = get_or-set_same s.seen c (length s.history) 0 (omega (arith, on.shape.seen))

-- a CPU that searches is in range
pub searching_within : (s : State) (c : ℕ) (q : Search) → Holds s → search_at s c ≡ Some q → c < s.settings.cpus
searching_within s c q on is = omega (arith, within_some s.searches c q is, on.shape.searches)

-- the search of c is q at another place now
search_placed : (s : State) (c : ℕ) (q : Search) (place : SearchPlace) → search_at s c ≡ Some q → search_at (Events.with_search_at s c q place) c ≡ Some (placed q place)
search_placed s c q place is = get_or-set_same s.searches c (Some (placed q place)) None (within_some s.searches c q is)

link_steps : (s : State) (c from : ℕ) (q : Search) (n x : ℕ) → Holds s → Walks s c from → search_at s c ≡ Some q → LinkTells s from q.key n x → Steps c from q (6 * n) (Events.link_loaded s c q x)
link_steps s c from q n zero on walk is tells = grind (arith, seen_now, searching_within)
link_steps s c from q n (suc t) on walk is tells =
    let number : (row_at s.rows t).number ≡ tells.0.number = ap (λ (r : RecordWords). r.number) (words_stand s c from (length s.history) t tells.0 on walk tells.1) in
    let rank : rank_at s.history (row_at s.rows t).number ≡ rank_at s.history tells.0.number = ap (rank_at s.history) number in (
      AtNumber t,
      search_placed s c q (AtNumber t) is,
      subst (λ (to : ℕ). PlaceHolds s.history from to q.key (AtNumber t)) (sym (seen_now s c on (searching_within s c q on is))) (tells.0, tells.1, tells.2),
      omega (arith, rank, tells.3),
    )

-- LoadLink: the walk holds at the new place, and a miss is lawful.
pub load_link_steps : (s : State) (c from : ℕ) (q : Search) (place : SearchPlace) → Holds s → Walks s c from → (place ≡ AtHead) ⊎ (from ≤ seen_at s c) → search_at s c ≡ Some q
    → PlaceHolds s.history from (seen_at s c) q.key place → Steps c from q (weight s place) (Events.load_link s c q place)
load_link_steps s c from q AtHead on walk seen is p =
    subst (λ (n : ℕ). Steps c from q (6 * n) (Events.link_loaded s c q s.head)) (next_number (length s.history))
    (link_steps s c from q (suc (length s.history)) s.head on walk is (link_tells s c from (suc (length s.history)) s.head q.key on walk (head_ahead s from q.key on walk.by_now)))
  where
    next_number : (n : ℕ) → suc n ≡ n + 1
    next_number n = omega arith
load_link_steps s c from q (AtNext t) on walk seen is p =
    let number : (row_at s.rows t).number ≡ p.0.number = ap (λ (r : RecordWords). r.number) (words_stand s c from (seen_at s c) t p.0 on walk p.1) in
    let rank : ℕ = rank_at s.history p.0.number in
    let low : from ≤ seen_at s c = either seen (λ head. absurd (let q : AtNext t ≡ AtHead = head in cc)) (λ lo. lo) in
    subst (λ (n : ℕ). Steps c from q (6 * rank_at s.history n) (Events.link_loaded s c q (get_or s.next t 0))) (sym number)
    (link_steps s c from q rank (get_or s.next t 0) on walk is
    (link_tells s c from rank (get_or s.next t 0) q.key on walk (next_ahead s c from (seen_at s c) t q.key p.0 on walk low (on.sections.prefix c) p.1 p.2)))
load_link_steps s c from q _ on walk seen is p = tt

-- Words and keys.
pub key_from_words : (key : Key) (e : Entry) → are_words_of key (kind_word e.rec.kind) e.rec.name.high e.rec.name.low ≡ true → key ≡ key_of e
key_from_words key e holds = grind (arith, and_parts, eqb-true)

pub key_to_words : (key : Key) → are_words_of key (kind_word key.kind) key.name.high key.name.low ≡ true
key_to_words key = grind arith

-- the walk's entry has another key: what is left is below it
pub key_differs : (s : State) (from to t : ℕ) (key : Key) (e : Entry) → Holds s → StandsOn s.history from to t e → AllBelow s.history from to key (suc (rank_at s.history e.number))
    → are_words_of key (kind_word e.rec.kind) e.rec.name.high e.rec.name.low ≡ false → AllBelow s.history from to key (rank_at s.history e.number)
key_differs s from to t key e on stands below test f g lf lg rank same =
    let top = below f g lf lg rank same in
    either (cases_eq (rank_at s.history f.number) (rank_at s.history e.number))
    (λ one.
    let alike : key_of e ≡ key = sym (rank_key s.history on.legal f e lf.attached stands.attached one) ∙ same in
    let own : are_words_of (key_of e) (kind_word e.rec.kind) e.rec.name.high e.rec.name.low ≡ true = key_to_words (key_of e) in
    let clash : ◌≡◌ {A = Bool} true false = sym own ∙ (ap (λ (k : Key). are_words_of k (kind_word e.rec.kind) e.rec.name.high e.rec.name.low) alike ∙ test) in absurd cc)
    (λ off. omega (arith, top, off))

-- the walk is at exactly the entry that is returned
pub found_is : (s : State) (c from to t n : ℕ) (q : Search) (e : Entry) → Holds s → Walks s c from → StandsOn s.history from to t e → n ≡ e.number → q.key ≡ key_of e
    → e ≡ entry_with q.key t n (row_at s.rows t).value
found_is s c from to t n q e on walk stands number same =
    let row : row_at s.rows t ≡ Events.words_of e = words_stand s c from to t e on walk stands in
    λ i. record { number = sym number i; slot = stands.at i; rec = record { kind = (sym same i).kind; name = (sym same i).name; value = (sym row i).value } }

-- the next place after a load of a record word
abbrev pub GoesOn : State → ℕ → ℕ → Key → SearchPlace → Type 0
GoesOn s from to key AtHead = Unit {0}
GoesOn s from to key (AtNext t) = Unit {0}
GoesOn s from to key (AtNumber t) = PlaceHolds s.history from to key (AtKind t (row_at s.rows t).number)
GoesOn s from to key (AtKind t n) = PlaceHolds s.history from to key (AtHigh t n (row_at s.rows t).kind)
GoesOn s from to key (AtHigh t n k) = PlaceHolds s.history from to key (AtLow t n k (row_at s.rows t).high)
GoesOn s from to key (AtLow t n k x) = ((are_words_of key k x (row_at s.rows t).low ≡ true) → PlaceHolds s.history from to key (AtValue t n))
    × ((are_words_of key k x (row_at s.rows t).low ≡ false) → PlaceHolds s.history from to key (AtNext t))
GoesOn s from to key (AtValue t n) = Unit {0}

pub goes_on : (s : State) (c from to : ℕ) (key : Key) (place : SearchPlace) → Holds s → Walks s c from → PlaceHolds s.history from to key place → GoesOn s from to key place
goes_on s c from to key (AtNumber t) on walk p = (p.0, p.1, p.2, ap (λ (r : RecordWords). r.number) (words_stand s c from to t p.0 on walk p.1))
goes_on s c from to key (AtKind t n) on walk p = (p.0, p.1, p.2, p.3, ap (λ (r : RecordWords). r.kind) (words_stand s c from to t p.0 on walk p.1))
goes_on s c from to key (AtHigh t n k) on walk p = (p.0, p.1, p.2, p.3, p.4, ap (λ (r : RecordWords). r.high) (words_stand s c from to t p.0 on walk p.1))
goes_on s c from to key (AtLow t n k x) on walk p =
    let row : row_at s.rows t ≡ Events.words_of p.0 = words_stand s c from to t p.0 on walk p.1 in
    let test : are_words_of key (kind_word p.0.rec.kind) p.0.rec.name.high p.0.rec.name.low ≡ are_words_of key k x (row_at s.rows t).low =
    λ i. are_words_of key (sym p.4 i) (sym p.5 i) (sym row i).low in
    (λ right. (p.0, p.1, p.3, key_from_words key p.0 (test ∙ right)), λ wrong. (p.0, p.1, key_differs s from to t key p.0 on p.1 p.2 (test ∙ wrong)))
goes_on s c from to key _ on walk p = tt

-- what a found entry is
pub found_tells : (s : State) (c from to t n : ℕ) (q : Search) → Holds s → Walks s c from → from ≤ to → PlaceHolds s.history from to q.key (AtValue t n)
    → IsLawful s.history from to q.key (Some (entry_with q.key t n (row_at s.rows t).value))
found_tells s c from to t n q on walk le p =
    let same : p.0 ≡ entry_with q.key t n (row_at s.rows t).value = found_is s c from to t n q p.0 on walk p.1 p.2 p.3 in
    found_lawful s.history on.legal from to t (entry_with q.key t n (row_at s.rows t).value) q.key le (subst (StandsOn s.history from to t) same p.1) refl

compared_steps : (s : State) (c from : ℕ) (q : Search) (t n l left : ℕ) (b : Bool) → search_at s c ≡ Some q → left ≡ 6 * rank_at s.history (row_at s.rows t).number + 2
    → (b ≡ true → PlaceHolds s.history from (seen_at s c) q.key (AtValue t n)) → (b ≡ false → PlaceHolds s.history from (seen_at s c) q.key (AtNext t))
    → Steps c from q left (Events.outcome_of s c q (Some (loaded_of_name t n l b)))
compared_steps s c from q t n l left true is weighs right wrong = (AtValue t n, search_placed s c q (AtValue t n) is, right refl, omega arith)
compared_steps s c from q t n l left false is weighs right wrong = (AtNext t, search_placed s c q (AtNext t) is, wrong refl, omega arith)

-- LoadRecord: the walk holds at the new place, and what is found is lawful.
pub load_searched_steps : (s : State) (c from : ℕ) (q : Search) (place : SearchPlace) → Holds s → Walks s c from → from ≤ seen_at s c → search_at s c ≡ Some q
    → PlaceHolds s.history from (seen_at s c) q.key place → Steps c from q (weight s place) (Events.load_searched s c q place)
load_searched_steps s c from q (AtNumber t) on walk le is p =
    (AtKind t (row_at s.rows t).number, search_placed s c q (AtKind t (row_at s.rows t).number) is, goes_on s c from (seen_at s c) q.key (AtNumber t) on walk p, omega arith)
load_searched_steps s c from q (AtKind t n) on walk le is p =
    (AtHigh t n (row_at s.rows t).kind, search_placed s c q (AtHigh t n (row_at s.rows t).kind) is, goes_on s c from (seen_at s c) q.key (AtKind t n) on walk p, omega arith)
load_searched_steps s c from q (AtHigh t n k) on walk le is p =
    (AtLow t n k (row_at s.rows t).high, search_placed s c q (AtLow t n k (row_at s.rows t).high) is, goes_on s c from (seen_at s c) q.key (AtHigh t n k) on walk p, omega arith)
load_searched_steps s c from q (AtLow t n k x) on walk le is p =
    let next = goes_on s c from (seen_at s c) q.key (AtLow t n k x) on walk p in
    compared_steps s c from q t n (row_at s.rows t).low (weight s (AtLow t n k x)) (are_words_of q.key k x (row_at s.rows t).low) is refl next.0 next.1
load_searched_steps s c from q (AtValue t n) on walk le is p = found_tells s c from (seen_at s c) t n q on walk le p
load_searched_steps s c from q _ on walk le is p = tt

-- An undisturbed walk: the search q of c answers for the whole history.
pub record Finds (s : State) (c : ℕ) (q : Search) : Type 0 where
  pub searching : search_at s c ≡ Some q
  pub stands : PlaceHolds s.history (length s.history) (seen_at s c) q.key q.place
  pub seen : (q.place ≡ AtHead) ⊎ (seen_at s c ≡ length s.history)

-- what a load leaves of it: less of it, or the result of a lookup over the whole history
abbrev pub IsFindStep : State → ℕ → Search → ℕ → Reply → Type 0
IsFindStep s c q n Done = Unit {0}
IsFindStep s c q n (Word w) = (place : SearchPlace) × Finds s c (placed q place) × (weight s place < n)
IsFindStep s c q n (Found e) = IsLookup s.history (length s.history) q.key (Some e)
IsFindStep s c q n Missed = IsLookup s.history (length s.history) q.key None
IsFindStep s c q n (Ref id) = Unit {0}
IsFindStep s c q n Collected = Unit {0}

abbrev pub FindSteps : ℕ → Search → ℕ → Option Outcome → Type 0
FindSteps c q n None = Unit {0}
FindSteps c q n (Some o) = IsFindStep o.state c q n o.reply

-- a step after which all of an unchanged history is seen
abbrev Sees : State → ℕ → Option Outcome → Type 0
Sees s c None = Unit {0}
Sees s c (Some o) = (o.state.history ≡ s.history) × (seen_at o.state c ≡ length s.history)

find_steps : (s : State) (c : ℕ) (q : Search) (n : ℕ) (o : Option Outcome) → Sees s c o → Steps c (length s.history) q n o → FindSteps c q n o
find_steps s c q n o sees steps = grind (arith, find_exact)

followed_sees : (s : State) (c : ℕ) (q : Search) (x : Option ℕ) → Holds s → search_at s c ≡ Some q → Sees s c (Events.with_some x (Events.link_loaded s c q))
followed_sees s c q x on is = grind (arith, seen_now, searching_within)

outcome_sees : (s : State) (c : ℕ) (q : Search) (o : Option Loaded) → seen_at s c ≡ length s.history → Sees s c (Events.outcome_of s c q o)
outcome_sees s c q o all = grind arith

record_sees : (s : State) (c : ℕ) (q : Search) (place : SearchPlace) → (place ≡ AtHead) ⊎ (seen_at s c ≡ length s.history) → Sees s c (Events.load_searched s c q place)
record_sees s c q place (inl head) = subst (λ (p : SearchPlace). Sees s c (Events.load_searched s c q p)) (sym head) tt
record_sees s c q place (inr all) = outcome_sees s c q (loaded_at q place (row_of_place s.rows place)) all

pub find_link : (s : State) (c : ℕ) (q : Search) → Holds s → Finds s c q → FindSteps c q (weight s q.place) (Events.load_link s c q q.place)
find_link s c q on finds = find_steps s c q (weight s q.place) (Events.load_link s c q q.place) (followed_sees s c q (Events.link_at s q.place) on finds.searching)
    (load_link_steps s c (length s.history) q q.place on (walks_now s c q on finds.searching) (either finds.seen (λ head. inl head) (λ all. inr (omega (arith, all)))) finds.searching finds.stands)

pub find_record : (s : State) (c : ℕ) (q : Search) → Holds s → Finds s c q → FindSteps c q (weight s q.place) (Events.load_searched s c q q.place)
find_record s c q on finds = either finds.seen
    (λ head. subst (λ (p : SearchPlace). FindSteps c q (weight s p) (Events.load_searched s c q p)) (sym head) tt)
    (λ all. find_steps s c q (weight s q.place) (Events.load_searched s c q q.place) (record_sees s c q q.place finds.seen)
    (load_searched_steps s c (length s.history) q q.place on (walks_now s c q on finds.searching) (omega arith) finds.searching finds.stands))
