-- Seek and the loads of a search keep the invariant, their answers are lawful, and what they do to the state.
use Rattle.std.proofs.Common.{◌≡◌, ℕ, zero, suc, ◌<◌, List, length, get_or, set, Option, Some, None, Bool, true, false, sym, subst, ◌∙◌, arith, get_or-set_same, length-set, ◌≤◌, inr}
use Rattle.std.proofs.lemmas.Bool.{and_parts}
use Rattle.protocol.specs.Types.{Entry, Key, Change}
use Rattle.protocol.specs.History.{rank_at}
use Rattle.registry_values.specs.Common.{are_words_of}
use Rattle.protocol.specs.Common.{Reply, Done, Word, Found, Missed, Ref, Collected, SearchPlace, AtHead, AtNext, AtNumber, AtKind, AtHigh, AtLow, AtValue, Search, MayHold, IsLawful, State, begin_at, seen_at, search_at, row_at, entry_with, loaded_of_name, Outcome, StandsOn, PlaceHolds, SearchHolds, FoundHold, Holds, Keeps, Loaded, loaded_at, row_of_place}
use Rattle.protocol.specs.Events
use Rattle.protocol.proofs.keeps.SectionKeeps.{seats_search, seated_search, some_from, idle_parts, see_keeps}
use Rattle.protocol.proofs.keeps.Searching.{within_some, searches_over, searches_on, found_none, found_some, Walks, search_walks, head_ahead, next_ahead, LinkTells, link_tells, goes_on, found_is, weight, Steps, load_link_steps, load_searched_steps, at_next_ahead}

-- the invariant after an event, if it was allowed

-- a reply that ends a search is a lawful answer
abbrev pub IsAnswer : List Change → ℕ → ℕ → Key → Reply → Type 0
IsAnswer h from to key Done = Unit {0}
IsAnswer h from to key (Word w) = Unit {0}
IsAnswer h from to key (Found e) = IsLawful h from to key (Some e)
IsAnswer h from to key Missed = IsLawful h from to key None
IsAnswer h from to key (Ref id) = Unit {0}
IsAnswer h from to key Collected = Unit {0}

-- the search q of the CPU c began at its start; what ends it is lawful
abbrev pub AnswersLookup : ℕ → Search → Option Outcome → Type 0
AnswersLookup c q None = Unit {0}
AnswersLookup c q (Some o) = IsAnswer o.state.history q.start (seen_at o.state c) q.key o.reply

-- the search of a seated CPU is q now
searching_keeps : (s : State) (c : ℕ) (q : Search) → Holds s → c < s.seated → SearchHolds s.history (begin_at s c) (seen_at s c) q → Holds (record s { searches = set s.searches c (Some q) })
searching_keeps s c q on lt now =
    let cs : c < length s.searches = omega (arith, on.shape.searches, on.seats.within) in
    assumption (
      length-set s.searches c (Some q) ∙ on.shape.searches,
      seats_search s.settings.cpus s.seated s.begins s.searches s.hands c (Some q) lt on.seats,
      searches_on s.history s.begins s.seen s.searches c q cs now on.searches,
    )

pub seek_keeps : (s : State) (c : ℕ) (key : Key) → Holds s → Events.may_seek s c ≡ true → Holds (Events.after_seek s c key)
seek_keeps s c key on ok =
    let p = and_parts (Events.is_idle s c) (Events.is_inside s c) ok in
    let idle = idle_parts s c p.0 in
    let in_ : (b : ℕ) × (begin_at s c ≡ Some b) = some_from (begin_at s c) p.1 in
    searching_keeps s c (record { key = key; start = seen_at s c; place = AtHead }) on idle.0
    (record { begun = (in_.0, in_.1, on.sections.begun c in_.0 in_.1); started = omega arith; stands = tt })

-- a search goes on, at a place that holds
pub going_on_keeps : (s : State) (c : ℕ) (q : Search) (place : SearchPlace) → Holds s → search_at s c ≡ Some q
    → PlaceHolds s.history q.start (seen_at s c) q.key place → Holds (Events.with_search_at s c q place)
going_on_keeps s c q place on is p =
    let was : SearchHolds s.history (begin_at s c) (seen_at s c) q = on.searches c q is in
    searching_keeps s c (record { key = q.key; start = q.start; place = place }) on (seated_search s.settings.cpus s.seated s.begins s.searches s.hands c q on.seats is)
    (record { begun = was.begun; started = was.started; stands = p })

-- a search is over, without an entry or with one that the section may hold
over_keeps : (s : State) (c : ℕ) (q : Search) (found : Option Entry) → Holds s → search_at s c ≡ Some q → (c < length s.found → FoundHold s.history s.begins (set s.found c found))
    → Holds (Events.search_over s c found)
over_keeps s c q found on is last_found =
    let cs : c < length s.searches = within_some s.searches c q is in
    assumption (
      length-set s.searches c None ∙ on.shape.searches,
      length-set s.found c found ∙ on.shape.found,
      seats_search s.settings.cpus s.seated s.begins s.searches s.hands c None (seated_search s.settings.cpus s.seated s.begins s.searches s.hands c q on.seats is) on.seats,
      searches_over s.history s.begins s.seen s.searches c cs on.searches,
      last_found (omega (arith, on.shape.found, on.shape.searches)),
    )

pub search_missed_keeps : (s : State) (c : ℕ) (q : Search) → Holds s → search_at s c ≡ Some q → Holds (Events.search_over s c None)
search_missed_keeps s c q on is = over_keeps s c q None on is (λ lt. found_none s.history s.begins s.found c lt on.last_found)

pub search_found_keeps : (s : State) (c b : ℕ) (q : Search) (e : Entry) → Holds s → search_at s c ≡ Some q → begin_at s c ≡ Some b → MayHold s.history b e → Holds (Events.search_over s c (Some e))
search_found_keeps s c b q e on is in_ may = over_keeps s c q (Some e) on is (λ lt. found_some s.history s.begins s.found c b e lt in_ may on.last_found)

link_loaded_keeps : (s : State) (c n : ℕ) (q : Search) (x : ℕ) → Holds s → search_at s c ≡ Some q → LinkTells s q.start q.key n x → Keeps (Events.link_loaded s c q x)
link_loaded_keeps s c n q zero on is tells =
    let lt : c < s.settings.cpus = omega (arith, within_some s.searches c q is, on.shape.searches) in
    search_missed_keeps (Events.after_seeing s c) c q (see_keeps s c on lt) is
link_loaded_keeps s c n q (suc t) on is tells =
    let lt : c < s.settings.cpus = omega (arith, within_some s.searches c q is, on.shape.searches) in
    let cw : c < length s.seen = omega (arith, on.shape.seen) in
    going_on_keeps (Events.after_seeing s c) c q (AtNumber t) (see_keeps s c on lt) is
    (subst (λ (to : ℕ). PlaceHolds s.history q.start to q.key (AtNumber t)) (sym (get_or-set_same s.seen c (length s.history) 0 cw)) (tells.0, tells.1, tells.2))

load_link_keeps : (s : State) (c : ℕ) (q : Search) (place : SearchPlace) → Holds s → search_at s c ≡ Some q
    → PlaceHolds s.history q.start (seen_at s c) q.key place → Keeps (Events.load_link s c q place)
load_link_keeps s c q AtHead on is p =
    let walk : Walks s c q.start = search_walks s c q on is in
    link_loaded_keeps s c (suc (length s.history)) q s.head on is (link_tells s c q.start (suc (length s.history)) s.head q.key on walk (head_ahead s q.start q.key on walk.by_now))
load_link_keeps s c q (AtNext t) on is p =
    let walk : Walks s c q.start = search_walks s c q on is in
    link_loaded_keeps s c (rank_at s.history p.0.number) q (get_or s.next t 0) on is
    (link_tells s c q.start (rank_at s.history p.0.number) (get_or s.next t 0) q.key on walk
    (next_ahead s c q.start (seen_at s c) t q.key p.0 on walk (on.searches c q is).started (on.sections.prefix c) p.1 p.2))
load_link_keeps s c q _ on is p = tt

pub link_keeps : (s : State) (c : ℕ) (q : Search) → Holds s → search_at s c ≡ Some q → Keeps (Events.load_link s c q q.place)
link_keeps s c q on is = load_link_keeps s c q q.place on is (on.searches c q is).stands

compared_keeps : (s : State) (c : ℕ) (q : Search) (t n l : ℕ) (b : Bool) → Holds s → search_at s c ≡ Some q
    → (b ≡ true → PlaceHolds s.history q.start (seen_at s c) q.key (AtValue t n)) → (b ≡ false → PlaceHolds s.history q.start (seen_at s c) q.key (AtNext t))
    → Keeps (Events.outcome_of s c q (Some (loaded_of_name t n l b)))
compared_keeps s c q t n l b on is right wrong = grind (arith, going_on_keeps)

load_searched_keeps : (s : State) (c : ℕ) (q : Search) (place : SearchPlace) → Holds s → search_at s c ≡ Some q
    → PlaceHolds s.history q.start (seen_at s c) q.key place → Keeps (Events.load_searched s c q place)
load_searched_keeps s c q (AtNumber t) on is p =
    going_on_keeps s c q (AtKind t (row_at s.rows t).number) on is (goes_on s c q.start (seen_at s c) q.key (AtNumber t) on (search_walks s c q on is) p)
load_searched_keeps s c q (AtKind t n) on is p =
    going_on_keeps s c q (AtHigh t n (row_at s.rows t).kind) on is (goes_on s c q.start (seen_at s c) q.key (AtKind t n) on (search_walks s c q on is) p)
load_searched_keeps s c q (AtHigh t n k) on is p =
    going_on_keeps s c q (AtLow t n k (row_at s.rows t).high) on is (goes_on s c q.start (seen_at s c) q.key (AtHigh t n k) on (search_walks s c q on is) p)
load_searched_keeps s c q (AtLow t n k x) on is p =
    let next = goes_on s c q.start (seen_at s c) q.key (AtLow t n k x) on (search_walks s c q on is) p in
    compared_keeps s c q t n (row_at s.rows t).low (are_words_of q.key k x (row_at s.rows t).low) on is next.0 next.1
load_searched_keeps s c q (AtValue t n) on is p =
    let walk : Walks s c q.start = search_walks s c q on is in
    let e : Entry = entry_with q.key t n (row_at s.rows t).value in
    let same : p.0 ≡ e = found_is s c q.start (seen_at s c) t n q p.0 on walk p.1 p.2 p.3 in
    let stands : StandsOn s.history q.start (seen_at s c) t e = subst (StandsOn s.history q.start (seen_at s c) t) same p.1 in
    search_found_keeps s c walk.begin q e on is walk.open_since (record { attached = stands.attached; unended = λ p x. omega (arith, stands.unended p x, walk.since) })
load_searched_keeps s c q _ on is p = tt

pub record_keeps : (s : State) (c : ℕ) (q : Search) → Holds s → search_at s c ≡ Some q → Keeps (Events.load_searched s c q q.place)
record_keeps s c q on is = load_searched_keeps s c q q.place on is (on.searches c q is).stands

-- The reply of a load that ends a search is lawful.
pub step_answers : (c : ℕ) (q : Search) (n : ℕ) (o : Option Outcome) → Steps c q.start q n o → AnswersLookup c q o
step_answers c q n o steps = grind arith

pub link_answers : (s : State) (c : ℕ) (q : Search) → Holds s → search_at s c ≡ Some q → AnswersLookup c q (Events.load_link s c q q.place)
link_answers s c q on is = step_answers c q (weight s q.place) (Events.load_link s c q q.place) (load_link_steps s c q.start q q.place on (search_walks s c q on is) (inr (on.searches c q is).started) is (on.searches c q is).stands)

pub record_answers : (s : State) (c : ℕ) (q : Search) → Holds s → search_at s c ≡ Some q → AnswersLookup c q (Events.load_searched s c q q.place)
record_answers s c q on is =
    step_answers c q (weight s q.place) (Events.load_searched s c q q.place)
    (load_searched_steps s c q.start q q.place on (search_walks s c q on is) (on.searches c q is).started is (on.searches c q is).stands)

-- What the loads of a search do to the state, by what they make of the words.

-- a load keeps the invariant, by what it made of the word
pub loaded_keeps : (s : State) (c : ℕ) (q : Search) (x : Option Loaded) → Holds s → search_at s c ≡ Some q → loaded_at q q.place (row_of_place s.rows q.place) ≡ x → Keeps (Events.outcome_of s c q x)
loaded_keeps s c q x on is load = subst (λ (y : Option Loaded). Keeps (Events.outcome_of s c q y)) load (record_keeps s c q on is)

pub head_keeps : (s : State) (c : ℕ) (q : Search) → Holds s → search_at s c ≡ Some q → q.place ≡ AtHead → Keeps (Events.link_loaded s c q s.head)
head_keeps s c q on is at = subst (λ (p : SearchPlace). Keeps (Events.load_link s c q p)) at (link_keeps s c q on is)

pub next_keeps : (s : State) (c t : ℕ) (q : Search) → Holds s → search_at s c ≡ Some q → q.place ≡ AtNext t → Keeps (Events.link_loaded s c q (get_or s.next t 0))
next_keeps s c t q on is at = subst (λ (p : SearchPlace). Keeps (Events.load_link s c q p)) at (link_keeps s c q on is)

tells_bound : (s : State) (from n x : ℕ) (key : Key) → LinkTells s from key n x → x ≤ length s.slots
tells_bound s from n x key tells = grind arith

-- a link that a search follows is in range
pub head_bound : (s : State) (c : ℕ) (q : Search) → Holds s → search_at s c ≡ Some q → s.head ≤ s.settings.slots
head_bound s c q on is =
    let walk : Walks s c q.start = search_walks s c q on is in
    omega (
      arith,
      on.shape.slots,
      tells_bound s q.start (suc (length s.history)) s.head q.key (link_tells s c q.start (suc (length s.history)) s.head q.key on walk (head_ahead s q.start q.key on walk.by_now)),
    )

pub next_bound : (s : State) (c t : ℕ) (q : Search) → Holds s → search_at s c ≡ Some q → q.place ≡ AtNext t → (t < s.settings.slots) × (get_or s.next t 0 ≤ s.settings.slots)
next_bound s c t q on is at =
    let walk : Walks s c q.start = search_walks s c q on is in
    let p = subst (PlaceHolds s.history q.start (get_or s.seen c 0) q.key) at (on.searches c q is).stands in
    let ahead = at_next_ahead s c q.start (get_or s.seen c 0) t q.key on walk (on.searches c q is).started (on.sections.prefix c) p in (
      omega (arith, ahead.0, on.shape.links),
      omega (arith, on.shape.slots, tells_bound s q.start (rank_at s.history p.0.number) (get_or s.next t 0) q.key (link_tells s c q.start (rank_at s.history p.0.number) (get_or s.next t 0) q.key on walk ahead.1)),
    )
