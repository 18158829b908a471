-- Who may act, sections by command, and the walk of a lookup that nothing disturbs.
use Rattle.std.proofs.Common.{◌≡◌, ℕ, ◌<◌, ◌≤◌, Option, Some, None, Bool, true, false, not, ◌&&◌, ◌||◌, nat_lt, refl, sym, ap, ◌∙◌, ◌%◌, set, get_or, length-set, zero, suc, ◌⊎◌, inl, inr, List, length, subst, arith, get_or-set_same}
use Rattle.std.specs.Prelude.{is_none}
use Rattle.std.proofs.lemmas.Bool.{and_parts, cases_lt, lt-ltb, le-ltb, and_from}
use Rattle.std.proofs.lemmas.Option.{none-some}
use Rattle.std.proofs.lemmas.List.{set-set, set-get_or}
use Rattle.passive_core.specs.Types.{Event, Reply, Hand, Empty, MOST_DEPTH, Change, Entry, Done, Word, Found, Missed, Ref, Collected, Key, SearchPlace, AtHead, AtNext, AtNumber, AtKind, AtHigh, AtLow, AtValue, Search}
use Rattle.registry_values.specs.Common.{are_words_of}
use Rattle.protocol.specs.Common.{Outcome, guard, is_idle, some_outcome, Holds, is_empty, State, search_at, hand_at, trying_at, trying_of, is_inside, SectionsShow, depth_at, begin_at, IsLookup, step, state_after, seen_at, row_at, entry_with, loaded_of_name, may_seek, after_seeing, after_seek, with_search_at, search_over, link_loaded, load_link, load_searched, outcome_of}
use Rattle.protocol.proofs.keeps.SectionKeeps.{none_from, some_from}
use Rattle.protocol.proofs.keeps.Keeping.{step_holds}
use Rattle.protocol.proofs.Either.{either}
use Rattle.protocol.proofs.Cells.{place_put}
use Rattle.protocol.proofs.keeps.Searching.{Finds, FindSteps, IsFindStep, find_link, find_record, placed, searching_within, seen_now, weight}
use Rattle.passive_core.specs.Common.{all_seated, may_act, with_depth, after_find, load_at, next_load}

-- what an event leaves of a state with the invariant has it
pub step_left : {i s n : State} (event : Event) → i ≡ s → Holds i → state_after s (step s event) ≡ n → Holds n
step_left {i} {s} {n} event view on is = subst Holds is (left_by (step s event) refl)
  where
    left_by : (o : Option Outcome) → step s event ≡ o → Holds (state_after s o)
    left_by None made = subst Holds view on
    left_by (Some o) made = step_holds s o.state event o.reply (subst Holds view on) made

-- Seating all CPUs: who may act before is idle then, and stays so. An idle CPU is trying nothing.

-- an idle CPU has no search
pub idle_unsearching : (s : State) (c : ℕ) → is_idle s c ≡ true → search_at s c ≡ None
idle_unsearching s c idle =
    let p = and_parts (nat_lt c s.seated) (is_none (search_at s c) && is_empty (hand_at s c)) idle in
    none_from (search_at s c) (and_parts (is_none (search_at s c)) (is_empty (hand_at s c)) p.1).0

acting_free : (s : State) (c : ℕ) (b : Bool) → nat_lt c s.seated ≡ b → Holds s → (not b || (b && (is_none (search_at s c) && is_empty (hand_at s c)))) ≡ true
    → (is_none (search_at s c) && is_empty (hand_at s c)) ≡ true
acting_free s c true is on may = may
acting_free s c false is on may =
    let le : s.seated ≤ c = either (cases_lt c s.seated) (λ lt. absurd (let q : ◌≡◌ {A = Bool} true false = sym (lt-ltb c s.seated lt) ∙ is in cc)) (λ ge. ge) in
    rw (on.seats.unsearching c le, on.seats.empty c le) refl

pub acting_idle : (s : State) (c : ℕ) → Holds s → c < s.settings.cpus → may_act s c ≡ true → is_idle (all_seated s) c ≡ true
acting_idle s c on lt may =
    let free = acting_free s c (nat_lt c s.seated) refl on may in
    rw (lt-ltb c s.settings.cpus lt) free

-- what an idle CPU is trying
empty_untried : (t : ℕ) (h : Hand) → is_empty h ≡ true → trying_of t h ≡ 0
empty_untried t Empty is = refl
empty_untried t _ is = absurd (let q : ◌≡◌ {A = Bool} false true = is in cc)

pub idle_untried : (s : State) (c t : ℕ) → is_idle s c ≡ true → trying_at s.hands c t ≡ 0
idle_untried s c t idle =
    let p = and_parts (nat_lt c s.seated) (is_none (search_at s c) && is_empty (hand_at s c)) idle in
    empty_untried t (hand_at s c) (and_parts (is_none (search_at s c)) (is_empty (hand_at s c)) p.1).1

pub acting_untried : (s : State) (c t : ℕ) → Holds s → may_act s c ≡ true → trying_at s.hands c t ≡ 0
acting_untried s c t on may =
    empty_untried t (hand_at s c) (and_parts (is_none (search_at s c)) (is_empty (hand_at s c)) (acting_free s c (nat_lt c s.seated) refl on may)).1

-- seating the CPUs keeps nobody from acting
pub acting_on : (s : State) (c : ℕ) → Holds s → may_act s c ≡ true → may_act (all_seated s) c ≡ true
acting_on s c on may = either (cases_lt c s.settings.cpus)
    (λ lt. ap (λ (b : Bool). not (nat_lt c s.settings.cpus) || b) (acting_idle s c on lt may) ∙ or_true (not (nat_lt c s.settings.cpus)))
    (λ ge. ap (λ (b : Bool). not b || is_idle (all_seated s) c) (le-ltb c s.settings.cpus ge))
  where
    or_true : (b : Bool) → (b || true) ≡ true
    or_true true = refl
    or_true false = refl

-- what an allowed event leaves
pub made_is : (b : Bool) (s t : State) (q r : Reply) → b ≡ true → guard b (some_outcome s q) ≡ Some (record { state = t; reply = r }) → t ≡ s
made_is true s t q r test made = sym (outcome_state s t q r made)
  where
    state_or : State → Option Outcome → State
    state_or s None = s
    state_or s (Some o) = o.state

    outcome_state : (s t : State) (q r : Reply) → some_outcome s q ≡ Some (record { state = t; reply = r }) → s ≡ t
    outcome_state s t q r made = ap (state_or s) made
made_is false s t q r test made = absurd (let no : ◌≡◌ {A = Bool} false true = test in cc)

-- Sections by command: who may act, and which depths may stand.

-- no search is under way, and the hand is empty
abbrev pub is_free : State → ℕ → Bool
is_free s c = is_none (search_at s c) && is_empty (hand_at s c)

free_if : (b f : Bool) → (not b || (b && f)) ≡ true → b ≡ true → f ≡ true
free_if true true may is = refl
free_if true false may is = may
free_if false f may is = absurd (let q : ◌≡◌ {A = Bool} false true = is in cc)

-- a CPU that may act is free: where it isn't seated it has made no step
pub acts_free : (s : State) (c : ℕ) → Holds s → may_act s c ≡ true → is_free s c ≡ true
acts_free s c on may = either (cases_lt c s.seated)
    (λ lt. free_if (nat_lt c s.seated) (is_free s c) may (lt-ltb c s.seated lt))
    (λ ge. and_from (is_none (search_at s c)) (is_empty (hand_at s c)) (ap is_none (on.seats.unsearching c ge)) (ap is_empty (on.seats.empty c ge)))

-- an open section may be nested from 1 to `MOST_DEPTH` deep
pub depth_keeps : (s : State) (c depth : ℕ) → Holds s → c < s.settings.cpus → is_inside s c ≡ true → 1 ≤ depth → depth ≤ MOST_DEPTH → Holds (with_depth s c depth)
depth_keeps s c depth on lt inside low high =
    let begun = some_from (begin_at s c) inside in
    let sections : SectionsShow s.settings s.history s.section s.begins (set s.depths c depth) s.seen = record {
      outside = λ j. place_put 0 s.depths c depth (λ i d. get_or s.begins i None ≡ None → (get_or s.section i 0 % 2 ≡ 0) × (d ≡ 0)) j (λ is. absurd (none-some begun.0 (sym is ∙ begun.1)))
          (on.sections.outside j);
      inside = λ j b. place_put 0 s.depths c depth (λ i d. get_or s.begins i None ≡ Some b → (get_or s.section i 0 % 2 ≡ 1) × (1 ≤ d)) j (λ is. ((on.sections.inside c b is).0, low))
          (on.sections.inside j b);
      deep = λ j. place_put 0 s.depths c depth (λ _ d. d ≤ MOST_DEPTH) j high (on.sections.deep j);
      begun = on.sections.begun;
      prefix = on.sections.prefix;
      limited = on.sections.limited;
    } in
    assumption (length-set s.depths c depth ∙ on.shape.depths)

-- a section that is open has a depth, up to the largest
pub depth_range : (s : State) (c : ℕ) → Holds s → is_inside s c ≡ true → (1 ≤ depth_at s c) × (depth_at s c ≤ MOST_DEPTH)
depth_range s c on inside =
    let begun = some_from (begin_at s c) inside in
    ((on.sections.inside c begun.0 begun.1).1, on.sections.deep c)

-- The walk of a lookup that nothing disturbs: what each load leaves, and what the last one answers.

-- the state s of a walk of c that began in b
pub record Walking (b s : State) (c : ℕ) : Type 0 where
  pub same : s ≡ record b { seen = s.seen; searches = s.searches }
  pub seen : set s.seen c (length b.history) ≡ set b.seen c (length b.history)
  pub searches : set s.searches c None ≡ set b.searches c None

history_same : (b s : State) (c : ℕ) → Walking b s c → s.history ≡ b.history
history_same b s c walk = ap (λ (t : State). t.history) walk.same

going_walks : (b s : State) (c : ℕ) (q : Search) (p : SearchPlace) → Walking b s c → Walking b (with_search_at s c q p) c
going_walks b s c q p walk = assumption (ap (λ (t : State). record t { searches = set s.searches c (Some (placed q p)) }) walk.same, set-set s.searches c (Some (placed q p)) None ∙ walk.searches)

seeing_walks : (b s : State) (c : ℕ) → Walking b s c → Walking b (after_seeing s c) c
seeing_walks b s c walk = assumption (ap (λ (t : State). record t { seen = set s.seen c (length s.history) }) walk.same, set-set s.seen c (length s.history) (length b.history) ∙ walk.seen)

-- a walk that has seen the whole history is over
over_is : (b s : State) (c : ℕ) (answer : Option Entry) → Walking b s c → search_at b c ≡ None → seen_at s c ≡ length b.history → search_over s c answer ≡ after_find b c answer
over_is b s c answer walk none all =
    let seen : s.seen ≡ set b.seen c (length b.history) = sym (set-get_or s.seen c 0) ∙ (ap (set s.seen c) all ∙ walk.seen) in
    let searches : set s.searches c None ≡ b.searches = walk.searches ∙ (ap (set b.searches c) (sym none) ∙ set-get_or b.searches c None) in
    ap (λ (t : State). record t { searches = set s.searches c None; found = set t.found c answer }) walk.same
    ∙ (λ i. record b { seen = seen i; searches = searches i; found = set b.found c answer })

-- what a load makes of the state
abbrev IsMoved : State → ℕ → State → Reply → Type 0
IsMoved b c s Done = ⊥
IsMoved b c s (Word w) = Walking b s c
IsMoved b c s (Found e) = s ≡ after_find b c (Some e)
IsMoved b c s Missed = s ≡ after_find b c None
IsMoved b c s (Ref id) = ⊥
IsMoved b c s Collected = ⊥

abbrev Moves : State → ℕ → Option Outcome → Type 0
Moves b c None = Unit {0}
Moves b c (Some o) = IsMoved b c o.state o.reply

link_moves : (b s : State) (c : ℕ) (q : Search) (x : ℕ) → Holds s → c < s.settings.cpus → Walking b s c → search_at b c ≡ None → Moves b c (link_loaded s c q x)
link_moves b s c q zero on lt walk none = over_is b (after_seeing s c) c None (seeing_walks b s c walk) none (seen_now s c on lt ∙ ap length (history_same b s c walk))
link_moves b s c q (suc t) on lt walk none = going_walks b (after_seeing s c) c q (AtNumber t) (seeing_walks b s c walk)

compared_moves : (b s : State) (c : ℕ) (q : Search) (t n l : ℕ) (test : Bool) → Walking b s c → Moves b c (outcome_of s c q (Some (loaded_of_name t n l test)))
compared_moves b s c q t n l true walk = going_walks b s c q (AtValue t n) walk
compared_moves b s c q t n l false walk = going_walks b s c q (AtNext t) walk

-- only the first load is made before the history is seen
past_head : (t n : ℕ) (A : Type 0) → (AtValue t n ≡ AtHead) ⊎ A → A
past_head t n A (inl at) = absurd (let q : AtValue t n ≡ AtHead = at in cc)
past_head t n A (inr a) = a

load_moves : (b s : State) (c : ℕ) (q : Search) (p : SearchPlace) → Holds s → c < s.settings.cpus → Walking b s c → search_at b c ≡ None → (p ≡ AtHead) ⊎ (seen_at s c ≡ length b.history)
    → Moves b c (load_at s c q p)
load_moves b s c q AtHead on lt walk none seen = link_moves b s c q s.head on lt walk none
load_moves b s c q (AtNext t) on lt walk none seen = link_moves b s c q (get_or s.next t 0) on lt walk none
load_moves b s c q (AtNumber t) on lt walk none seen = going_walks b s c q (AtKind t (row_at s.rows t).number) walk
load_moves b s c q (AtKind t n) on lt walk none seen = going_walks b s c q (AtHigh t n (row_at s.rows t).kind) walk
load_moves b s c q (AtHigh t n k) on lt walk none seen = going_walks b s c q (AtLow t n k (row_at s.rows t).high) walk
load_moves b s c q (AtLow t n k h) on lt walk none seen = compared_moves b s c q t n (row_at s.rows t).low (are_words_of q.key k h (row_at s.rows t).low) walk
load_moves b s c q (AtValue t n) on lt walk none seen = over_is b s c (Some (entry_with q.key t n (row_at s.rows t).value)) walk none (past_head t n (seen_at s c ≡ length b.history) seen)

load_finds : (s : State) (c : ℕ) (q : Search) (p : SearchPlace) → q.place ≡ p → Holds s → Finds s c q → FindSteps c q (weight s p) (load_at s c q p)
load_finds s c q AtHead is on finds = subst (λ (p : SearchPlace). FindSteps c q (weight s p) (load_link s c q p)) is (find_link s c q on finds)
load_finds s c q (AtNext t) is on finds = subst (λ (p : SearchPlace). FindSteps c q (weight s p) (load_link s c q p)) is (find_link s c q on finds)
load_finds s c q _ is on finds = subst (λ (p : SearchPlace). FindSteps c q (weight s p) (load_searched s c q p)) is (find_record s c q on finds)

-- what is left of the search that is under way
abbrev pub left : State → Option Search → ℕ
left s None = 0
left s (Some q) = weight s q.place

-- c walks on from b, and its search for the key is at some place
pub record Walks (b s : State) (c : ℕ) (key : Key) : Type 0 where
  pub walking : Walking b s c
  pub start : ℕ
  pub place : SearchPlace
  pub finds : Finds s c (record { key = key; start = start; place = place })

-- what a load leaves of a walk that had n left
abbrev pub IsTurn : State → ℕ → Key → ℕ → State → Reply → Type 0
IsTurn b c key n s Done = ⊥
IsTurn b c key n s (Word w) = Walks b s c key × (left s (search_at s c) < n)
IsTurn b c key n s (Found e) = IsLookup b.history (length b.history) key (Some e) × (s ≡ after_find b c (Some e))
IsTurn b c key n s Missed = IsLookup b.history (length b.history) key None × (s ≡ after_find b c None)
IsTurn b c key n s (Ref id) = ⊥
IsTurn b c key n s Collected = ⊥

turn_of : (b : State) (c : ℕ) (q : Search) (n : ℕ) (s : State) (r : Reply) → IsMoved b c s r → IsFindStep s c q n r → IsTurn b c q.key n s r
turn_of b c q n s (Word w) moved step =
    let there : left s (search_at s c) ≡ weight s step.0 = ap (left s) step.1.searching in
    (record { walking = moved; start = q.start; place = step.0; finds = step.1 }, omega (arith, there, step.2))
turn_of b c q n s (Found e) moved step =
    (subst (λ (h : List Change). IsLookup h (length h) q.key (Some e)) (ap (λ (t : State). t.history) moved) step, moved)
turn_of b c q n s Missed moved step =
    (subst (λ (h : List Change). IsLookup h (length h) q.key None) (ap (λ (t : State). t.history) moved) step, moved)
turn_of b c q n s _ moved step = moved

-- One load of the walk.
pub load_turns : (b s t : State) (c : ℕ) (key : Key) (r : Reply) → Holds s → search_at b c ≡ None → Walks b s c key → next_load s c (search_at s c) ≡ Some (record { state = t; reply = r })
    → IsTurn b c key (left s (search_at s c)) t r
load_turns b s t c key r on none walks made =
    let q : Search = record { key = key; start = walks.start; place = walks.place } in
    let is : search_at s c ≡ Some q = walks.finds.searching in
    let load : load_at s c q walks.place ≡ Some (record { state = t; reply = r }) = ap (next_load s c) (sym is) ∙ made in
    let lt : c < s.settings.cpus = searching_within s c q on is in
    let seen : (walks.place ≡ AtHead) ⊎ (seen_at s c ≡ length b.history) = either walks.finds.seen
    (λ head. inl head)
    (λ all. inr (all ∙ ap length (history_same b s c walks.walking))) in
    let moved : IsMoved b c t r = subst (Moves b c) load (load_moves b s c q walks.place on lt walks.walking none seen) in
    let step : IsFindStep t c q (weight s walks.place) r = subst (FindSteps c q (weight s walks.place)) load (load_finds s c q walks.place refl on walks.finds) in
    subst (λ (n : ℕ). IsTurn b c key n t r) (ap (left s) (sym is)) (turn_of b c q (weight s walks.place) t r moved step)

-- The walk begins.
pub walk_starts : (b : State) (c : ℕ) (key : Key) → c < length b.searches → Walks b (after_seek b c key) c key
walk_starts b c key lt = record {
  walking = record { same = refl; seen = refl; searches = set-set b.searches c (Some (record { key = key; start = seen_at b c; place = AtHead })) None };
  start = seen_at b c;
  place = AtHead;
  finds = record {
    searching = get_or-set_same b.searches c (Some (record { key = key; start = seen_at b c; place = AtHead })) None lt;
    stands = tt;
    seen = inl refl;
  };
}

-- a walk that isn't over goes on, with less left
pub walk_goes_on : (b : State) (c : ℕ) (key : Key) (n : ℕ) (s : State) (r : Reply) → IsTurn b c key n s r → ((e : Entry) → r ≡ Found e → ⊥) → (r ≡ Missed → ⊥)
    → Walks b s c key × (left s (search_at s c) < n)
walk_goes_on b c key n s (Word w) turn not_found not_missed = turn
walk_goes_on b c key n s (Found e) turn not_found not_missed = absurd (not_found e refl)
walk_goes_on b c key n s Missed turn not_found not_missed = absurd (not_missed refl)
walk_goes_on b c key n s _ turn not_found not_missed = absurd turn

-- The first load is made after a Seek of an idle CPU inside a section.
pub seek_starts : (b t : State) (c : ℕ) (key : Key) (r : Reply) → c < length b.searches → may_seek b c ≡ true
    → guard (may_seek b c) (some_outcome (after_seek b c key) Done) ≡ Some (record { state = t; reply = r }) → Walks b t c key
seek_starts b t c key r lt may made = subst (λ (u : State). Walks b u c key) (sym (made_is (may_seek b c) (after_seek b c key) t Done r may made)) (walk_starts b c key lt)
