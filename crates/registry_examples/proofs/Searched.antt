-- The packets that were counted are searches that the CPUs' logs answered.
use Rattle.std.proofs.Common.{◌≡◌, ◌∙◌, ⊎_elim, ℕ, zero, suc, ◌+◌, ◌<◌, ◌≤◌, List, [], ◌∷◌, ◌++◌, length, length-append, Option, Some, None, Result, Ok, Err, slice_index, slice_index_or, slice_set, sum_by, take, IfErr, IfOk, refl, sym, ap, subst, arith}
use Rattle.std.proofs.lemmas.Bool.{cases_eq}
use Rattle.std.proofs.lemmas.List.Sums.{sum_by-append, sum_by-cons}
use Rattle.std.specs.Fn.{FnReturns}
use denote.Param.Members.{Shared}
use Rattle.std.specs.Fork.{GivesJobs}
use Rattle.name_registry.specs.Types.{Entry, Key, LogItem, Record, Refusal}
use Rattle.registry_values.specs.Common.{Answers}
use Rattle.protocol.specs.Common.{answer_of}
use Rattle.cpu_words.specs.Types.{Seek, Done}
use Rattle.cpu_words.specs.Common.{did}
use Rattle.cpu_words.proofs.logs.Runs.{same_rest}
use Rattle.passive_list.specs.Common.{OnCpu, AnswersEnter, HasEnteredOn, HasExitedOn, HasFound}
use Rattle.passive_list.specs.Lookups.{replied}
use Rattle.passive_ref.specs.{IsAcquired, IsRead, HasOneLess, GivesBack, OnPsref, has_loaded}
use Rattle.registry_examples.specs.{answered, answered_by, answered_in, answers_in, counted_in, total_of}
use Rattle.registry_examples.specs.declared.packet_loop.Tally.{Tally}

abbrev answer_of_item : LogItem → ℕ
answer_of_item d = answered (answer_of d.reply)

answers_append : (a b : List LogItem) → answers_in (a ++ b) ≡ answers_in a + answers_in b
answers_append a b = sum_by-append answer_of_item a b

-- a log that goes on has answered as many, or more
grown : (a b since : List LogItem) → b ≡ a ++ since → answers_in a ≤ answers_in b
grown a b since are = let all = ap answers_in are ∙ answers_append a since in omega (arith, all)

same_log : (x y : OnCpu) → y ≡ x → answers_in x.log ≤ answers_in y.log
same_log x y is = let all = ap (λ (o : OnCpu). answers_in o.log) is in omega (arith, all)

-- What a carrier does

pub enter_answers : (x y : OnCpu) (r : Result (Unit {0}) Refusal) → AnswersEnter x y r → answers_in x.log ≤ answers_in y.log
enter_answers x y (Ok u) is = ⊎_elim (λ out. grown x.log y.log _ (is.answer.1.event out)) (λ inside. let all = ap answers_in (is.answer.1.none inside) in omega (arith, all)) (cases_eq x.depth 0)
enter_answers x y (Err f) is = same_log x y is.refused

pub exit_answers : (x y : OnCpu) → HasExitedOn x y → answers_in x.log ≤ answers_in y.log
exit_answers x y is = ⊎_elim (λ last. grown x.log y.log _ (is.event last)) (λ inner. let all = ap answers_in (is.none inner) in omega (arith, all)) (cases_eq x.depth 1)

pub acquire_answers : (x y : OnCpu) (why : Option Refusal) (r : Result OnPsref Refusal) → Answers why (IsAcquired x y) r → IfErr r (λ _. y ≡ x) → answers_in x.log ≤ answers_in y.log
acquire_answers x y why (Ok p) is refused = grown x.log y.log _ (ap (λ (o : OnCpu). o.log) is.1.2.after)
acquire_answers x y why (Err f) is refused = same_log x y refused

pub read_answers : (x y : OnCpu) (why : Option Refusal) (n : ℕ) (r : Result Record Refusal) → Answers why (IsRead n x y) r → IfErr r (λ _. y ≡ x) → answers_in x.log ≤ answers_in y.log
read_answers x y why n (Ok p) is refused =
    let h : ℕ → List LogItem = has_loaded x.view.id is.1.0 in
    let all = ap (λ (o : OnCpu). answers_in o.log) is.1.1.1 in
    omega (arith, all, answers_append x.log (h 1), answers_append (x.log ++ h 1) (h 2), answers_append (x.log ++ h 1 ++ h 2) (h 3), answers_append (x.log ++ h 1 ++ h 2 ++ h 3) (h 4))
read_answers x y why n (Err f) is refused = same_log x y refused

pub release_answers : (x y : OnCpu) (why : Option Refusal) (p : OnPsref) (r : Result (Unit {0}) (Refusal × OnPsref)) → GivesBack why p (λ _. HasOneLess p.number x y) r → IfErr r (λ _. y ≡ x)
    → answers_in x.log ≤ answers_in y.log
release_answers x y why p (Ok u) is refused = grown x.log y.log _ (ap (λ (o : OnCpu). o.log) is.1)
release_answers x y why p (Err f) is refused = same_log x y refused

-- A search

-- what went on since has the last item
last_since : (a s b : List LogItem) (d : LogItem) → 0 < length s → a ++ s ≡ b ++ d ∷ [] → answer_of_item d ≤ answers_in s
last_since [] s b d some are =
    let all = ap answers_in are ∙ answers_append b (d ∷ []) in
    omega (arith, all, sum_by-cons answer_of_item d [])
last_since (x ∷ a) s [] d some are =
    let size = sym (length-append a s) ∙ ap (λ (l : List LogItem). length l) (same_rest x d (a ++ s) [] are) in
    absurd (omega (arith, size, some))
last_since (x ∷ a) s (y ∷ b) d some are = last_since a s b d some (same_rest x y (a ++ s) (b ++ d ∷ []) are)

replies_answer : (c : ℕ) (answer : Option Entry) → (d : LogItem) × (replied c answer ≡ d ∷ []) × (answer_of_item d ≡ 1)
replies_answer c None = (_, refl, refl)
replies_answer c (Some e) = (_, refl, refl)

pub found_answers : (key : Key) (x y : OnCpu) (answer : Option Entry) → HasFound key x y answer → answers_in x.log + 1 ≤ answers_in y.log
found_answers key x y answer is =
    let loads = is.log.loads in
    let ends = is.log.ends in
    let last = replies_answer x.view.id answer in
    let are = sym loads.are ∙ (ends.1 ∙ ap (λ (l : List LogItem). ends.0 ++ l) last.1) in
    let size = loads.count in
    let begun : List LogItem = x.log ++ did (Seek x.view.id key.kind key.name) Done in
    let one = last_since begun loads.since ends.0 last.0 (omega (arith, size)) are in
    let all = ap answers_in loads.are ∙ answers_append begun loads.since in
    omega (arith, all, one, last.2, grown x.log begun (did (Seek x.view.id key.kind key.name) Done) refl)

-- Tallies

-- one more in a place
pub total_set : (l : List ℕ) (i v : ℕ) → v ≤ slice_index l i + 1 → sum_by (λ (n : ℕ). n) (slice_set l i v) ≤ sum_by (λ (n : ℕ). n) l + 1
total_set [] i v few = omega arith
total_set (x ∷ xs) zero v few = omega (arith, few, sum_by-cons (λ (n : ℕ). n) x xs, sum_by-cons (λ (n : ℕ). n) v xs)
total_set (x ∷ xs) (suc i) v few = omega (arith, total_set xs i v few, sum_by-cons (λ (n : ℕ). n) x xs, sum_by-cons (λ (n : ℕ). n) x (slice_set xs i v))

-- the first places
pub total_next : (l : List ℕ) (i : ℕ) → i < length l → sum_by (λ (n : ℕ). n) (take (i + 1) l) ≡ sum_by (λ (n : ℕ). n) (take i l) + slice_index l i
total_next [] i lt = absurd (omega (arith, lt))
total_next (x ∷ xs) zero lt = omega (arith, sum_by-cons (λ (n : ℕ). n) x [])
total_next (x ∷ xs) (suc i) lt =
    let step : suc i + 1 ≡ suc (i + 1) = omega arith in
    let more = ap (λ (k : ℕ). sum_by (λ (n : ℕ). n) (take k (x ∷ xs))) step ∙ sum_by-cons (λ (n : ℕ). n) x (take (i + 1) xs) in
    let few : sum_by (λ (n : ℕ). n) (take (suc i) (x ∷ xs)) ≡ x + sum_by (λ (n : ℕ). n) (take i xs) = sum_by-cons (λ (n : ℕ). n) x (take i xs) in
    let here : slice_index (x ∷ xs) (suc i) ≡ slice_index xs i = refl in
    omega (arith, total_next xs i (omega (arith, lt)), more, few, here)

pub total_first : (l : List ℕ) (i : ℕ) → sum_by (λ (n : ℕ). n) (take i l) ≤ sum_by (λ (n : ℕ). n) l
total_first [] zero = omega arith
total_first [] (suc i) = omega arith
total_first (x ∷ xs) zero = omega arith
total_first (x ∷ xs) (suc i) = omega (arith, total_first xs i, sum_by-cons (λ (n : ℕ). n) x xs, sum_by-cons (λ (n : ℕ). n) x (take i xs))

-- The CPUs that come back

pub answered_append : (xs : List OnCpu) (x : OnCpu) → answered_by (xs ++ x ∷ []) ≡ answered_by xs + answers_in x.log
answered_append [] x = omega arith
answered_append (y ∷ xs) x = let rest = answered_append xs x in omega (arith, rest)

pub back_append : {F : Type 0} (rs : List (Result (Tally × OnCpu) F)) (p : Tally × OnCpu) → (answered_in (rs ++ Ok p ∷ []) ≡ answered_in rs + answers_in p.1.log) × (counted_in (rs ++ Ok p ∷ []) ≡ counted_in rs + total_of p.0)
back_append {F} [] p = (omega arith, omega arith)
back_append {F} (Ok q ∷ rs) p = let rest = back_append rs p in (let all = rest.0 in omega (arith, all), let all = rest.1 in omega (arith, all))
back_append {F} (Err f ∷ rs) p = back_append rs p

-- a carrier comes back with no more packets than searches
abbrev pub ComesBack : {F : Type 0} → Result (Tally × OnCpu) F → Type 0
ComesBack r = IfOk r (λ p. total_of p.0 ≤ answers_in p.1.log)

pub all_back : {F : Type 0} (rs : List (Result (Tally × OnCpu) F)) → ((i : ℕ) (r : Result (Tally × OnCpu) F) → i < length rs → ComesBack (slice_index_or rs i r)) → counted_in rs ≤ answered_in rs
all_back {F} [] each = omega arith
all_back {F} (Ok p ∷ rs) each =
    let one : total_of p.0 ≤ answers_in p.1.log = each 0 (Ok p) (omega arith) in
    let rest = all_back rs (λ i r lt. each (suc i) r (omega (arith, lt))) in
    omega (arith, one, rest)
all_back {F} (Err f ∷ rs) each = all_back rs (λ i r lt. each (suc i) r (omega (arith, lt)))

pub all_given : {C F V W : Type 0} (g : Shared C (OnCpu × Unit {0}) (Result (Tally × OnCpu) F)) (f : C) (xs : List OnCpu) (items : V → List (Result (Tally × OnCpu) F)) (all : Result V W)
    → IfOk all (λ v. GivesJobs g f xs (items v)) → IfOk all (λ v. length (items v) ≡ length xs)
    → ((x : OnCpu) (r : Result (Tally × OnCpu) F) → FnReturns g f (x, tt) r → ComesBack r) → IfOk all (λ v. counted_in (items v) ≤ answered_in (items v))
all_given {C} {F} {V} {W} g f xs items (Ok v) gives same says = all_back (items v) (λ i r lt.
    let its = (gives i r (omega (arith, lt, same))).1 in says its.job (slice_index_or (items v) i r) its.call)
all_given {C} {F} {V} {W} g f xs items (Err e) gives same says = tt
