-- What the keeper's log says of totals: of each occupied slot the words that were collected, less the references given up.
use Rattle.cpu_words.specs.Types.{Reply, Entry, Mark, Settings, MOST_CPUS, Slot, Vacant, Live, Retired, Event, Publish, Republish, Collect, TotalAdd, JoinKeeper, TotalSub, KeptSub, Due, Rest, Snapshots, Adding, Subtracting, Done, Word}
use Rattle.std.proofs.Common.{◌≡◌, inl, inr, ⊎_elim, ℕ, zero, suc, ◌+◌, ◌-◌, ◌*◌, ◌<◌, ◌≤◌, ◌==◌, ◌&&◌, nat_lt, not, Bool, true, false, if◌then◌else◌, List, [], ◌∷◌, ◌++◌, length, get_or, set, sum_by, Option, Some, None, eq-eqb, ne_eqb, refl, sym, ap, ◌∙◌, subst, append_assoc, arith}
use Rattle.std.specs.List.{zip, list_all}
use Rattle.std.specs.Prelude.{take}
use Rattle.std.proofs.lemmas.Bool.{and_parts, cases_eq, cases_lt, eqb-true}
use Rattle.std.proofs.lemmas.List.{append-nil}
use Rattle.std.proofs.lemmas.List.Sums.{sum_by-cons}
use Rattle.std.proofs.lemmas.Option.{same_Some}
use Rattle.registry_values.specs.Common.{bias, no_mark, is_retired, slot_at, slot_of}
use Rattle.registry_values.proofs.Fit.{ranges}
use Rattle.protocol.specs.Common.{row_at, local_at, State, opening, mark_at, count_at, total_at, kept_at, at_rest, Holds, IsIn, one_if, addition_due_at, is_adding_at, subtraction_due_at, after_join_keeper, after_total, may_join}
use Rattle.protocol.specs.Events
use Rattle.protocol.proofs.Either.{either}
use Rattle.protocol.proofs.Made.{Made, Publishes, Unpublishes, Republishes, Snaps, Collects, AddsTotal, SubsTotal, JoinsKeeper, SubsKept, Vacates}
use Rattle.protocol.proofs.counts.Bounds.{adding_range, adding_within, driver_positive, subtracting_range}
use Rattle.protocol.proofs.counts.Sums.{one_self, one_other}
use Rattle.protocol.proofs.keeps.ListKeeps.{may_publish_tells, false_from}
use Rattle.protocol.proofs.keeps.MarkKeeps.{is_drained_tells, may_examine_tells}
use Rattle.protocol.proofs.keeps.References.{snapshot_due_tells}
use Rattle.protocol.proofs.keeps.Replacing.{may_republish_tells}
use Rattle.protocol.proofs.Cells.{total_here, total_other}
use Rattle.protocol.proofs.Occupied.{at_rest_tells, fresh_unoccupied, in_within, one_number, slot_has}
use Rattle.cpu_words.specs.Common.{LogItem, Teller, KeeperView, number_at, collected_net, collected_one, GivesUp, KeeperShown, Good, number_or_none, by_number, changes_in, keeping, names, occupant_after, occupant, word_after, word_collected, occupant_of, word_if, AreCountsOf, given_by, given_after, given_up, sum_below, is_there, word_or_none, words_collected, sum_collected, AreTotalsOf}
use Rattle.cpu_words.proofs.by_keeper.Draining.{due_alike}
use Rattle.cpu_words.proofs.by_keeper.Totals.{one_subtracted}
use Rattle.cpu_words.proofs.logs.Loads.{changes_up, unnamed_changes}
use Rattle.cpu_words.proofs.logs.Counted.{no_word, occupant_next, undrawn_slot, undrawn_mark, word_next}
use Rattle.cpu_words.proofs.logs.Runs.{item_of}
use Rattle.cpu_words.proofs.logs.Slots.{changes_last}

-- References given up, with one item more

given_last : (before : List LogItem) (n : ℕ) (a : List LogItem) (d : LogItem) → given_after before n (a ++ d ∷ []) ≡ given_after before n a + given_by (before ++ a) n d.event
given_last before n [] d = let same = ap (λ (l : List LogItem). given_by l n d.event) (append-nil before) in omega (arith, same)
given_last before n (x ∷ a) d = omega (arith, given_last (before ++ x ∷ []) n a d, ap (λ (l : List LogItem). given_by l n d.event) (append_assoc before (x ∷ []) a))

pub given_more : (n : ℕ) (log : List LogItem) (d : LogItem) → given_up n (log ++ d ∷ []) ≡ given_up n log + given_by log n d.event
given_more n log d = given_last [] n log d

-- Sums over the places for CPUs

-- the places have the same words
pub sum_other : (f g : ℕ → ℕ) (n : ℕ) → ((c : ℕ) → c < n → g c ≡ f c) → sum_below g n ≡ sum_below f n
sum_other f g zero same = refl
sum_other f g (suc n) same = omega (arith, sum_other f g n (λ c lt. same c (omega arith)), same n (omega arith))

-- only one place has another word
sum_changed : (f g : ℕ → ℕ) (c n : ℕ) → c < n → ((d : ℕ) → (d ≡ c → ⊥) → g d ≡ f d) → sum_below g n + f c ≡ sum_below f n + g c
sum_changed f g c zero lt same = absurd (omega arith)
sum_changed f g c (suc n) lt same = ⊎_elim
    (λ (is : n ≡ c). omega (arith, sum_other f g n (λ d low. same d (λ q. absurd (omega (arith, q, is, low)))), ap f is, ap g is))
    (λ (off : n ≡ c → ⊥). omega (arith, sum_changed f g c n (⊎_elim (λ (below : c < n). below) (λ (past : n ≤ c). absurd (off (omega arith))) (cases_lt c n)) same, same n off))
    (cases_eq n c)

-- the first place by itself
pub sum_first : (f : ℕ → ℕ) (n : ℕ) → sum_below f (suc n) ≡ f 0 + sum_below (λ c. f (suc c)) n
sum_first f zero = omega arith
sum_first f (suc n) = let rest = sum_first f n in omega (arith, rest)

-- The entry of a slot

-- the entry n has the slot t
abbrev IsAt : State → ℕ → ℕ → Type 0
IsAt s t n = occupant_of (slot_at s.slots t) ≡ Some n

entry_in : (x : Slot) (n : ℕ) → occupant_of x ≡ Some n → (e : Entry) × IsIn e x × (e.number ≡ n)
entry_in Vacant n is = absurd (let q : ◌≡◌ {A = Option ℕ} None (Some n) = is in cc)
entry_in (Live e) n is = (e, inl refl, same_Some e.number n is)
entry_in (Retired e) n is = (e, inr refl, same_Some e.number n is)

pub in_occupant : (e : Entry) (x : Slot) → IsIn e x → occupant_of x ≡ Some e.number
in_occupant e x here = ⊎_elim (λ (live : x ≡ Live e). ap occupant_of live) (λ (gone : x ≡ Retired e). ap occupant_of gone) here

at_slot : (s : State) (n t : ℕ) → slot_of s.slots n ≡ Some t → IsAt s t n
at_slot s n t of = let has = slot_has s.slots n t of in in_occupant has.1.0 (slot_at s.slots t) has.1.1 ∙ ap (λ (k : ℕ). Some k) has.1.2

-- two occupied slots are one exactly if their entries' numbers are
one_alike : (s : State) (t n u m : ℕ) → Holds s → IsAt s t n → IsAt s u m → one_if (u == t) ≡ one_if (m == n)
one_alike s t n u m on here there = ⊎_elim
    (λ (same : u ≡ t). one_self u t same ∙ sym (one_self m n (same_Some m n (sym there ∙ (ap (λ (k : ℕ). occupant_of (slot_at s.slots k)) same ∙ here)))))
    (λ (off : u ≡ t → ⊥).
    let e = entry_in (slot_at s.slots t) n here in
    let f = entry_in (slot_at s.slots u) m there in
    one_other u t off ∙ sym (one_other m n (λ same. off (one_number s.history s.slots t u e.0 f.0 on.slots e.1 f.1 (f.2 ∙ (same ∙ sym e.2))).0)))
    (cases_eq u t)

-- an occupant's number is none above all changes
none_above : (s : State) (n m t : ℕ) → Holds s → slot_of s.slots m ≡ Some t → length s.history < n → one_if (m == n) ≡ 0
none_above s n m t on of above =
    let has = slot_has s.slots m t of in
    one_other m n (λ same. fresh_unoccupied s.history s.slots n on.slots above (t, has.1.0, has.1.1, has.1.2 ∙ same))

-- One slot, as an event is made

-- what the keeper's log said before
pub record SaidBefore (log : List LogItem) (s : State) : Type 0 where
  pub changes : length s.history ≡ changes_in log
  pub kept : (t : ℕ) → kept_at s.keeps t ≡ keeping t log
  pub counts : AreCountsOf log s
  pub totals : AreTotalsOf log s

-- the total of the slot t, where the entry n is, is by the log
abbrev IsEven : List LogItem → State → ℕ → ℕ → Type 0
IsEven log s t n = total_at s.totals t + addition_due_at t s.due + given_up n log + bias * words_collected t log ≡ bias * (1 + is_adding_at t s.due) + sum_collected t log + subtraction_due_at t s.due

-- what the event makes of the total, of what is due and of the references given up to n is as much on either side
abbrev IsAsMuch : List LogItem → State → Event → State → ℕ → ℕ → Type 0
IsAsMuch log s e o t n = total_at o.totals t + addition_due_at t o.due + given_by log n (by_number s e) + bias * is_adding_at t s.due + subtraction_due_at t s.due
    ≡ total_at s.totals t + addition_due_at t s.due + bias * is_adding_at t o.due + subtraction_due_at t o.due

-- The sums as plain numbers: so the limits don't change how long the arithmetic takes

as_much_sum : (total add given words due sub sum now new by words_now due_now sub_now sum_now given_now : ℕ) → words_now ≡ words → sum_now ≡ sum → given_now ≡ given + by
    → now + new + by + bias * due + sub ≡ total + add + bias * due_now + sub_now → total + add + given + bias * words ≡ bias * (1 + due) + sum + sub
    → now + new + given_now + bias * words_now ≡ bias * (1 + due_now) + sum_now + sub_now
as_much_sum total add given words due sub sum now new by words_now due_now sub_now sum_now given_now same alike more much even = omega (arith, same, alike, more, much, even)

published_sum : (now new given words due sub sum before : ℕ) → now ≡ bias → new ≡ 0 → due ≡ 0 → sub ≡ 0 → words ≡ 0 → sum ≡ 0 → given ≡ before + 0 → before ≡ 0
    → now + new + given + bias * words ≡ bias * (1 + due) + sum + sub
published_sum now new given words due sub sum before total add is_due is_sub no_words no_sum same none = omega (arith, total, add, is_due, is_sub, no_words, no_sum, same, none)

collected_sum : (total add given words due sub sum now new words_now due_now sub_now sum_now given_now w there there_now word word_now : ℕ) → words_now + there ≡ words + there_now
    → sum_now + word ≡ sum + word_now → there ≡ 0 → there_now ≡ 1 → word ≡ 0 → word_now ≡ w → given_now ≡ given + 0 → total + add + given + bias * words ≡ bias * (1 + due) + sum + sub
    → now ≡ total → add ≡ 0 → due ≡ 0 → sub ≡ 0 → new ≡ w → due_now ≡ 1 → sub_now ≡ 0
    → now + new + given_now + bias * words_now ≡ bias * (1 + due_now) + sum_now + sub_now
collected_sum total add given words due sub sum now new words_now due_now sub_now sum_now given_now w there there_now word word_now one much no_there is_there no_word is_word more even same
    no_add no_due no_sub is_new is_due is_sub = omega (arith, one, much, no_there, is_there, no_word, is_word, more, even, same, no_add, no_due, no_sub, is_new, is_due, is_sub)

-- after the event, too
abbrev Next : List LogItem → State → Event → State → Reply → Option Teller → ℕ → ℕ → Type 0
Next log s e g r h t n = IsEven (log ++ item_of s e r h ∷ []) g t n

-- the slot's words stay
as_much : (log : List LogItem) (s : State) (e : Event) (g : State) (r : Reply) (h : Option Teller) (t n : ℕ) → ((c : ℕ) → word_after t c e r (word_collected t c log) ≡ word_collected t c log)
    → IsAsMuch log s e g t n → IsEven log s t n → Next log s e g r h t n
as_much log s e g r h t n stay much even =
    let d : LogItem = item_of s e r h in
    let word : (c : ℕ) → word_collected t c (log ++ d ∷ []) ≡ word_collected t c log = λ c. word_next t c log s e r h ∙ stay c in
    let words : words_collected t (log ++ d ∷ []) ≡ words_collected t log =
    sum_other (λ c. is_there (word_collected t c log)) (λ c. is_there (word_collected t c (log ++ d ∷ []))) MOST_CPUS (λ c lt. ap is_there (word c)) in
    let sum : sum_collected t (log ++ d ∷ []) ≡ sum_collected t log =
    sum_other (λ c. word_or_none (word_collected t c log)) (λ c. word_or_none (word_collected t c (log ++ d ∷ []))) MOST_CPUS (λ c lt. ap word_or_none (word c)) in
    as_much_sum (total_at s.totals t) (addition_due_at t s.due) (given_up n log) (words_collected t log) (is_adding_at t s.due) (subtraction_due_at t s.due) (sum_collected t log)
    (total_at g.totals t) (addition_due_at t g.due) (given_by log n (by_number s e)) (words_collected t (log ++ d ∷ [])) (is_adding_at t g.due) (subtraction_due_at t g.due)
    (sum_collected t (log ++ d ∷ [])) (given_up n (log ++ d ∷ [])) words sum (given_more n log d) much even

-- the slot's total and what is due for it stay, and nothing is given up
level : (total add due sub : ℕ) → total + add + 0 + bias * due + sub ≡ total + add + bias * due + sub
level total add due sub = omega arith

untouched : (log : List LogItem) (s : State) (e : Event) (r : Reply) (h : Option Teller) (t n : ℕ) → ((c : ℕ) → word_after t c e r (word_collected t c log) ≡ word_collected t c log)
    → given_by log n (by_number s e) ≡ 0 → IsEven log s t n → Next log s e s r h t n
untouched log s e r h t n stay none even = as_much log s e s r h t n stay
    (ap (λ (m : ℕ). total_at s.totals t + addition_due_at t s.due + m + bias * is_adding_at t s.due + subtraction_due_at t s.due) none
    ∙ level (total_at s.totals t) (addition_due_at t s.due) (is_adding_at t s.due) (subtraction_due_at t s.due)) even

-- nothing is due for any total, before and after
abbrev IsQuiet : Due → ℕ → Type 0
IsQuiet due t = (addition_due_at t due ≡ 0) × (is_adding_at t due ≡ 0) × (subtraction_due_at t due ≡ 0)

quiet_rest : (due : Due) (t : ℕ) → due ≡ Rest → IsQuiet due t
quiet_rest due t is = due_alike due Rest is t

quiet_if : (t u c : ℕ) (b : Bool) → IsQuiet (if b then Snapshots u c else Rest) t
quiet_if t u c true = (refl, refl, refl)
quiet_if t u c false = (refl, refl, refl)

-- totals stay, nothing is due for any, and nothing is given up
quietly : (log : List LogItem) (s : State) (e : Event) (n : State) (t m : ℕ) → given_by log m (by_number s e) ≡ 0 → n.totals ≡ s.totals → IsQuiet s.due t → IsQuiet n.due t → IsAsMuch log s e n t m
quietly log s e n t m none same before after = omega (arith, none, ap (λ (x : List ℕ). total_at x t) same, before.0, before.1, before.2, after.0, after.1, after.2)

-- Each event

-- the event is at the slot t, or at another

if_here : {X : Type 0} (u t : ℕ) (x y : X) → u ≡ t → (if u == t then x else y) ≡ x
if_here u t x y same = ap (λ (b : Bool). if b then x else y) (eq-eqb u t same)

if_off : {X : Type 0} (u t : ℕ) (x y : X) → (u ≡ t → ⊥) → (if u == t then x else y) ≡ y
if_off u t x y off = ap (λ (b : Bool). if b then x else y) (ne_eqb u t off)

-- a slot gets an entry, by either event, with its total at the bias; nothing was collected for the new entry, and nothing given up
published_here : (log : List LogItem) (s : State) (u : ℕ) (e : Entry) (h : Option Teller) (n : ℕ) → Holds s → Events.may_publish s u e ≡ true → suc (changes_in log) ≡ n → SaidBefore log s
    → Next log s (Publish u) (Events.after_publish s u e) Done h u n
published_here log s u e h n on may number known =
    let told = may_publish_tells s u e on.shape may in
    let none : given_up n log ≡ 0 = known.totals.later n (omega (arith, number)) in
    let unused = and_parts (list_all Events.is_bias (take s.settings.cpus (get_or s.counts u []))) (total_at s.totals u == bias) told.unused in
    let quiet = quiet_rest s.due u told.rest in
    let d : LogItem = item_of s (Publish u) Done h in
    let word : (c : ℕ) → word_collected u c (log ++ d ∷ []) ≡ None =
    λ c. word_next u c log s (Publish u) Done h ∙ (known.counts.words u c ∙ no_word s u c (undrawn_slot s u c (ap is_retired told.vacant))) in
    let words : words_collected u (log ++ d ∷ []) ≡ 0 = sum_other (λ c. 0) (λ c. is_there (word_collected u c (log ++ d ∷ []))) MOST_CPUS (λ c lt. ap is_there (word c)) in
    let sum : sum_collected u (log ++ d ∷ []) ≡ 0 = sum_other (λ c. 0) (λ c. word_or_none (word_collected u c (log ++ d ∷ []))) MOST_CPUS (λ c lt. ap word_or_none (word c)) in
    published_sum (total_at s.totals u) (addition_due_at u s.due) (given_up n (log ++ d ∷ [])) (words_collected u (log ++ d ∷ [])) (is_adding_at u s.due)
    (subtraction_due_at u s.due) (sum_collected u (log ++ d ∷ [])) (given_up n log) (eqb-true (total_at s.totals u) bias unused.1) quiet.0 quiet.1 quiet.2 words sum (given_more n log d) none

published_next : (log : List LogItem) (s : State) (u : ℕ) (e : Entry) (h : Option Teller) (t n : ℕ) → Holds s → Events.may_publish s u e ≡ true
    → occupant_after t (changes_in log) (Publish u) (occupant t log) ≡ Some n → SaidBefore log s → Next log s (Publish u) (Events.after_publish s u e) Done h t n
published_next log s u e h t n on may is known = either (cases_eq u t)
    (λ same.
    let number = same_Some (suc (changes_in log)) n (sym (if_here u t (Some (suc (changes_in log))) (occupant t log) same) ∙ is) in
    subst (λ (v : ℕ). Next log s (Publish u) (Events.after_publish s u e) Done h v n) same (published_here log s u e h n on may number known))
    (λ off. untouched log s (Publish u) Done h t n (λ c. refl) refl (known.totals.total t n (sym (if_off u t (Some (suc (changes_in log))) (occupant t log) off) ∙ is)))

-- so it is where an entry comes in another's place

republished_here : (log : List LogItem) (s g : State) (v u : ℕ) (h : Option Teller) (n : ℕ) → slot_at s.slots v ≡ Vacant → Events.are_unused s v ≡ true → suc (changes_in log) ≡ n → g.totals ≡ s.totals
    → g.due ≡ Snapshots u 0 → SaidBefore log s → Next log s (Republish v u) g Done h v n
republished_here log s g v u h n vacant free number totals due known =
    let none : given_up n log ≡ 0 = known.totals.later n (omega (arith, number)) in
    let unused = and_parts (list_all Events.is_bias (take s.settings.cpus (get_or s.counts v []))) (total_at s.totals v == bias) free in
    let quiet = due_alike g.due (Snapshots u 0) due v in
    let d : LogItem = item_of s (Republish v u) Done h in
    let word : (c : ℕ) → word_collected v c (log ++ d ∷ []) ≡ None =
    λ c. word_next v c log s (Republish v u) Done h ∙ (known.counts.words v c ∙ no_word s v c (undrawn_slot s v c (ap is_retired vacant))) in
    let words : words_collected v (log ++ d ∷ []) ≡ 0 = sum_other (λ c. 0) (λ c. is_there (word_collected v c (log ++ d ∷ []))) MOST_CPUS (λ c lt. ap is_there (word c)) in
    let sum : sum_collected v (log ++ d ∷ []) ≡ 0 = sum_other (λ c. 0) (λ c. word_or_none (word_collected v c (log ++ d ∷ []))) MOST_CPUS (λ c lt. ap word_or_none (word c)) in
    published_sum (total_at g.totals v) (addition_due_at v g.due) (given_up n (log ++ d ∷ [])) (words_collected v (log ++ d ∷ [])) (is_adding_at v g.due)
    (subtraction_due_at v g.due) (sum_collected v (log ++ d ∷ [])) (given_up n log) (ap (λ (x : List ℕ). total_at x v) totals ∙ eqb-true (total_at s.totals v) bias unused.1) quiet.0 quiet.1 quiet.2
    words sum (given_more n log d) none

republished_next : (log : List LogItem) (s g : State) (v u : ℕ) (e f : Entry) (h : Option Teller) (t n : ℕ) → Holds s → Events.entry_of v (row_at s.rows v) ≡ Some e → slot_at s.slots u ≡ Live f
    → Events.may_republish s v u e f ≡ true → g.totals ≡ s.totals → g.due ≡ Snapshots u 0 → occupant_after t (changes_in log) (Republish v u) (occupant t log) ≡ Some n → SaidBefore log s
    → Next log s (Republish v u) g Done h t n
republished_next log s g v u e f h t n on of at may totals due is known =
    let told = may_republish_tells s v u e f on of at may in
    let swap = told.2 in
    either (cases_eq v t)
    (λ same.
    let number = same_Some (suc (changes_in log)) n (sym (if_here v t (Some (suc (changes_in log))) (occupant t log) same) ∙ is) in
    subst (λ (w : ℕ). Next log s (Republish v u) g Done h w n) same
    (republished_here log s g v u h n (ap (slot_at s.slots) (sym told.0) ∙ swap.swap.vacant) (ap (Events.are_unused s) (sym told.0) ∙ swap.unused) number totals due known))
    (λ off. as_much log s (Republish v u) g Done h t n (λ c. refl)
    (quietly log s (Republish v u) g t n refl totals (quiet_rest s.due t swap.rest) (due_alike g.due (Snapshots u 0) due t))
    (known.totals.total t n (sym (if_off v t (Some (suc (changes_in log))) (occupant t log) off) ∙ is)))

-- the word that is collected is one more, and counts once it is added

collected_here : (log : List LogItem) (s : State) (c : ℕ) (h : Option Teller) (t n : ℕ) → Holds s → Events.may_collect s t c ≡ true → occupant t log ≡ Some n → SaidBefore log s
    → Next log s (Collect t c) (Events.after_collect s t c) (Word (count_at s.counts c t)) h t n
collected_here log s c h t n on may is known =
    let w = count_at s.counts c t in
    let p = and_parts (Events.may_examine s t c) (Events.is_drainable s t && not (mark_at s.marks t c).collected) may in
    let q = and_parts (Events.is_drainable s t) (not (mark_at s.marks t c).collected) p.1 in
    let told = may_examine_tells s t c p.0 in
    let low : c < MOST_CPUS = omega (arith, told.1, (ranges s.settings on.fit).cpus) in
    let d : LogItem = item_of s (Collect t c) (Word w) h in
    let old : word_collected t c log ≡ None = known.counts.words t c ∙ no_word s t c (undrawn_mark s t c (false_from (mark_at s.marks t c).collected q.1)) in
    let here = eq-eqb t t refl in
    let new : word_collected t c (log ++ d ∷ []) ≡ Some w = word_next t c log s (Collect t c) (Word w) h
    ∙ (λ k. if here k && eq-eqb c c refl k then Some w else word_collected t c log) in
    let other : (j : ℕ) → (j ≡ c → ⊥) → word_collected t j (log ++ d ∷ []) ≡ word_collected t j log = λ j off. word_next t j log s (Collect t c) (Word w) h
    ∙ (λ k. if here k && ne_eqb c j (λ same. off (sym same)) k then Some w else word_collected t j log) in
    let words = sum_changed (λ j. is_there (word_collected t j log)) (λ j. is_there (word_collected t j (log ++ d ∷ []))) c MOST_CPUS low (λ j off. ap is_there (other j off)) in
    let sum = sum_changed (λ j. word_or_none (word_collected t j log)) (λ j. word_or_none (word_collected t j (log ++ d ∷ []))) c MOST_CPUS low (λ j off. ap word_or_none (other j off)) in
    let given : given_up n (log ++ d ∷ []) ≡ given_up n log + 0 = given_more n log d in
    let quiet = quiet_rest s.due t told.0 in
    collected_sum (total_at s.totals t) (addition_due_at t s.due) (given_up n log) (words_collected t log) (is_adding_at t s.due) (subtraction_due_at t s.due) (sum_collected t log)
    (total_at s.totals t) (addition_due_at t (Adding t w)) (words_collected t (log ++ d ∷ [])) (is_adding_at t (Adding t w)) (subtraction_due_at t (Adding t w))
    (sum_collected t (log ++ d ∷ [])) (given_up n (log ++ d ∷ [])) w (is_there (word_collected t c log)) (is_there (word_collected t c (log ++ d ∷ [])))
    (word_or_none (word_collected t c log)) (word_or_none (word_collected t c (log ++ d ∷ []))) words sum (ap is_there old) (ap is_there new) (ap word_or_none old) (ap word_or_none new) given
    (known.totals.total t n is) refl quiet.0 quiet.1 quiet.2 (if_here t t w 0 refl) (one_self t t refl) refl

collected_off : (log : List LogItem) (s : State) (u c : ℕ) (h : Option Teller) (t n : ℕ) → (u ≡ t → ⊥) → Events.may_collect s u c ≡ true → occupant t log ≡ Some n → SaidBefore log s
    → Next log s (Collect u c) (Events.after_collect s u c) (Word (count_at s.counts c u)) h t n
collected_off log s u c h t n off may is known =
    let w = count_at s.counts c u in
    let p = and_parts (Events.may_examine s u c) (Events.is_drainable s u && not (mark_at s.marks u c).collected) may in
    let after : IsQuiet (Adding u w) t = (if_off u t w 0 off, one_other u t off, refl) in
    as_much log s (Collect u c) (Events.after_collect s u c) (Word w) h t n (λ j. ap (λ (b : Bool). if b && c == j then Some w else word_collected t j log) (ne_eqb u t off))
    (quietly log s (Collect u c) (Events.after_collect s u c) t n refl refl (quiet_rest s.due t (may_examine_tells s u c p.0).0) after) (known.totals.total t n is)

collected_next : (log : List LogItem) (s : State) (u c : ℕ) (h : Option Teller) (t n : ℕ) → Holds s → Events.may_collect s u c ≡ true → occupant t log ≡ Some n → SaidBefore log s
    → Next log s (Collect u c) (Events.after_collect s u c) (Word (count_at s.counts c u)) h t n
collected_next log s u c h t n on may is known = either (cases_eq u t)
    (λ same.
    let here = collected_here log s c h u n on may (ap (λ (v : ℕ). occupant v log) same ∙ is) known in
    subst (λ (v : ℕ). Next log s (Collect u c) (Events.after_collect s u c) (Word (count_at s.counts c u)) h v n) same here)
    (λ off. collected_off log s u c h t n off may is known)

-- what was collected is in the total then, less its bias
added_much : (log : List LogItem) (s : State) (u old t n : ℕ) → Holds s → s.due ≡ Adding u old → IsAsMuch log s (TotalAdd u) (after_total s u (total_at s.totals u + old - bias)) t n
added_much log s u old t n on due =
    let before = due_alike s.due (Adding u old) due t in
    either (cases_eq u t)
    (λ same.
    let range = (adding_range s u old on due).0 in
    let lt : u < length s.totals = omega (arith, adding_within s u old on due, on.shape.totals) in
    let total = ap (total_at (set s.totals u (total_at s.totals u + old - bias))) (sym same) ∙ total_here s.totals u (total_at s.totals u + old - bias) lt in
    omega (arith, range, total, ap (total_at s.totals) same, before.0, before.1, before.2, if_here u t old 0 same, one_self u t same))
    (λ off. omega (arith, total_other s.totals u (total_at s.totals u + old - bias) t (λ same. off (sym same)), before.0, before.1, before.2, if_off u t old 0 off, one_other u t off))

-- the reference that was given up is subtracted
subtracted_much : (log : List LogItem) (s : State) (u t n : ℕ) → Holds s → s.due ≡ Subtracting u → IsAsMuch log s (TotalSub u) (after_total s u (total_at s.totals u - 1)) t n
subtracted_much log s u t n on due =
    let range = subtracting_range s u on due in
    let before = due_alike s.due (Subtracting u) due t in
    omega (arith, one_subtracted s.totals u (omega (arith, range.0, on.shape.totals)) range.1 t, before.0, before.1, before.2)

-- a reference is given up, and is due for subtraction from its entry's slot
joined_much : (log : List LogItem) (s : State) (id m u t n : ℕ) → Holds s → Events.number_standing (local_at s.locals id) ≡ Some m → slot_of s.slots m ≡ Some u → Events.may_join_keeper s u ≡ true
    → occupant t log ≡ Some n → SaidBefore log s → IsAsMuch log s (JoinKeeper id) (after_join_keeper s id u) t n
joined_much log s id m u t n on at of may is known =
    let before = quiet_rest s.due t (at_rest_tells s.due (and_parts (at_rest s.due) _ (and_parts (is_retired (slot_at s.slots u)) (may_join s u) may).1).0) in
    omega (arith, one_alike s t n u m on (sym (known.counts.occupants t) ∙ is) (at_slot s m u of), ap (λ (x : Option ℕ). one_if (number_or_none x == n)) at, before.0, before.1, before.2)

-- of another slot than the one made vacant: the driver's total is 1 less, and one more reference to it is given up
gave_up_much : (log : List LogItem) (s : State) (v d u t n : ℕ) → Holds s → kept_at s.keeps v ≡ Some d → slot_of s.slots d ≡ Some u → Events.is_drained s v ≡ true
    → occupant t log ≡ Some n → SaidBefore log s → IsAsMuch log s (KeptSub v) (Events.after_kept_sub s v u) t n
gave_up_much log s v d u t n on keeps of drained is known =
    let given : given_by log n (KeptSub v) ≡ one_if (d == n) = ap (λ (x : Option ℕ). one_if (names x n)) (sym (known.kept v) ∙ keeps) in
    let less = one_subtracted s.totals u (omega (arith, (slot_has s.slots d u of).0, on.shape.slots, on.shape.totals)) (driver_positive s v d u on keeps of drained) t in
    let before = quiet_rest s.due t (is_drained_tells s v on drained).0 in
    omega (arith, one_alike s t n u d on (sym (known.counts.occupants t) ∙ is) (at_slot s d u of), given, less, before.0, before.1, before.2)

-- an event that makes the slot v vacant leaves the words of another
vacated_next : (log : List LogItem) (v t n : ℕ) (x : Option ℕ) → (if v == t then None else x) ≡ Some n → (x ≡ Some n) × ((y : Option ℕ) → (if v == t then None else y) ≡ y)
vacated_next log v t n x is = either (cases_eq v t)
    (λ same. absurd (let q : ◌≡◌ {A = Option ℕ} None (Some n) = sym (if_here v t None x same) ∙ is in cc))
    (λ off. (sym (if_off v t None x off) ∙ is, λ y. if_off v t None y off))

total_next : (log : List LogItem) (s g : State) (e : Event) (r : Reply) (h : Option Teller) (t n : ℕ) → Holds s → Made s e g r → occupant_after t (changes_in log) e (occupant t log) ≡ Some n
    → SaidBefore log s → Next log s e g r h t n
total_next log s g _ _ h t n on (Publishes u e of may) is known = published_next log s u e h t n on may is known
total_next log s g e r h t n on (Unpublishes u head next f at rest past) is known = as_much log s e g r h t n (λ c. refl)
    (quietly log s e g t n refl refl (quiet_rest s.due t (at_rest_tells s.due rest)) (refl, refl, refl)) (known.totals.total t n is)
total_next log s g _ _ h t n on (Republishes v u head next e f of at may past) is known = republished_next log s g v u e f h t n on of at may refl refl is known
total_next log s g e r h t n on (Snaps u c due) is known = as_much log s e g r h t n (λ d. refl)
    (quietly log s e g t n refl refl (due_alike s.due (Snapshots u c) (snapshot_due_tells s.due u c due) t) (quiet_if t u (c + 1) (nat_lt (c + 1) s.settings.cpus))) (known.totals.total t n is)
total_next log s g _ _ h t n on (Collects u c may) is known = collected_next log s u c h t n on may is known
total_next log s g e r h t n on (AddsTotal u old due) is known = as_much log s e g r h t n (λ c. refl) (added_much log s u old t n on due) (known.totals.total t n is)
total_next log s g e r h t n on (SubsTotal u due) is known = as_much log s e g r h t n (λ c. refl) (subtracted_much log s u t n on due) (known.totals.total t n is)
total_next log s g e r h t n on (JoinsKeeper id m u at of may) is known =
    as_much log s e g r h t n (λ c. refl) (joined_much log s id m u t n on at of may is known) (known.totals.total t n is)
total_next log s g e r h t n on (SubsKept v d u keeps of may) is known =
    let was = vacated_next log v t n (occupant t log) is in
    as_much log s e g r h t n (λ c. was.1 (word_collected t c log)) (gave_up_much log s v d u t n on keeps of (and_parts _ (Events.is_drained s v) may).1 was.0 known) (known.totals.total t n was.0)
total_next log s g e r h t n on (Vacates v may) is known =
    let was = vacated_next log v t n (occupant t log) is in
    untouched log s e r h t n (λ c. was.1 (word_collected t c log)) refl (known.totals.total t n was.0)
total_next log s g e r h t n on _ is known = untouched log s e r h t n (λ c. refl) refl (known.totals.total t n is)

-- nothing is given up to an entry that isn't there yet
none_given : (log : List LogItem) (s g : State) (e : Event) (r : Reply) (n : ℕ) → Holds s → Made s e g r → SaidBefore log s → changes_in log < n → given_by log n (by_number s e) ≡ 0
none_given log s g _ _ n on (JoinsKeeper id m u at of may) known above = ap (λ (x : Option ℕ). one_if (number_or_none x == n)) at ∙ none_above s n m u on of (omega (arith, above, known.changes))
none_given log s g _ _ n on (SubsKept v d u keeps of may) known above =
    ap (λ (x : Option ℕ). one_if (names x n)) (sym (known.kept v) ∙ keeps) ∙ none_above s n d u on of (omega (arith, above, known.changes))
none_given log s g _ _ n on _ known above = refl

-- The walk

-- the keeper's next item
pub totals_own : (log : List LogItem) (s g : State) (e : Event) (r : Reply) (h : Option Teller) → Holds s → Made s e g r → SaidBefore log s → AreTotalsOf (log ++ item_of s e r h ∷ []) g
totals_own log s g e r h on made known =
    let d : LogItem = item_of s e r h in record {
      total = λ t n is. total_next log s g e r h t n on made (sym (occupant_next t log s e r h) ∙ is) known;
      later = λ n above.
          let low : changes_in log < n = omega (arith, above, changes_last log d ∙ unnamed_changes s e (changes_in log), changes_up e (changes_in log)) in
          omega (arith, given_more n log d, known.totals.later n low, none_given log s g e r n on made known low);
    }

-- before all events no slot is occupied
pub no_totals : (z : Settings) → AreTotalsOf [] (opening z)
no_totals z = record { total = λ t n is. absurd (let q : ◌≡◌ {A = Option ℕ} None (Some n) = is in cc); later = λ n above. refl }

-- What callers need

-- at rest a total is by the log alone
pub total_by_log : (log : List LogItem) (s : State) (t n : ℕ) → AreTotalsOf log s → s.due ≡ Rest → occupant t log ≡ Some n
    → total_at s.totals t + given_up n log + bias * words_collected t log ≡ bias + sum_collected t log
total_by_log log s t n are rest is =
    let quiet = quiet_rest s.due t rest in
    omega (arith, are.total t n is, quiet.0, quiet.1, quiet.2)

-- a sum over marks and net counts, as one over the places
row_sum : (h : Mark × ℕ → ℕ) (ms : List Mark) (ns : List ℕ) (f : ℕ → ℕ) → length ms ≡ length ns → ((c : ℕ) → f c ≡ h (get_or ms c no_mark, get_or ns c 0))
    → sum_below f (length ms) ≡ sum_by h (zip ms ns)
row_sum h [] ns f same each = refl
row_sum h (m ∷ ms) [] f same each = absurd (omega (arith, same))
row_sum h (m ∷ ms) (w ∷ ns) f same each =
    omega (arith, sum_first f (length ms), each 0, row_sum h ms ns (λ c. f (suc c)) (omega (arith, same)) (λ c. each (suc c)), sum_by-cons h (m, w) (zip ms ns))

-- a mark's word as the log has it counts as it does for the keeper's view

one_collected : (b : Bool) (w : ℕ) → is_there (word_if b w) ≡ (if b then 1 else 0)
one_collected true w = refl
one_collected false w = refl

net_collected : (b : Bool) (w : ℕ) → word_or_none (word_if b w) ≡ (if b then w else 0)
net_collected true w = refl
net_collected false w = refl

-- as the keeper's view has it, so many references to the slot's entry were given up
pub given_by_log : (log : List LogItem) (g : State) (k : KeeperView) (t n : ℕ) → Good g → KeeperShown g k → AreCountsOf log g → AreTotalsOf log g → g.due ≡ Rest → occupant t log ≡ Some n
    → number_at k.given_up n ≡ given_up n log
given_by_log log g k t n good had counts totals rest is = by (slot_at g.slots t) refl
  where
    even : total_at g.totals t + given_up n log + bias * words_collected t log ≡ bias + sum_collected t log
    even = total_by_log log g t n totals rest is

    here : occupant_of (slot_at g.slots t) ≡ Some n
    here = sym (counts.occupants t) ∙ is

    by : (x : Slot) → slot_at g.slots t ≡ x → number_at k.given_up n ≡ given_up n log
    by Vacant at = absurd (let q : ◌≡◌ {A = Option ℕ} None (Some n) = sym (ap occupant_of at) ∙ here in cc)
    by (Live e) at =
        let word : (c : ℕ) → word_collected t c log ≡ None = λ c. counts.words t c ∙ no_word g t c (undrawn_slot g t c (ap is_retired at)) in
        let words : words_collected t log ≡ 0 = sum_other (λ c. 0) (λ c. is_there (word_collected t c log)) MOST_CPUS (λ c lt. ap is_there (word c)) in
        let sum : sum_collected t log ≡ 0 = sum_other (λ c. 0) (λ c. word_or_none (word_collected t c log)) MOST_CPUS (λ c lt. ap word_or_none (word c)) in
        omega (arith, even, subst (λ (m : ℕ). total_at g.totals t + number_at k.given_up m ≡ bias) (same_Some e.number n (sym (ap occupant_of at) ∙ here)) (had.live_total t e at), words, sum)
    by (Retired e) at =
        let quiet = quiet_rest g.due t rest in
        let shape = good.holds.shape in
        let lt : t < length g.slots = in_within g.slots t e (inr at) in
        let marks : length (get_or g.marks t []) ≡ MOST_CPUS = shape.mark_rows t (omega (arith, lt, shape.slots, shape.marks)) in
        let nets : length (get_or g.nets t []) ≡ MOST_CPUS = shape.net_rows t (omega (arith, lt, shape.slots, shape.nets)) in
        let word : (c : ℕ) → word_collected t c log ≡ word_if (mark_at g.marks t c).collected (count_at g.nets c t) =
        λ c. counts.words t c ∙ (λ j. word_if (is_retired (at j) && (mark_at g.marks t c).collected) (count_at g.nets c t)) in
        let words : words_collected t log ≡ sum_by collected_one (zip (get_or g.marks t []) (get_or g.nets t [])) =
        ap (sum_below (λ c. is_there (word_collected t c log))) (sym marks)
        ∙ row_sum collected_one (get_or g.marks t []) (get_or g.nets t []) (λ c. is_there (word_collected t c log)) (marks ∙ sym nets)
        (λ c. ap is_there (word c) ∙ one_collected (mark_at g.marks t c).collected (count_at g.nets c t)) in
        let sum : sum_collected t log ≡ sum_by collected_net (zip (get_or g.marks t []) (get_or g.nets t [])) =
        ap (sum_below (λ c. word_or_none (word_collected t c log))) (sym marks)
        ∙ row_sum collected_net (get_or g.marks t []) (get_or g.nets t []) (λ c. word_or_none (word_collected t c log)) (marks ∙ sym nets)
        (λ c. ap word_or_none (word c) ∙ net_collected (mark_at g.marks t c).collected (count_at g.nets c t)) in
        omega (arith, even, subst (λ (m : ℕ). GivesUp g k.given_up t m) (same_Some e.number n (sym (ap occupant_of at) ∙ here)) (had.gives_up t e at), quiet.0, quiet.1, quiet.2, words, sum)
