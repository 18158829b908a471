-- Who told the notes that were heard, and what seats know of their own sections and of the keeper's log.
use Rattle.std.proofs.Common.{◌≡◌, ◌⊎◌, inl, inr, ⊎_elim, ℕ, ◌<◌, ◌≤◌, List, [], ◌∷◌, ◌++◌, map, length, Option, Some, None, refl, sym, ap, ◌∙◌, subst, length-append, append_assoc, arith, ◌≢◌, Bool, true, false}
use Rattle.std.proofs.lemmas.List.{append-nil}
use mathlib.Core.List.{IsPrefix}
use Rattle.cpu_words.specs.Types.{Event, Hear}
use Rattle.protocol.specs.Common.{Outcome, step, Run, run_with_event, State}
use Rattle.cpu_words.specs.Common.{LogItem, Teller, by_number, reply_without_id, log_item, log_with, log_from, part, HasComeIf, IsToldBefore, AreToldBefore, teller_if, untold, has_heard_from, heard_from, HasHeardAll, HasItsSections, HasNone, Logged, is_border, is_hear}
use Rattle.cpu_words.proofs.logs.Runs.{by_seat, part_append, same_first, same_rest}
use Rattle.cpu_words.proofs.logs.Loads.{no_place, part_same}
use Rattle.cpu_words.proofs.shown.Seeing.{prefix_both}

-- Who told the notes that were heard: each teller had come as far as the log says before the note was heard, and that stays so.

-- Where an act is in two lists, one after the other

abbrev first_act : ℕ × LogItem → List (ℕ × LogItem) → ℕ × LogItem
first_act x [] = x
first_act x (y ∷ ys) = y

abbrev other_acts : List (ℕ × LogItem) → List (ℕ × LogItem)
other_acts [] = []
other_acts (y ∷ ys) = ys

pub same_act : (x y : ℕ × LogItem) (xs ys : List (ℕ × LogItem)) → x ∷ xs ≡ y ∷ ys → x ≡ y
same_act x y xs ys same = ap (first_act x) same

pub same_acts : (x y : ℕ × LogItem) (xs ys : List (ℕ × LogItem)) → x ∷ xs ≡ y ∷ ys → xs ≡ ys
same_acts x y xs ys same = ap other_acts same

pub no_act : (first rest : List (ℕ × LogItem)) (x : ℕ × LogItem) → [] ≡ first ++ x ∷ rest → ⊥
no_act first rest x is = let size : 0 ≡ length (first ++ x ∷ rest) = ap (λ (l : List (ℕ × LogItem)). length l) is in omega (arith, size, length-append first (x ∷ rest))

-- in the first list, or past it
abbrev pub StandsInBoth : List (ℕ × LogItem) → List (ℕ × LogItem) → List (ℕ × LogItem) → List (ℕ × LogItem) → ℕ × LogItem → Type 0
StandsInBoth a b first rest x =
    ((more : List (ℕ × LogItem)) × (a ≡ first ++ x ∷ more)) ⊎ ((past : List (ℕ × LogItem)) × (first ≡ a ++ past) × (b ≡ past ++ x ∷ rest))

pub stands : (a b first rest : List (ℕ × LogItem)) (x : ℕ × LogItem) → a ++ b ≡ first ++ x ∷ rest → StandsInBoth a b first rest x
stands [] b first rest x is = inr (first, refl, is)
stands (y ∷ a) b [] rest x is = inl (a, λ k. same_act y x (a ++ b) rest is k ∷ a)
stands (y ∷ a) b (z ∷ first) rest x is =
    let here = same_act y z (a ++ b) (first ++ x ∷ rest) is in
    ⊎_elim
    (λ (p : (more : List (ℕ × LogItem)) × (a ≡ first ++ x ∷ more)). inl (p.0, λ k. here k ∷ p.1 k))
    (λ (p : (past : List (ℕ × LogItem)) × (first ≡ a ++ past) × (b ≡ past ++ x ∷ rest)). inr (p.0, (λ k. sym here k ∷ p.1 k), p.2))
    (stands a b first rest x (same_acts y z (a ++ b) (first ++ x ∷ rest) is))

-- A teller has come so far, also when more was done, and when more CPUs have seats

pub come_seats : (seat next : ℕ → ℕ) (n more : ℕ) (acts : List (ℕ × LogItem)) (h : Option Teller) → n ≤ more → ((c : ℕ) → c < n → next c ≡ seat c) → HasComeIf seat n acts h
    → HasComeIf next more acts h
come_seats seat next n more acts None le same come = tt
come_seats seat next n more acts (Some h) le same come = record {
  seated = let lt = come.seated in omega (arith, lt, le);
  events = subst (λ (i : ℕ). h.events ≤ length (part i acts)) (sym (same h.cpu come.seated)) come.events;
}

come_acts : (seat : ℕ → ℕ) (n : ℕ) (acts more : List (ℕ × LogItem)) (h : Option Teller) → HasComeIf seat n acts h → HasComeIf seat n (acts ++ more) h
come_acts seat n acts more None come = tt
come_acts seat n acts more (Some h) come = record {
  seated = come.seated;
  events = omega (arith, come.events, ap (λ (l : List LogItem). length l) (part_append (seat h.cpu) acts more), length-append (part (seat h.cpu) acts) (part (seat h.cpu) more));
}

pub come_more : (seat next : ℕ → ℕ) (n all : ℕ) (acts more : List (ℕ × LogItem)) (h : Option Teller) → n ≤ all → ((c : ℕ) → c < n → next c ≡ seat c) → HasComeIf seat n acts h
    → HasComeIf next all (acts ++ more) h
come_more seat next n all acts more h le same come = come_acts next all acts more h (come_seats seat next n all acts h le same come)

told_seats : (seat next : ℕ → ℕ) (n more : ℕ) (first : List (ℕ × LogItem)) (d : LogItem) → n ≤ more → ((c : ℕ) → c < n → next c ≡ seat c) → IsToldBefore seat n first d → IsToldBefore next more first d
told_seats seat next n more first d le same told = record { only = told.only; before = come_seats seat next n more first d.teller le same told.before }

-- the acts that are new: each is told by what was done before it
abbrev pub AreToldPast : (ℕ → ℕ) → ℕ → List (ℕ × LogItem) → List (ℕ × LogItem) → Type 0
AreToldPast seat n acts new = (i : ℕ) (d : LogItem) (past rest : List (ℕ × LogItem)) → new ≡ past ++ (i, d) ∷ rest → IsToldBefore seat n (acts ++ past) d

pub told_more : (seat next : ℕ → ℕ) (n all : ℕ) (acts new : List (ℕ × LogItem)) → n ≤ all → ((c : ℕ) → c < n → next c ≡ seat c) → AreToldBefore seat n acts → AreToldPast seat n acts new
    → AreToldBefore next all (acts ++ new)
told_more seat next n all acts new le same told past i d first rest is = ⊎_elim
    (λ (p : (more : List (ℕ × LogItem)) × (acts ≡ first ++ (i, d) ∷ more)). told_seats seat next n all first d le same (told i d first p.0 p.1))
    (λ (p : (more : List (ℕ × LogItem)) × (first ≡ acts ++ more) × (new ≡ more ++ (i, d) ∷ rest)).
    subst (λ (l : List (ℕ × LogItem)). IsToldBefore next all l d) (sym p.1) (told_seats seat next n all (acts ++ p.0) d le same (past i d p.0 rest p.2)))
    (stands acts new first rest (i, d) is)

-- Items without a note

plain_with : (s : State) (e : Event) (o : Option Outcome) (ds : List LogItem) → map untold ds ≡ ds → map untold (log_with s e o ds) ≡ log_with s e o ds
plain_with s e None ds plain = plain
plain_with s e (Some o) ds plain = λ k. log_item (by_number s e) (reply_without_id o.reply) ∷ plain k

-- what a run has of its events is such
pub plain_from : (r : Run) (es : List Event) → map untold (log_from r es) ≡ log_from r es
plain_from r [] = refl
plain_from r (e ∷ es) = plain_with r.state e (step r.state e) (log_from (run_with_event r (step r.state e)) es) (plain_from (run_with_event r (step r.state e)) es)

pub plain_of_end : (a b : List LogItem) → map untold (a ++ b) ≡ a ++ b → map untold b ≡ b
plain_of_end [] b plain = plain
plain_of_end (x ∷ a) b plain = plain_of_end a b (same_rest (untold x) x (map untold (a ++ b)) (a ++ b) plain)

no_teller_if : (e : Event) → None ≡ teller_if e None
no_teller_if (Hear by) = refl
no_teller_if e = refl

plain_told : (seat : ℕ → ℕ) (n : ℕ) (first : List (ℕ × LogItem)) (d : LogItem) → d.teller ≡ None → IsToldBefore seat n first d
plain_told seat n first d none = record {
  only = none ∙ (no_teller_if d.event ∙ ap (teller_if d.event) (sym none));
  before = subst (HasComeIf seat n first) (sym none) tt;
}

pub plain_past : (seat : ℕ → ℕ) (n id : ℕ) (ds : List LogItem) (acts : List (ℕ × LogItem)) → map untold ds ≡ ds → AreToldPast seat n acts (by_seat id ds)
plain_past seat n id [] acts plain i d past rest is = absurd (no_act past rest (i, d) is)
plain_past seat n id (x ∷ ds) acts plain i d [] rest is =
    let here : x ≡ d = ap (λ (a : ℕ × LogItem). a.1) (same_act (id, x) (i, d) (by_seat id ds) rest is) in
    let none : None ≡ x.teller = ap (λ (a : LogItem). a.teller) (same_first (untold x) x (map untold ds) ds plain) in
    plain_told seat n (acts ++ []) d (ap (λ (a : LogItem). a.teller) (sym here) ∙ sym none)
plain_past seat n id (x ∷ ds) acts plain i d (y ∷ past) rest is =
    let one = plain_past seat n id ds (acts ++ y ∷ []) (same_rest (untold x) x (map untold ds) ds plain) i d past rest (same_acts (id, x) y (by_seat id ds) (past ++ (i, d) ∷ rest) is) in
    subst (λ (l : List (ℕ × LogItem)). IsToldBefore seat n l d) (append_assoc acts (y ∷ []) past) one

-- A Hear of a note whose teller has come so far

pub heard_past : (seat : ℕ → ℕ) (n id : ℕ) (by : Option ℕ) (h : Option Teller) (acts : List (ℕ × LogItem)) → HasComeIf seat n acts h → AreToldPast seat n acts (by_seat id (heard_from by h))
heard_past seat n id by h acts come i d [] rest is =
    let here : has_heard_from by h ≡ d = ap (λ (a : ℕ × LogItem). a.1) (same_act (id, has_heard_from by h) (i, d) [] rest is) in
    subst (IsToldBefore seat n (acts ++ [])) here (record { only = refl; before = subst (λ (l : List (ℕ × LogItem)). HasComeIf seat n l h) (sym (append-nil acts)) come })
heard_past seat n id by h acts come i d (y ∷ past) rest is =
    absurd (no_act past rest (i, d) (same_acts (id, has_heard_from by h) y [] (past ++ (i, d) ∷ rest) is))

-- What seats know of their own sections and of the keeper's log: what is done on other seats' part, and what is no enter, exit or hear, leaves it.

pub none_more : (is : Event → Bool) (a b : List LogItem) → HasNone is a → HasNone is b → HasNone is (a ++ b)
none_more is [] b first second = second
none_more is (d ∷ a) b first second = (first.0, none_more is a b first.1 second)

-- Where the items of a seat are

pub seat_in : (id : ℕ) (its : List LogItem) (past rest : List (ℕ × LogItem)) (x : ℕ × LogItem) → by_seat id its ≡ past ++ x ∷ rest → x.0 ≡ id
seat_in id [] past rest x is = absurd (no_act past rest x is)
seat_in id (d ∷ its) [] rest x is = sym (ap (λ (a : ℕ × LogItem). a.0) (same_act (id, d) x (by_seat id its) rest is))
seat_in id (d ∷ its) (y ∷ past) rest x is = seat_in id its past rest x (same_acts (id, d) y (by_seat id its) (past ++ x ∷ rest) is)

-- where a hear is among new items, the keeper's part before it is in what is known then
abbrev pub HearsWith : ℕ → List (ℕ × LogItem) → List LogItem → List LogItem → Type 0
HearsWith id acts its known = (d : LogItem) (past rest : List (ℕ × LogItem)) → by_seat id its ≡ past ++ (id, d) ∷ rest → is_hear d.event ≡ true → IsPrefix (part 0 (acts ++ past)) known

none_in : (id : ℕ) (its : List LogItem) (d : LogItem) (past rest : List (ℕ × LogItem)) → HasNone is_hear its → by_seat id its ≡ past ++ (id, d) ∷ rest → is_hear d.event ≡ false
none_in id [] d past rest none is = absurd (no_act past rest (id, d) is)
none_in id (x ∷ its) d [] rest none is = ap (λ (a : ℕ × LogItem). is_hear a.1.event) (sym (same_act (id, x) (id, d) (by_seat id its) rest is)) ∙ none.0
none_in id (x ∷ its) d (y ∷ past) rest none is = none_in id its d past rest none.1 (same_acts (id, x) y (by_seat id its) (past ++ (id, d) ∷ rest) is)

pub deaf_with : (id : ℕ) (acts : List (ℕ × LogItem)) (its known : List LogItem) → HasNone is_hear its → HearsWith id acts its known
deaf_with id acts its known none d past rest is hears = absurd (let q : true ≡ false = sym hears ∙ none_in id its d past rest none is in cc)

pub hear_with : (id : ℕ) (acts : List (ℕ × LogItem)) (by : Option ℕ) (h : Option Teller) → HearsWith id acts (heard_from by h) (part 0 acts)
hear_with id acts by h d [] rest is hears = ([], append-nil (part 0 (acts ++ [])) ∙ ap (part 0) (append-nil acts))
hear_with id acts by h d (y ∷ past) rest is hears = absurd (no_act past rest (id, d) (same_acts (id, has_heard_from by h) y [] (past ++ (id, d) ∷ rest) is))

-- What a seat knows as more is done

-- by the seat itself, which knows `known` then
pub heard_own : (id : ℕ) (l m : Logged) (acts : List (ℕ × LogItem)) (its : List LogItem) → HasHeardAll id l acts → IsPrefix l.known_log m.known_log → HearsWith id acts its m.known_log
    → HasHeardAll id m (acts ++ by_seat id its)
heard_own id l m acts its had up hears d first rest is hear = ⊎_elim
    (λ (p : (more : List (ℕ × LogItem)) × (acts ≡ first ++ (id, d) ∷ more)). prefix_both (part 0 first) l.known_log m.known_log (had d first p.0 p.1 hear) up)
    (λ (p : (past : List (ℕ × LogItem)) × (first ≡ acts ++ past) × (by_seat id its ≡ past ++ (id, d) ∷ rest)).
    subst (λ (a : List (ℕ × LogItem)). IsPrefix (part 0 a) m.known_log) (sym p.1) (hears d p.0 rest p.2 hear))
    (stands acts (by_seat id its) first rest (id, d) is)

-- by another one
pub heard_other : (id j : ℕ) (l : Logged) (acts : List (ℕ × LogItem)) (its : List LogItem) → j ≢ id → HasHeardAll j l acts → HasHeardAll j l (acts ++ by_seat id its)
heard_other id j l acts its off had d first rest is hear = ⊎_elim
    (λ (p : (more : List (ℕ × LogItem)) × (acts ≡ first ++ (j, d) ∷ more)). had d first p.0 p.1 hear)
    (λ (p : (past : List (ℕ × LogItem)) × (first ≡ acts ++ past) × (by_seat id its ≡ past ++ (j, d) ∷ rest)). absurd (off (seat_in id its p.0 rest (j, d) p.2)))
    (stands acts (by_seat id its) first rest (j, d) is)

-- one that did nothing
pub heard_none : (j : ℕ) (l : Logged) (acts : List (ℕ × LogItem)) → part j acts ≡ [] → HasHeardAll j l acts
heard_none j l acts none d first rest is hear = absurd (no_place (part j first) (part j rest) d
    (sym none ∙ (ap (part j) is ∙ (part_append j first ((j, d) ∷ rest) ∙ ap (λ (x : List LogItem). part j first ++ x) (part_same j (j, d) rest refl)))))

-- Sections

-- the seat was cut in two, or took another one in
pub sections_more : (id : ℕ) (l m : Logged) (ds : List LogItem) → m.log ≡ l.log ++ ds → m.list ≡ l.list → HasNone is_border ds → HasItsSections id l → HasItsSections id m
sections_more id l m ds log list none had = record {
  lacks = had.lacks ++ ds;
  are = log ∙ (ap (λ (x : List LogItem). x ++ ds) had.are ∙ (append_assoc (part id l.list) had.lacks ds ∙ ap (λ (x : List (ℕ × LogItem)). part id x ++ (had.lacks ++ ds)) (sym list)));
  none = none_more is_border had.lacks ds had.none none;
}

-- it stepped on a word
pub sections_whole : (id : ℕ) (m : Logged) → part id m.list ≡ m.log → HasItsSections id m
sections_whole id m own = record { lacks = []; are = sym own ∙ sym (append-nil (part id m.list)); none = tt }
