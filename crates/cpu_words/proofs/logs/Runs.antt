-- A run whose events were all made: what each seat did of it, how it is cut in two, and a walk over it.
use Rattle.std.proofs.Common.{◌≡◌, ◌≢◌, ℕ, ◌==◌, Bool, true, false, cond, List, [], ◌∷◌, ◌++◌, map, eq-eqb, ne_eqb, refl, sym, ap, ◌∙◌, suc, ◌≤◌, length, Option, Some, None, subst, append_assoc, arith, ⊎_elim}
use Rattle.std.proofs.lemmas.Bool.{cases_eq}
use Rattle.std.proofs.lemmas.List.{append-nil}
use Rattle.cpu_words.specs.Types.{Event, Reply}
use Rattle.protocol.specs.Common.{State, Outcome, step, state_after, Holds, Run, run_of_events, run_with_event, after, after_event}
use Rattle.protocol.proofs.keeps.Keeping.{step_holds}
use Rattle.protocol.proofs.runs.Steps.{after_more}
use Rattle.cpu_words.specs.Common.{LogItem, part, untold, events_of, Teller, by_number, reply_without_id, log_item, log_with, log_from, teller_if, AreToldBefore, maker, IsSeatOf, AreByOwn}

-- What each seat did, of what all seats did in order.

-- what the seat i did more
abbrev pub by_seat : ℕ → List LogItem → List (ℕ × LogItem)
by_seat i ds = map (λ (d : LogItem). (i, d)) ds

cond_append : (b : Bool) (d : LogItem) (x y : List LogItem) → cond b (d ∷ (x ++ y)) (x ++ y) ≡ cond b (d ∷ x) x ++ y
cond_append true d x y = refl
cond_append false d x y = refl

pub part_append : (i : ℕ) (a b : List (ℕ × LogItem)) → part i (a ++ b) ≡ part i a ++ part i b
part_append i [] b = refl
part_append i (x ∷ xs) b = ap (λ (l : List LogItem). cond (x.0 == i) (x.1 ∷ l) l) (part_append i xs b) ∙ cond_append (x.0 == i) x.1 (part i xs) (part i b)

pub part_own : (i : ℕ) (ds : List LogItem) → part i (by_seat i ds) ≡ ds
part_own i [] = refl
part_own i (d ∷ ds) = ap (λ (b : Bool). cond b (d ∷ part i (by_seat i ds)) (part i (by_seat i ds))) (eq-eqb i i refl) ∙ ap (λ (l : List LogItem). d ∷ l) (part_own i ds)

pub part_other : (i j : ℕ) (ds : List LogItem) → j ≢ i → part j (by_seat i ds) ≡ []
part_other i j [] ne = refl
part_other i j (d ∷ ds) ne = ap (λ (b : Bool). cond b (d ∷ part j (by_seat i ds)) (part j (by_seat i ds))) (ne_eqb i j (λ same. ne (sym same))) ∙ part_other i j ds ne

pub events_of_seat : (i : ℕ) (ds : List LogItem) → events_of (by_seat i ds) ≡ map untold ds
events_of_seat i [] = refl
events_of_seat i (d ∷ ds) = ap (λ (l : List LogItem). untold d ∷ l) (events_of_seat i ds)

-- A run whose events were all made, each beside the act that it is: how it is cut in two, and what its state is.

-- an event as its seat knows it; where it heard a note, h told that
abbrev pub item_as : Event → Reply → Option Teller → LogItem
item_as e r h = record { event = e; reply = reply_without_id r; teller = teller_if e h }

-- an event that is made in the state s
abbrev pub item_of : State → Event → Reply → Option Teller → LogItem
item_of s e r h = item_as (by_number s e) r h

-- from s the events lead to t, each made, and each is its act's
abbrev pub Follows : State → List (ℕ × LogItem) → List Event → State → Type 0
Follows s [] [] t = t ≡ s
Follows s [] (e ∷ es) t = ⊥
Follows s (a ∷ more) [] t = ⊥
Follows s (a ∷ more) (e ∷ es) t = (o : Outcome) × (step s e ≡ Some o) × (a.1 ≡ item_of s e o.reply a.1.teller) × Follows o.state more es t

abbrev first_of : LogItem → List LogItem → LogItem
first_of d [] = d
first_of d (x ∷ xs) = x

abbrev rest_of : List LogItem → List LogItem
rest_of [] = []
rest_of (x ∷ xs) = xs

pub same_first : (x y : LogItem) (xs ys : List LogItem) → x ∷ xs ≡ y ∷ ys → x ≡ y
same_first x y xs ys same = ap (first_of x) same

pub same_rest : (x y : LogItem) (xs ys : List LogItem) → x ∷ xs ≡ y ∷ ys → xs ≡ ys
same_rest x y xs ys same = ap rest_of same

-- What was done, where all was made

few_noted : (s : State) (e : Event) (o : Option Outcome) (ds : List LogItem) (n : ℕ) → length ds ≤ n → length (log_with s e o ds) ≤ suc n
few_noted s e None ds n le = omega arith
few_noted s e (Some o) ds n le = omega arith

few : (r : Run) (es : List Event) → length (log_from r es) ≤ length es
few r [] = omega arith
few r (e ∷ es) = few_noted r.state e (step r.state e) (log_from (run_with_event r (step r.state e)) es) (length es) (few (run_with_event r (step r.state e)) es)

-- only a Hear of the keeper's has a teller
abbrev pub NamesTellers : List (ℕ × LogItem) → Type 0
NamesTellers [] = Unit {0}
NamesTellers (a ∷ more) = (a.1.teller ≡ teller_if a.1.event a.1.teller) × NamesTellers more

pub names_tellers : (seat : ℕ → ℕ) (n : ℕ) (first acts : List (ℕ × LogItem)) → AreToldBefore seat n (first ++ acts) → NamesTellers acts
names_tellers seat n first [] told = tt
names_tellers seat n first (a ∷ more) told = (
  (told a.0 a.1 first more refl).only,
  names_tellers seat n (first ++ a ∷ []) more (subst (AreToldBefore seat n) (sym (append_assoc first (a ∷ []) more)) told),
)

-- the item is that of the event, with its own teller
named : (s : State) (e : Event) (r : Reply) (d : LogItem) → untold d ≡ log_item (by_number s e) (reply_without_id r) → d.teller ≡ teller_if d.event d.teller → d ≡ item_of s e r d.teller
named s e r d is only =
    let event : d.event ≡ by_number s e = ap (λ (x : LogItem). x.event) is in
    λ k. record { event = event k; reply = (ap (λ (x : LogItem). x.reply) is) k; teller = (only ∙ ap (λ (f : Event). teller_if f d.teller) event) k }

follow : (r : Run) (acts : List (ℕ × LogItem)) (e : Event) (es : List Event) (o : Option Outcome) → NamesTellers acts → step r.state e ≡ o
    → events_of acts ≡ log_with r.state e o (log_from (run_with_event r o) es) → length (log_with r.state e o (log_from (run_with_event r o) es)) ≡ suc (length es)
    → ((more : List (ℕ × LogItem)) → NamesTellers more → events_of more ≡ log_from (run_with_event r o) es → length (log_from (run_with_event r o) es) ≡ length es
    → Follows (run_with_event r o).state more es (run_of_events (run_with_event r o) es).state)
    → Follows r.state acts (e ∷ es) (run_of_events (run_with_event r o) es).state
follow r acts e es None names is are all on = absurd (let le = few (run_with_event r None) es in omega (arith, le, all))
follow r [] e es (Some o) names is are all on = absurd (let size : 0 ≡ suc (length (log_from (run_with_event r (Some o)) es)) = ap (λ (l : List LogItem). length l) are in omega arith)
follow r (a ∷ more) e es (Some o) names is are all on =
    let d : LogItem = log_item (by_number r.state e) (reply_without_id o.reply) in
    let rest : List LogItem = log_from (run_with_event r (Some o)) es in (
      o,
      is,
      named r.state e o.reply a.1 (same_first (untold a.1) d (events_of more) rest are) names.0,
      on more names.1 (same_rest (untold a.1) d (events_of more) rest are) (omega arith),
    )

follows_named : (r : Run) (acts : List (ℕ × LogItem)) (es : List Event) → NamesTellers acts → events_of acts ≡ log_from r es → length (log_from r es) ≡ length es
    → Follows r.state acts es (run_of_events r es).state
follows_named r [] [] names are all = refl
follows_named r (a ∷ more) [] names are all = absurd (let size : suc (length (events_of more)) ≡ 0 = ap (λ (l : List LogItem). length l) are in omega arith)
follows_named r acts (e ∷ es) names are all = follow r acts e es (step r.state e) names refl are all (λ more named same size. follows_named (run_with_event r (step r.state e)) more es named same size)

pub follows : (seat : ℕ → ℕ) (n : ℕ) (r : Run) (acts : List (ℕ × LogItem)) (es : List Event) → AreToldBefore seat n acts → events_of acts ≡ log_from r es → length (log_from r es) ≡ length es
    → Follows r.state acts es (run_of_events r es).state
follows seat n r acts es told are all = follows_named r acts es (names_tellers seat n [] acts told) are all

-- What it leads to

pub follows_after : (s : State) (acts : List (ℕ × LogItem)) (es : List Event) (t : State) → Follows s acts es t → t ≡ after s es
follows_after s [] [] t is = is
follows_after s [] (e ∷ es) t on = absurd on
follows_after s (a ∷ more) [] t on = absurd on
follows_after s (a ∷ more) (e ∷ es) t on =
    follows_after on.0.state more es t on.3 ∙ sym (after_more s e es ∙ ap (λ (o : Option Outcome). after (state_after s o) es) on.1)

pub follows_holds : (s : State) (acts : List (ℕ × LogItem)) (es : List Event) (t : State) → Follows s acts es t → Holds s → Holds t
follows_holds s [] [] t is holds = subst Holds (sym is) holds
follows_holds s [] (e ∷ es) t on holds = absurd on
follows_holds s (a ∷ more) [] t on holds = absurd on
follows_holds s (a ∷ more) (e ∷ es) t on holds = follows_holds on.0.state more es t on.3 (step_holds s on.0.state e on.0.reply holds on.1)

pub after_append : (s : State) (a b : List Event) → after s (a ++ b) ≡ after (after s a) b
after_append s [] b = refl
after_append s (e ∷ a) b = after_more s e (a ++ b) ∙ (after_append (after_event s e) a b ∙ ap (λ (t : State). after t b) (sym (after_more s e a)))

-- A run cut in two

pub record Cut (s : State) (first second : List (ℕ × LogItem)) (es : List Event) (t : State) : Type 0 where
  pub earlier : List Event
  pub later : List Event
  pub between : State
  pub are : es ≡ earlier ++ later
  pub size : length earlier ≡ length first
  pub before : Follows s first earlier between
  pub since : Follows between second later t

pub cut : (s : State) (first second : List (ℕ × LogItem)) (es : List Event) (t : State) → Follows s (first ++ second) es t → Cut s first second es t
cut s [] second es t on = record { earlier = []; later = es; between = s; are = refl; size = refl; before = refl; since = on }
cut s (a ∷ more) second [] t on = absurd on
cut s (a ∷ more) second (e ∷ es) t on =
    let p = cut on.0.state more second es t on.3 in record {
      earlier = e ∷ p.earlier;
      later = p.later;
      between = p.between;
      are = ap (λ (l : List Event). e ∷ l) p.are;
      size = ap suc p.size;
      before = (on.0, on.1, on.2, p.before);
      since = p.since;
    }

-- A walk over a run: what is so of the keeper's log and of the state at the start, and stays so by each event, is so at the end.

-- it stays so by each event: the keeper's log goes on with one of its own, and no other is the keeper's
pub record Stays (seat : ℕ → ℕ) (n : ℕ) (P : List LogItem → State → Type 0) : Type 0 where
  pub own : (log : List LogItem) (s : State) (e : Event) (o : Outcome) (h : Option Teller) → Holds s → step s e ≡ Some o → P log s → P (log ++ item_of s e o.reply h ∷ []) o.state
  pub off : (i : ℕ) (log : List LogItem) (s : State) (e : Event) (o : Outcome) → IsSeatOf seat n i (maker (by_number s e)) → i ≢ 0 → Holds s → step s e ≡ Some o → P log s → P log o.state

pub walked : (seat : ℕ → ℕ) (n : ℕ) (P : List LogItem → State → Type 0) (log : List LogItem) (s : State) (acts : List (ℕ × LogItem)) (es : List Event) (t : State)
    → Stays seat n P → Follows s acts es t → Holds s → AreByOwn seat n acts → P log s → P (log ++ part 0 acts) t
walked seat n P log s [] [] t stays is on own so = subst (P (log ++ [])) (sym is) (subst (λ (l : List LogItem). P l s) (sym (append-nil log)) so)
walked seat n P log s [] (e ∷ es) t stays run on own so = absurd run
walked seat n P log s (a ∷ more) [] t stays run on own so = absurd run
walked seat n P log s (a ∷ more) (e ∷ es) t stays run on own so =
    let o = run.0 in
    let holds : Holds o.state = step_holds s o.state e o.reply on run.1 in
    ⊎_elim
    (λ (same : a.0 ≡ 0).
    let next : P (log ++ a.1 ∷ []) o.state = subst (λ (d : LogItem). P (log ++ d ∷ []) o.state) (sym run.2) (stays.own log s e o a.1.teller on run.1 so) in
    let whole : (log ++ a.1 ∷ []) ++ part 0 more ≡ log ++ part 0 (a ∷ more) =
    append_assoc log (a.1 ∷ []) (part 0 more) ∙ sym (ap (λ (b : Bool). log ++ cond b (a.1 ∷ part 0 more) (part 0 more)) (eq-eqb a.0 0 same)) in
    subst (λ (l : List LogItem). P l t) whole (walked seat n P (log ++ a.1 ∷ []) o.state more es t stays run.3 holds own.1 next))
    (λ (off : a.0 ≢ 0).
    let next : P log o.state = stays.off a.0 log s e o (subst (λ (d : LogItem). IsSeatOf seat n a.0 (maker d.event)) run.2 own.0) off on run.1 so in
    let whole : log ++ part 0 more ≡ log ++ part 0 (a ∷ more) = sym (ap (λ (b : Bool). log ++ cond b (a.1 ∷ part 0 more) (part 0 more)) (ne_eqb a.0 0 off)) in
    subst (λ (l : List LogItem). P l t) whole (walked seat n P log o.state more es t stays run.3 holds own.1 next))
    (cases_eq a.0 0)
