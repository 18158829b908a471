-- What items of a run do to the section of a CPU, what one that loads a section word tells, and how many changes there were.
use Rattle.std.proofs.Common.{◌≡◌, ◌≢◌, ⊎_elim, ℕ, ◌+◌, ◌≤◌, Bool, cond, IsTrue, List, [], ◌∷◌, length, Some, eq-eqb, ne_eqb, refl, sym, ap, ◌∙◌, subst, arith, ◌⊎◌, inl, inr, suc, ◌*◌, ◌==◌, ◌&&◌, true, false, nat_lt, ◌++◌, set, get_or, Option, None, length-append, get_or-set_same, get_or-set_other, ◌<◌}
use Rattle.std.proofs.lemmas.Bool.{cases_eq, and_parts}
use Rattle.std.proofs.lemmas.List.{length-map}
use Rattle.std.proofs.lemmas.Option.{none-some, same_Some}
use Rattle.atomic_table.specs.Table.{State as Table}
use Rattle.cpu_words.specs.Types.{Settings, Attach, Detach, Replace, Event, Publish, Unpublish, Republish, Reply, LoadRecord, Snapshot, Look, JoinRef, JoinKeeper, Keep, Word, Ref, Enter, Exit}
use Rattle.registry_values.specs.Common.{are_fit}
use Rattle.protocol.specs.Common.{State, opening, Outcome, step, Holds, empty_run, after, section_at, begin_at, guard, some_outcome, is_idle, is_outside, is_inside, may_glance, may_enter, may_exit, after_enter, after_exit}
use Rattle.protocol.proofs.Made.{Made, Publishes, Unpublishes, Republishes, made, Enters, Exits}
use Rattle.protocol.proofs.History.{length-after_change}
use Rattle.protocol.proofs.keeps.Keeping.{step_holds}
use Rattle.protocol.proofs.Either.{either}
use Rattle.protocol.proofs.keeps.SectionKeeps.{idle_parts}
use Rattle.protocol.proofs.runs.Headline.{Same}
use Rattle.cpu_words.specs.Common.{LogItem, Logged, by_number, log_of_events, changes_of, changes_in, part, untold, maker, IsSeatOf, AreByOwn, LoggedRuled, RunsAsLogged, reply_without_id, has_taken, has_found, HasNone, is_border, the_cpu}
use Rattle.cpu_words.proofs.logs.Runs.{Follows, follows, item_of, same_first, same_rest}
use Rattle.protocol.specs.History.{rank_at}

-- How many changes the keeper's log says there were: as many as the history has.

-- One event

-- it adds so many changes
made_grows : (s t : State) (e : Event) (r : Reply) → Made s e t r → length t.history ≡ changes_of e (length s.history)
made_grows s _ _ _ (Publishes t e of may) = length-after_change s.history (Attach e)
made_grows s _ _ _ (Unpublishes t head next e at rest is) = length-after_change s.history (Detach e.number)
made_grows s _ _ _ (Republishes t u head next e f of at may is) = length-after_change s.history (Replace f.number (rank_at s.history f.number) e)
made_grows s _ _ _ _ = refl

pub step_grows : (s : State) (e : Event) (o : Outcome) → step s e ≡ Some o → length o.state.history ≡ changes_of e (length s.history)
step_grows s e o is = made_grows s o.state e o.reply (made s e o is)

pub changes_up : (e : Event) (n : ℕ) → n ≤ changes_of e n
changes_up (Publish t) n = omega arith
changes_up e n = omega arith

-- A run

pub unnamed_changes : (s : State) (e : Event) (n : ℕ) → changes_of (by_number s e) n ≡ changes_of e n
unnamed_changes s (Publish t) n = refl
unnamed_changes s e n = refl

pub moves_past : (e : Event) (a b : ℕ) → changes_of e a + b ≡ a + changes_of e b
moves_past (Publish t) a b = omega arith
moves_past (Unpublish t) a b = omega arith
moves_past (Republish t u) a b = omega arith
moves_past e a b = refl

changes_off : (seat : ℕ → ℕ) (n i : ℕ) (e : Event) (m : ℕ) → IsSeatOf seat n i (maker e) → i ≢ 0 → changes_of e m ≡ m
changes_off seat n i (Publish t) m is off = absurd (off is)
changes_off seat n i (Unpublish t) m is off = absurd (off is)
changes_off seat n i (Republish t u) m is off = absurd (off is)
changes_off seat n i e m is off = refl

-- the keeper's part of the acts has all the changes
pub counted : (seat : ℕ → ℕ) (n : ℕ) (s : State) (acts : List (ℕ × LogItem)) (es : List Event) (t : State) → Follows s acts es t → Holds s → AreByOwn seat n acts
    → length t.history ≡ changes_in (part 0 acts) + length s.history
counted seat n s [] [] t is holds own = let size : length t.history ≡ length s.history = ap (λ (g : State). length g.history) is in omega arith
counted seat n s [] (e ∷ es) t on holds own = absurd on
counted seat n s (a ∷ more) [] t on holds own = absurd on
counted seat n s (a ∷ more) (e ∷ es) t on holds own =
    let o = on.0 in
    let rest = counted seat n o.state more es t on.3 (step_holds s o.state e o.reply holds on.1) own.1 in
    let grows = step_grows s e o on.1 in
    let c = changes_in (part 0 more) in
    let here : c + length o.state.history ≡ changes_of a.1.event c + length s.history =
    ap (λ n. c + n) grows ∙ (sym (moves_past e c (length s.history)) ∙ (λ k. (sym (unnamed_changes s e c) ∙ ap (λ (d : LogItem). changes_of d.event c) (sym on.2)) k + length s.history)) in
    ⊎_elim
    (λ (same : a.0 ≡ 0). rest ∙ (here ∙ sym (ap (λ (b : Bool). changes_in (cond b (a.1 ∷ part 0 more) (part 0 more)) + length s.history) (eq-eqb a.0 0 same))))
    (λ (off : a.0 ≢ 0). rest ∙ (here ∙ ((λ k. changes_off seat n a.0 a.1.event c own.0 off k + length s.history)
    ∙ sym (ap (λ (b : Bool). changes_in (cond b (a.1 ∷ part 0 more) (part 0 more)) + length s.history) (ne_eqb a.0 0 off)))))
    (cases_eq a.0 0)

-- the run of a table under the rule
pub run_of : (z : Settings) (s : Table ℕ Logged) (r : LoggedRuled z s) → Follows (opening z) r.acts r.run.reached.events (after (opening z) r.run.reached.events)
run_of z s r = follows r.run.seat r.run.g.seated (empty_run (opening z)) r.acts r.run.reached.events r.told r.are r.run.reached.made

pub fit_of : (z : Settings) (s : Table ℕ Logged) (r : LoggedRuled z s) → IsTrue (are_fit z)
fit_of z s r = subst (λ (a : Settings). IsTrue (are_fit a)) r.run.settings r.run.good.holds.fit

pub run_as_logged : (z : Settings) (s : Table ℕ Logged) (r : RunsAsLogged z s) → Follows (opening z) r.acts r.run.events (after (opening z) r.run.events)
run_as_logged z s r =
    let made : length (log_of_events z r.run.events) ≡ length r.run.events = sym (ap (λ (d : List LogItem). length d) r.are) ∙ (length-map r.acts (λ (a : ℕ × LogItem). untold a.1) ∙ r.all) in
    follows r.run.seat (after (opening z) r.run.events).seated (empty_run (opening z)) r.acts r.run.events r.told r.are made

-- What a run does to the section of each CPU that an item of a seat is in, and what an item that loads a section word tells of the state.

-- What an event does to the section of a CPU

-- an open section of c began at n or later
abbrev pub Late : ℕ → ℕ → State → Type 0
Late n c t = (b : ℕ) → begin_at t c ≡ Some b → n ≤ b

-- its word went up or stayed, and its section is as it was, or began since s
abbrev pub Since : ℕ → State → State → Type 0
Since c s t = (section_at s c ≤ section_at t c) × (Same c s t ⊎ Late (length s.history) c t)

pub since_same : (c : ℕ) (s t : State) → Same c s t → Since c s t
since_same c s t same = (omega (arith, same.0), inl same)

-- a section of j begins or ends: its word is one more, and the begin that it has then isn't before s
moved_since : (c j : ℕ) (s n : State) (x : Option ℕ) → Holds s → is_idle s j ≡ true → n.section ≡ set s.section j (section_at s j + 1) → n.begins ≡ set s.begins j x
    → ((b : ℕ) → x ≡ Some b → length s.history ≤ b) → Since c s n
moved_since c j s n x on is words begins late =
    let idle = idle_parts s j is in
    let word = ap (λ (xs : List ℕ). get_or xs c 0) words in
    let begin = ap (λ (xs : List (Option ℕ)). get_or xs c None) begins in
    either (cases_eq c j)
    (λ same.
    let here = ap (λ (d : ℕ). get_or (set s.section j (section_at s j + 1)) d 0) same ∙ get_or-set_same s.section j (section_at s j + 1) 0 (omega (arith, idle.0, on.seats.within, on.shape.sections)) in
    let began = ap (λ (d : ℕ). get_or (set s.begins j x) d None) same ∙ get_or-set_same s.begins j x None (omega (arith, idle.0, on.seats.within, on.shape.begins)) in
    (omega (arith, word, here, ap (section_at s) same), inr (λ b at. late b (sym (begin ∙ began) ∙ at))))
    (λ off. since_same c s n (word ∙ get_or-set_other s.section j c (section_at s j + 1) 0 off, begin ∙ get_or-set_other s.begins j c x None off))

made_since : (c : ℕ) (s n : State) (e : Event) (r : Reply) → Holds s → Made s e n r → Since c s n
made_since c s n _ _ on (Enters j may) = moved_since c j s n (Some (length s.history)) on
    (and_parts (is_idle s j) (is_outside s j && nat_lt (section_at s j) (2 * s.settings.section_limit)) may).0 refl refl (λ b is. let same = same_Some (length s.history) b is in omega (arith, same))
made_since c s n _ _ on (Exits j may) =
    moved_since c j s n None on (and_parts (is_idle s j) (is_inside s j && (get_or s.depths j 0 == 1)) may).0 refl refl (λ b is. absurd (none-some b is))
made_since c s n _ _ on _ = since_same c s s (refl, refl)

-- what was so of an open section stays
pub late_on : (n c : ℕ) (s t : State) → n ≤ length s.history → Late n c s → Same c s t ⊎ Late (length s.history) c t → Late n c t
late_on n c s t le late since b is = ⊎_elim
    (λ (same : Same c s t). late b (sym same.1 ∙ is))
    (λ (new : Late (length s.history) c t). let h = new b is in omega (arith, le, h))
    since

pub since_on : (c : ℕ) (s m t : State) → length s.history ≤ length m.history → Since c s m → Since c m t → Since c s t
since_on c s m t le first second = (
  let a = first.0 in let b = second.0 in omega arith,
  ⊎_elim
      (λ (same : Same c s m). ⊎_elim
      (λ (also : Same c m t). inl (also.0 ∙ same.0, also.1 ∙ same.1))
      (λ (late : Late (length m.history) c t). inr (λ b is. let h = late b is in omega (arith, le, h)))
      second.1)
      (λ (late : Late (length s.history) c m). inr (late_on (length s.history) c m t le late second.1))
      first.1,
)

-- a run
pub run_since : (c : ℕ) (s : State) (acts : List (ℕ × LogItem)) (es : List Event) (t : State) → Follows s acts es t → Holds s → Since c s t × (length s.history ≤ length t.history)
run_since c s [] [] t is on = (
  since_same c s t (ap (λ (g : State). section_at g c) is, ap (λ (g : State). begin_at g c) is),
  let n : length t.history ≡ length s.history = ap (λ (g : State). length g.history) is in omega arith,
)
run_since c s [] (e ∷ es) t run on = absurd run
run_since c s (a ∷ more) [] t run on = absurd run
run_since c s (a ∷ more) (e ∷ es) t run on =
    let o = run.0 in
    let grows = step_grows s e o run.1 in
    let up = changes_up e (length s.history) in
    let rest = run_since c o.state more es t run.3 (step_holds s o.state e o.reply on run.1) in
    let le' = rest.1 in
    (since_on c s o.state t (omega arith) (made_since c s o.state e o.reply on (made s e o run.1)) rest.0, omega arith)

-- Where an item of a seat stands among all acts

pub record Placed (i : ℕ) (acts : List (ℕ × LogItem)) (d : LogItem) (later : List LogItem) : Type 0 where
  pub first : List (ℕ × LogItem)
  pub second : List (ℕ × LogItem)
  pub are : acts ≡ first ++ (i, d) ∷ second
  pub rest : part i second ≡ later

pub no_place : (a b : List LogItem) (d : LogItem) → [] ≡ a ++ d ∷ b → ⊥
no_place a b d is = let size : 0 ≡ length (a ++ d ∷ b) = ap (λ (l : List LogItem). length l) is in omega (arith, size, length-append a (d ∷ b))

pub part_same : (i : ℕ) (x : ℕ × LogItem) (more : List (ℕ × LogItem)) → x.0 ≡ i → part i (x ∷ more) ≡ x.1 ∷ part i more
part_same i x more same = ap (λ (b : Bool). cond b (x.1 ∷ part i more) (part i more)) (eq-eqb x.0 i same)

pub part_off : (i : ℕ) (x : ℕ × LogItem) (more : List (ℕ × LogItem)) → x.0 ≢ i → part i (x ∷ more) ≡ part i more
part_off i x more off = ap (λ (b : Bool). cond b (x.1 ∷ part i more) (part i more)) (ne_eqb x.0 i off)

pub one_more : (i : ℕ) (x : ℕ × LogItem) (more : List (ℕ × LogItem)) (d : LogItem) (later : List LogItem) → Placed i more d later → Placed i (x ∷ more) d later
one_more i x more d later p = record { first = x ∷ p.first; second = p.second; are = ap (λ (l : List (ℕ × LogItem)). x ∷ l) p.are; rest = p.rest }

pub place_here : (i : ℕ) (x : ℕ × LogItem) (more : List (ℕ × LogItem)) (a b : List LogItem) (d : LogItem) → x.0 ≡ i → x.1 ∷ part i more ≡ a ++ d ∷ b
    → ((y : LogItem) (c : List LogItem) → part i more ≡ c ++ d ∷ b → Placed i more d b) → Placed i (x ∷ more) d b
place_here i x more [] b d same is go = record {
  first = [];
  second = more;
  are = ap (λ (y : ℕ × LogItem). y ∷ more) (λ k. (same k, same_first x.1 d (part i more) b is k));
  rest = same_rest x.1 d (part i more) b is;
}
place_here i x more (y ∷ c) b d same is go = one_more i x more d b (go y c (same_rest x.1 y (part i more) (c ++ d ∷ b) is))

pub place : (i : ℕ) (acts : List (ℕ × LogItem)) (a b : List LogItem) (d : LogItem) → part i acts ≡ a ++ d ∷ b → Placed i acts d b
place i [] a b d is = absurd (no_place a b d is)
place i (x ∷ more) a b d is = ⊎_elim
    (λ (same : x.0 ≡ i). place_here i x more a b d same (sym (part_same i x more same) ∙ is) (λ y c rest. place i more c b d rest))
    (λ (off : x.0 ≢ i). one_more i x more d b (place i more a b d (sym (part_off i x more off) ∙ is)))
    (cases_eq x.0 i)

pub record Halved (i : ℕ) (acts : List (ℕ × LogItem)) (a b : List LogItem) : Type 0 where
  pub first : List (ℕ × LogItem)
  pub second : List (ℕ × LogItem)
  pub are : acts ≡ first ++ second
  pub mine : part i first ≡ a
  pub rest : part i second ≡ b

pub halve_on : (i : ℕ) (x : ℕ × LogItem) (more : List (ℕ × LogItem)) (d : LogItem) (a b : List LogItem) → x.0 ≡ i → x.1 ≡ d → Halved i more a b → Halved i (x ∷ more) (d ∷ a) b
halve_on i x more d a b same is p = record {
  first = x ∷ p.first;
  second = p.second;
  are = ap (λ (l : List (ℕ × LogItem)). x ∷ l) p.are;
  mine = part_same i x p.first same ∙ (λ k. is k ∷ p.mine k);
  rest = p.rest;
}

pub halve_past : (i : ℕ) (x : ℕ × LogItem) (more : List (ℕ × LogItem)) (a b : List LogItem) → x.0 ≢ i → Halved i more a b → Halved i (x ∷ more) a b
halve_past i x more a b off p = record { first = x ∷ p.first; second = p.second; are = ap (λ (l : List (ℕ × LogItem)). x ∷ l) p.are; mine = part_off i x p.first off ∙ p.mine; rest = p.rest }

-- the acts until the seat had done just a
pub halve : (i : ℕ) (acts : List (ℕ × LogItem)) (a b : List LogItem) → part i acts ≡ a ++ b → Halved i acts a b
halve i acts [] b is = record { first = []; second = acts; are = refl; mine = refl; rest = is }
halve i [] (d ∷ a) b is = absurd (let size : 0 ≡ suc (length (a ++ b)) = ap (λ (l : List LogItem). length l) is in omega arith)
halve i (x ∷ more) (d ∷ a) b is = ⊎_elim
    (λ (same : x.0 ≡ i). let both = sym (part_same i x more same) ∙ is in
    halve_on i x more d a b same (same_first x.1 d (part i more) (a ++ b) both) (halve i more a b (same_rest x.1 d (part i more) (a ++ b) both)))
    (λ (off : x.0 ≢ i). halve_past i x more (d ∷ a) b off (halve i more (d ∷ a) b (sym (part_off i x more off) ∙ is)))
    (cases_eq x.0 i)

-- What an item that loads a section word tells of the state

-- the event has no id
abbrev pub is_whole : Event → Bool
is_whole (JoinRef c id) = false
is_whole (JoinKeeper id) = false
is_whole (Keep t id) = false
is_whole (LoadRecord of) = false
is_whole e = true

pub same_event : (s : State) (e f : Event) → f ≡ by_number s e → is_whole f ≡ true → f ≡ e
same_event s (JoinRef c id) f is whole = absurd (let q : true ≡ false = sym whole ∙ ap is_whole is in cc)
same_event s (JoinKeeper id) f is whole = absurd (let q : true ≡ false = sym whole ∙ ap is_whole is in cc)
same_event s (Keep t id) f is whole = absurd (let q : true ≡ false = sym whole ∙ ap is_whole is in cc)
same_event s (LoadRecord of) f is whole = absurd (let q : true ≡ false = sym whole ∙ ap is_whole is in cc)
same_event s e f is whole = is

abbrev pub word_of : Reply → ℕ
word_of (Word w) = w
word_of r = 0

abbrev pub is_word : Reply → Bool
is_word (Word w) = true
is_word r = false

pub replied_word : (r : Reply) (w : ℕ) → Word w ≡ reply_without_id r → w ≡ word_of r
replied_word (Ref id) w is = absurd (let q : true ≡ false = ap is_word is in cc)
replied_word r w is = ap word_of is

pub loaded : (b : Bool) (s : State) (w : ℕ) (o : Outcome) → guard b (some_outcome s (Word w)) ≡ Some o → (o.state ≡ s) × (word_of o.reply ≡ w)
loaded true s w o is = let same = sym (same_Some _ o is) in (ap (λ (p : Outcome). p.state) same, ap (λ (p : Outcome). word_of p.reply) same)
loaded false s w o is = absurd (none-some o is)

-- the state stays, and its word of c is the one found
pub word_taken : (s : State) (e : Event) (o : Outcome) (c w : ℕ) → step s e ≡ Some o → has_taken c w ≡ item_of s e o.reply None → (o.state ≡ s) × (section_at s c ≡ w)
word_taken s e o c w made is =
    let p = loaded (may_glance s c) s (section_at s c) o (ap (step s) (same_event s e (Snapshot None c) (ap (λ (d : LogItem). d.event) is) refl) ∙ made) in
    (p.0, sym (replied_word o.reply w (ap (λ (d : LogItem). d.reply) is) ∙ p.1))

pub word_found : (s : State) (e : Event) (o : Outcome) (c w : ℕ) → step s e ≡ Some o → has_found c w ≡ item_of s e o.reply None → (o.state ≡ s) × (section_at s c ≡ w)
word_found s e o c w made is =
    let p = loaded (may_glance s c) s (section_at s c) o (ap (step s) (same_event s e (Look None c) (ap (λ (d : LogItem). d.event) is) refl) ∙ made) in
    (p.0, sym (replied_word o.reply w (ap (λ (d : LogItem). d.reply) is) ∙ p.1))

-- A run that begins with such an item

pub starts_taken : (s : State) (c w : ℕ) (more : List (ℕ × LogItem)) (es : List Event) (t : State) → Follows s ((0, has_taken c w) ∷ more) es t → section_at s c ≡ w
starts_taken s c w more [] t run = absurd run
starts_taken s c w more (e ∷ es) t run = (word_taken s e run.0 c w run.1 run.2).1

pub starts_found : (s : State) (c w : ℕ) (more : List (ℕ × LogItem)) (es : List Event) (t : State) → Follows s ((0, has_found c w) ∷ more) es t → section_at s c ≡ w
starts_found s c w more [] t run = absurd run
starts_found s c w more (e ∷ es) t run = (word_found s e run.0 c w run.1 run.2).1

-- Whether a CPU is inside a section, by what its seat did: its last enter or exit decides.

abbrev pub is_open : Option ℕ → Bool
is_open None = false
is_open (Some b) = true

abbrev pub inside_after : Event → Bool → Bool
inside_after (Enter c) b = true
inside_after (Exit c) b = false
inside_after e b = b

abbrev pub inside_by : Bool → List LogItem → Bool
inside_by b [] = b
inside_by b (d ∷ ds) = inside_by (inside_after d.event b) ds

-- what is no enter and no exit leaves it

left_after : (e : Event) (b : Bool) → is_border e ≡ false → inside_after e b ≡ b
left_after (Enter c) b is = absurd (let q : true ≡ false = is in cc)
left_after (Exit c) b is = absurd (let q : true ≡ false = is in cc)
left_after e b is = refl

pub inside_still : (b : Bool) (ds : List LogItem) → HasNone is_border ds → inside_by b ds ≡ b
inside_still b [] none = refl
inside_still b (d ∷ ds) none = ap (λ (a : Bool). inside_by a ds) (left_after d.event b none.0) ∙ inside_still b ds none.1

-- One event

-- the CPU's own enter and exit

entered : (s : State) (c : ℕ) → Holds s → may_enter s c ≡ true → is_open (begin_at (after_enter s c) c) ≡ true
entered s c on may =
    let idle = idle_parts s c (and_parts (is_idle s c) (is_outside s c && nat_lt (section_at s c) (2 * s.settings.section_limit)) may).0 in
    ap is_open (get_or-set_same s.begins c (Some (length s.history)) None (omega (arith, idle.0, on.seats.within, on.shape.begins)))

exited : (s : State) (c : ℕ) → Holds s → may_exit s c ≡ true → is_open (begin_at (after_exit s c) c) ≡ false
exited s c on may =
    let idle = idle_parts s c (and_parts (is_idle s c) (is_inside s c && (get_or s.depths c 0 == 1)) may).0 in
    ap is_open (get_or-set_same s.begins c None None (omega (arith, idle.0, on.seats.within, on.shape.begins)))

-- an event of the CPU's own seat, and one of another seat

own : (s n : State) (c : ℕ) (e : Event) (r : Reply) → Holds s → ((d : ℕ) → maker (by_number s e) ≡ the_cpu d → d ≡ c) → Made s e n r
    → is_open (begin_at n c) ≡ inside_after e (is_open (begin_at s c))
own s n c _ _ on only (Enters d may) = subst (λ (x : ℕ). is_open (begin_at n x) ≡ true) (only d refl) (entered s d on may)
own s n c _ _ on only (Exits d may) = subst (λ (x : ℕ). is_open (begin_at n x) ≡ false) (only d refl) (exited s d on may)
own s n c _ _ on only _ = refl

other : (s n : State) (c : ℕ) (e : Event) (r : Reply) → (maker (by_number s e) ≡ the_cpu c → ⊥) → Made s e n r → begin_at n c ≡ begin_at s c
other s n c _ _ off (Enters d may) = get_or-set_other s.begins d c _ None (λ same. off (ap the_cpu (sym same)))
other s n c _ _ off (Exits d may) = get_or-set_other s.begins d c _ None (λ same. off (ap the_cpu (sym same)))
other s n c _ _ off _ = refl

-- A run

unnamed : (s : State) (e : Event) (b : Bool) → inside_after (by_number s e) b ≡ inside_after e b
unnamed s (Enter c) b = refl
unnamed s e b = refl

pub inside_run : (seat : ℕ → ℕ) (n i c : ℕ) (s : State) (acts : List (ℕ × LogItem)) (es : List Event) (t : State) → Follows s acts es t → Holds s → AreByOwn seat n acts → i ≡ seat c
    → ((d : ℕ) → d < n → i ≡ seat d → d ≡ c) → is_open (begin_at t c) ≡ inside_by (is_open (begin_at s c)) (part i acts)
inside_run seat n i c s [] [] t is on own_acts at only = ap (λ (g : State). is_open (begin_at g c)) is
inside_run seat n i c s [] (e ∷ es) t run on own_acts at only = absurd run
inside_run seat n i c s (a ∷ more) [] t run on own_acts at only = absurd run
inside_run seat n i c s (a ∷ more) (e ∷ es) t run on own_acts at only =
    let o = run.0 in
    let event : a.1.event ≡ by_number s e = ap (λ (x : LogItem). x.event) run.2 in
    let made_by : maker a.1.event ≡ maker (by_number s e) = ap maker event in
    (inside_run seat n i c o.state more es t run.3 (step_holds s o.state e o.reply on run.1) own_acts.1 at only) ∙ ⊎_elim
    (λ (same : a.0 ≡ i).
    let mine = own s o.state c e o.reply on (λ d of. let seated = subst (IsSeatOf seat n a.0) (made_by ∙ of) own_acts.0 in only d seated.1 (sym same ∙ seated.0)) (made s e o run.1) in
    ap (λ (b : Bool). inside_by b (part i more)) (mine ∙ sym (ap (λ (f : Event). inside_after f (is_open (begin_at s c))) event ∙ unnamed s e (is_open (begin_at s c))))
    ∙ ap (inside_by (is_open (begin_at s c))) (sym (part_same i a more same)))
    (λ (off : a.0 ≢ i).
    let theirs = other s o.state c e o.reply (λ of. off ((subst (IsSeatOf seat n a.0) (made_by ∙ of) own_acts.0).0 ∙ sym at)) (made s e o run.1) in
    ap (λ (x : Option ℕ). inside_by (is_open x) (part i more)) theirs ∙ ap (inside_by (is_open (begin_at s c))) (sym (part_off i a more off)))
    (cases_eq a.0 i)
