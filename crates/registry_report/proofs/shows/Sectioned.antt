-- A session that begins, and enter, exit and find: the registry that the session shows answers and changes as the core does.
use Rattle.std.proofs.Common.{◌≡◌, ℕ, ◌*◌, ◌<◌, List, length, get_or, set, get_or-set_same, get_or-set_other, nat_lt, sym, ◌∙◌, arith, [], replicate, Option, Some, None, is_some, refl, ap, subst, ◌+◌, ◌-◌, ◌≤◌, Bool, true, false, not, ◌&&◌, is_none}
use Rattle.std.proofs.lemmas.Bool.{cases_lt, lt-ltb, le-ltb, cases_eq}
use Rattle.std.proofs.lemmas.Option.{none-some}
use Rattle.std.specs.Prelude.{if◌then◌else◌, ◌==◌, Result, Ok, Err, is_ok}
use Rattle.registry_report.specs.Types.{Entry, Settings, Empty, Vacant, MOST_CPUS, Change, MOST_DEPTH, Refusal, TooDeep, SectionsSpent, Mark, Slot}
use Rattle.registry_values.specs.Common.{slot_of, slot_at}
use Rattle.registry_values.proofs.Slots.{none_is}
use Rattle.protocol.specs.Common.{put, IsIn, one_if, number_in, passive_in, opening, section_at, begin_at, depth_at, mark_at, Holds, MarksHold}
use Rattle.protocol.specs.Events as events
use Rattle.protocol.proofs.model.RefiningSections.{put_is, put_here, put_other}
use Rattle.protocol.proofs.Either.{either}
use Rattle.protocol.proofs.Cells.{get_or_all, by_place}
use Rattle.protocol.proofs.keeps.MarkKeeps.{none_live}
use Rattle.protocol.proofs.Occupied.{not_vacant, slot_has}
use Rattle.protocol.proofs.keeps.SectionKeeps.{some_from}
use Rattle.passive_core.specs.Common.{all_seated, with_depth, after_enter_command, after_exit_command, after_find}
use Rattle.passive_core.specs.Commands as core
use Rattle.registry_report.specs.Common.{opening_registry, SessionState, without_labels, Shows, number_at, is_inside, enter_answer, may_begin, Registry, with_core, SnapshotsFollow, on_ok, with_section_entered, with_section_exited, with_section_begun, with_section_ended, with_found}

-- A list with another value in a place, and a function with the same one there.

pub put_shows : {X : Type 0} (f : ℕ → X) (d : X) (xs : List X) (c : ℕ) (x y : X) → c < length xs → ((j : ℕ) → f j ≡ get_or xs j d) → x ≡ y → (j : ℕ) → put f c x j ≡ get_or (set xs c y) j d
put_shows f d xs c x y lt shows same = put_is f (λ j. get_or (set xs c y) j d) c x
    (same ∙ sym (get_or-set_same xs c y d lt))
    (λ j off. shows j ∙ sym (get_or-set_other xs c j y d off))

-- twice as much is less where it is
pub twice_less : (a b : ℕ) → nat_lt (2 * a) (2 * b) ≡ nat_lt a b
twice_less a b = either (cases_lt a b)
    (λ lt. lt-ltb (2 * a) (2 * b) (omega arith) ∙ sym (lt-ltb a b lt))
    (λ ge. le-ltb (2 * a) (2 * b) (omega arith) ∙ sym (le-ltb a b ge))

-- A session that begins shows the registry that a script begins with.

-- no slot is occupied
vacant_at : (n t : ℕ) → slot_at (replicate n Vacant) t ≡ Vacant
vacant_at n t = get_or_all n Vacant t

nobody : (n t : ℕ) (e : Entry) → IsIn e (slot_at (replicate n Vacant) t) → ⊥
nobody n t e is = not_vacant e (slot_at (replicate n Vacant) t) (vacant_at n t) is

none_held : (z : Settings) (c n : ℕ) (o : Option ℕ) → slot_of (replicate z.slots Vacant) n ≡ o → 0 ≡ passive_in (replicate z.slots (replicate MOST_CPUS 0)) (replicate z.cpus Empty) c o
none_held z c n None at = refl
none_held z c n (Some t) at = absurd (let has = slot_has (replicate z.slots Vacant) n t at in nobody z.slots t has.1.0 has.1.1)

pub opened_shows : (z : Settings) → Shows (without_labels (opening z)) (opening_registry z)
opened_shows z = record {
  settings = refl;
  model = record {
    history = refl;
    sections = λ c. sym (get_or_all z.cpus None c);
    last_found = λ c. sym (get_or_all z.cpus None c);
    held = λ c n. none_held z c n (slot_of (replicate z.slots Vacant) n) refl;
    counted = λ n. refl;
    occupants = λ t. sym (ap number_in (vacant_at z.slots t));
    kept = λ t. sym (get_or_all z.slots None t);
  };
  sections = record {
    deep = λ c. sym (get_or_all {X = ℕ} z.cpus 0 c);
    turns = λ c. omega (arith, get_or_all {X = ℕ} z.cpus 0 c, ap (λ (o : Option ℕ). one_if (is_some o)) (get_or_all z.cpus None c));
  };
  live = omega (arith, none_live z.slots);
  grace = λ t p c b w e at end begun snapshot same. absurd (none-some b (sym (get_or_all z.cpus None c) ∙ begun));
  tallies = record {
    net = λ t c e is low. absurd (nobody z.slots t e is);
    word = λ t c e is low uncollected. absurd (nobody z.slots t e is);
    total = λ t e is uncollected. absurd (nobody z.slots t e is);
    collected = λ t c e is is_collected. absurd (nobody z.slots t e is);
    fresh = λ n later. record { unacquired = λ c. refl; unreleased = λ c. refl; kept = refl; uncollected = refl };
  };
  labels = record {
    passive = λ x. sym (get_or_all 26 None x);
    local = λ x. sym (ap (number_at []) (get_or_all 26 None x));
  };
}

-- the same of the session that a script begins with
pub begins : (s : SessionState) (z w : Settings) → s ≡ without_labels (opening z) → z ≡ w → Shows s (opening_registry w)
begins s z w is same = subst (λ (x : SessionState). Shows x (opening_registry w)) (sym (is ∙ ap (λ (y : Settings). without_labels (opening y)) same)) (opened_shows w)

-- Enter, exit and find: the registry that the session shows answers and changes as the core does.

-- who is inside
pub inside_is : (s : SessionState) (r : Registry) (c : ℕ) → Shows s r → is_inside r c ≡ events.is_inside s.core c
inside_is s r c on = ap is_some (on.model.sections c)

-- whether the CPU may begin one more section, where it is outside
spent_is : (s : SessionState) (r : Registry) (c : ℕ) → Shows s r → (o : Option ℕ) → begin_at s.core c ≡ o
    → (is_none o && not (core.may_begin s.core c)) ≡ (not (is_some o) && not (may_begin r c))
spent_is s r c on None at =
    let word : section_at s.core c ≡ 2 * r.begun c = omega (arith, sym (ap (λ (b : Option ℕ). section_at s.core c + one_if (is_some b)) at) ∙ on.sections.turns c) in
    rw (word, on.settings) (ap not (twice_less (r.begun c) s.core.settings.section_limit))
spent_is s r c on (Some b) at = refl

pub enter_answers : (s : SessionState) (r : Registry) (c : ℕ) → Shows s r → core.enter_answer s.core c ≡ enter_answer r c
enter_answers s r c on =
    let deep : depth_at s.core c ≡ r.depths c = sym (on.sections.deep c) in
    let spent : (events.is_outside s.core c && not (core.may_begin s.core c)) ≡ (not (is_inside r c) && not (may_begin r c)) =
    spent_is s r c on (begin_at s.core c) refl ∙ ap (λ (b : Option ℕ). not (is_some b) && not (may_begin r c)) (sym (on.model.sections c)) in
    λ i. if deep i == MOST_DEPTH then Err TooDeep else (if spent i then Err SectionsSpent else Ok tt)

-- a section that begins has another word than any snapshot
begun_follows : (h : List Change) (slots : List Slot) (marks : List (List Mark)) (section : List ℕ) (begins : List (Option ℕ)) (c w b : ℕ)
    → MarksHold h slots marks section begins → c < length section → c < length begins → get_or section c 0 < w → SnapshotsFollow h slots marks section begins
    → SnapshotsFollow h slots marks (set section c w) (set begins c (Some b))
begun_follows h slots marks section begins c w b holds sc bc more was t p j d x e at end begun snapshot same = either (cases_eq j c)
    (λ here.
    let word : get_or (set section c w) j 0 ≡ w = ap (λ (k : ℕ). get_or (set section c w) k 0) here ∙ get_or-set_same section c w 0 sc in
    let old : x ≤ get_or section c 0 = holds.older t c x e at (subst (λ (k : ℕ). (mark_at marks t k).snapshot ≡ Some x) here snapshot) in
    omega arith)
    (λ off. was t p j d x e at end (sym (get_or-set_other begins c j (Some b) None off) ∙ begun) snapshot (sym (get_or-set_other section c j w 0 off) ∙ same))

-- a section that ends is none
ended_follows : (h : List Change) (slots : List Slot) (marks : List (List Mark)) (section : List ℕ) (begins : List (Option ℕ)) (c w : ℕ)
    → c < length begins → SnapshotsFollow h slots marks section begins → SnapshotsFollow h slots marks (set section c w) (set begins c None)
ended_follows h slots marks section begins c w bc was t p j d x e at end begun snapshot same = either (cases_eq j c)
    (λ here. absurd (none-some d (sym (get_or-set_same begins c None None bc) ∙ (ap (λ (k : ℕ). get_or (set begins c None) k None) (sym here) ∙ begun))))
    (λ off. was t p j d x e at end (sym (get_or-set_other begins c j None None off) ∙ begun) snapshot (sym (get_or-set_other section c j w 0 off) ∙ same))

-- the section gets deeper or less deep
nested_shows : (s : SessionState) (r : Registry) (c depth other : ℕ) → Holds s.core → Shows s r → c < s.core.settings.cpus → depth ≡ other
    → Shows (with_core s (with_depth s.core c other)) (record r { depths = put r.depths c depth })
nested_shows s r c depth other holds on lt same = assumption (put_shows r.depths 0 s.core.depths c depth other (omega (arith, holds.shape.depths)) on.sections.deep same)

-- one section more was begun
begun_turns : (section : List ℕ) (begins : List (Option ℕ)) (begun : ℕ → ℕ) (c b : ℕ) → c < length section → c < length begins → get_or begins c None ≡ None
    → ((j : ℕ) → get_or section j 0 + one_if (is_some (get_or begins j None)) ≡ 2 * begun j)
    → (j : ℕ) → get_or (set section c (get_or section c 0 + 1)) j 0 + one_if (is_some (get_or (set begins c (Some b)) j None)) ≡ 2 * put begun c (begun c + 1) j
begun_turns section begins begun c b sc bc out was j = by_place
    (λ j. get_or (set section c (get_or section c 0 + 1)) j 0 + one_if (is_some (get_or (set begins c (Some b)) j None)) ≡ 2 * put begun c (begun c + 1) j) c j
    (let word : get_or (set section c (get_or section c 0 + 1)) c 0 ≡ get_or section c 0 + 1 = get_or-set_same section c (get_or section c 0 + 1) 0 sc in
    let begin : one_if (is_some (get_or (set begins c (Some b)) c None)) ≡ 1 = ap (λ (o : Option ℕ). one_if (is_some o)) (get_or-set_same begins c (Some b) None bc) in
    let before : one_if (is_some (get_or begins c None)) ≡ 0 = ap (λ (o : Option ℕ). one_if (is_some o)) out in
    omega (arith, word, begin, before, was c, put_here begun c (begun c + 1)))
    (λ off. rw (get_or-set_other section c j (get_or section c 0 + 1) 0 off, get_or-set_other begins c j (Some b) None off, put_other begun c (begun c + 1) j off) (was j))

-- the one that was open ended
ended_turns : (section : List ℕ) (begins : List (Option ℕ)) (begun : ℕ → ℕ) (c b : ℕ) → c < length section → c < length begins → get_or begins c None ≡ Some b
    → ((j : ℕ) → get_or section j 0 + one_if (is_some (get_or begins j None)) ≡ 2 * begun j)
    → (j : ℕ) → get_or (set section c (get_or section c 0 + 1)) j 0 + one_if (is_some (get_or (set begins c None) j None)) ≡ 2 * begun j
ended_turns section begins begun c b sc bc in_ was j = by_place
    (λ j. get_or (set section c (get_or section c 0 + 1)) j 0 + one_if (is_some (get_or (set begins c None) j None)) ≡ 2 * begun j) c j
    (let word : get_or (set section c (get_or section c 0 + 1)) c 0 ≡ get_or section c 0 + 1 = get_or-set_same section c (get_or section c 0 + 1) 0 sc in
    let now : one_if (is_some (get_or (set begins c None) c None)) ≡ 0 = ap (λ (o : Option ℕ). one_if (is_some o)) (get_or-set_same begins c None None bc) in
    let before : one_if (is_some (get_or begins c None)) ≡ 1 = ap (λ (o : Option ℕ). one_if (is_some o)) in_ in
    omega (arith, word, now, before, was c))
    (λ off. rw (get_or-set_other section c j (get_or section c 0 + 1) 0 off, get_or-set_other begins c j None None off) (was j))

-- the outermost section begins
begun_shows : (s : SessionState) (r : Registry) (c : ℕ) → Holds s.core → Shows s r → c < s.core.settings.cpus → begin_at s.core c ≡ None
    → Shows (with_core s (events.after_enter (all_seated s.core) c)) (with_section_begun r c)
begun_shows s r c holds on lt out = assumption (
  put_shows r.model.sections None s.core.begins c (Some (length r.model.history)) (Some (length s.core.history)) (omega (arith, holds.shape.begins)) on.model.sections
      (ap (λ (h : List Change). Some (length h)) on.model.history),
  put_shows r.depths 0 s.core.depths c 1 1 (omega (arith, holds.shape.depths)) on.sections.deep refl,
  begun_turns s.core.section s.core.begins r.begun c (length s.core.history) (omega (arith, holds.shape.sections)) (omega (arith, holds.shape.begins)) out on.sections.turns,
  begun_follows s.core.history s.core.slots s.core.marks s.core.section s.core.begins c (section_at s.core c + 1) (length s.core.history) holds.grace (omega (arith, holds.shape.sections))
      (omega (arith, holds.shape.begins)) (omega arith) on.grace,
)

-- the outermost section ends
ended_shows : (s : SessionState) (r : Registry) (c b : ℕ) → Holds s.core → Shows s r → c < s.core.settings.cpus → begin_at s.core c ≡ Some b
    → Shows (with_core s (events.after_exit (all_seated s.core) c)) (with_section_ended r c)
ended_shows s r c b holds on lt in_ = assumption (
  put_shows r.model.sections None s.core.begins c None None (omega (arith, holds.shape.begins)) on.model.sections refl,
  put_shows r.model.found None s.core.found c None None (omega (arith, holds.shape.found)) on.model.last_found refl,
  put_shows r.depths 0 s.core.depths c 0 0 (omega (arith, holds.shape.depths)) on.sections.deep refl,
  ended_turns s.core.section s.core.begins r.begun c b (omega (arith, holds.shape.sections)) (omega (arith, holds.shape.begins)) in_ on.sections.turns,
  ended_follows s.core.history s.core.slots s.core.marks s.core.section s.core.begins c (section_at s.core c + 1) (omega (arith, holds.shape.begins)) on.grace,
)

-- Enter

entered_by : (s : SessionState) (r : Registry) (c : ℕ) (b : Bool) → Holds s.core → Shows s r → c < s.core.settings.cpus → events.is_inside s.core c ≡ b
    → Shows (with_core s (if b then with_depth s.core c (depth_at s.core c + 1) else events.after_enter (all_seated s.core) c))
    (if b then record r { depths = put r.depths c (r.depths c + 1) } else with_section_begun r c)
entered_by s r c true holds on lt is = nested_shows s r c (r.depths c + 1) (depth_at s.core c + 1) holds on lt (ap (λ (d : ℕ). d + 1) (on.sections.deep c))
entered_by s r c false holds on lt is = begun_shows s r c holds on lt (none_is (begin_at s.core c) is)

pub entered_shows : (s : SessionState) (r : Registry) (c : ℕ) → Holds s.core → Shows s r → c < s.core.settings.cpus
    → Shows (with_core s (core.with_section_entered s.core c)) (with_section_entered r c)
entered_shows s r c holds on lt =
    subst (λ (b : Bool). Shows (with_core s (core.with_section_entered s.core c)) (if b then record r { depths = put r.depths c (r.depths c + 1) } else with_section_begun r c))
    (sym (inside_is s r c on))
    (entered_by s r c (events.is_inside s.core c) holds on lt refl)

enter_by : (s : SessionState) (r : Registry) (c : ℕ) (a : Result (Unit {0}) Refusal) → Holds s.core → Shows s r → c < s.core.settings.cpus
    → Shows (with_core s (if is_ok a then core.with_section_entered s.core c else s.core)) (on_ok r a (λ done. with_section_entered r c))
enter_by s r c (Ok done) holds on lt = entered_shows s r c holds on lt
enter_by s r c (Err f) holds on lt = on

-- what an enter leaves
pub enter_shows : (s : SessionState) (r : Registry) (c : ℕ) → Holds s.core → Shows s r → c < s.core.settings.cpus
    → Shows (with_core s (after_enter_command s.core c)) (on_ok r (enter_answer r c) (λ done. with_section_entered r c))
enter_shows s r c holds on lt =
    subst (λ (a : Result (Unit {0}) Refusal). Shows (with_core s (after_enter_command s.core c)) (on_ok r a (λ done. with_section_entered r c))) (enter_answers s r c on)
    (enter_by s r c (core.enter_answer s.core c) holds on lt)

-- Exit

exit_by : (s : SessionState) (r : Registry) (c b : ℕ) (last : Bool) → Holds s.core → Shows s r → c < s.core.settings.cpus → begin_at s.core c ≡ Some b
    → Shows (with_core s (if last then events.after_exit (all_seated s.core) c else with_depth s.core c (depth_at s.core c - 1))) (with_section_exited r c (not last))
exit_by s r c b true holds on lt in_ = ended_shows s r c b holds on lt in_
exit_by s r c b false holds on lt in_ = nested_shows s r c (r.depths c - 1) (depth_at s.core c - 1) holds on lt (ap (λ (d : ℕ). d - 1) (on.sections.deep c))

-- what an exit leaves, inside a section
pub exit_shows : (s : SessionState) (r : Registry) (c : ℕ) → Holds s.core → Shows s r → c < s.core.settings.cpus → events.is_inside s.core c ≡ true
    → Shows (with_core s (after_exit_command s.core c)) (with_section_exited r c (not (r.depths c == 1)))
exit_shows s r c holds on lt in_ =
    let begun = some_from (begin_at s.core c) in_ in
    subst (λ (d : ℕ). Shows (with_core s (after_exit_command s.core c)) (with_section_exited r c (not (d == 1)))) (sym (on.sections.deep c))
    (exit_by s r c begun.0 (depth_at s.core c == 1) holds on lt begun.1)

-- Find

-- what a lookup leaves
pub found_shows : (s : SessionState) (r : Registry) (c : ℕ) (answer : Option Entry) → Holds s.core → Shows s r → c < s.core.settings.cpus
    → Shows (with_core s (after_find (all_seated s.core) c answer)) (with_found r c answer)
found_shows s r c answer holds on lt = assumption (put_shows r.model.found None s.core.found c answer answer (omega (arith, holds.shape.found)) on.model.last_found refl)
