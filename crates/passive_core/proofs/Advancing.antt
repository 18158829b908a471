-- What looks, collections and the end of a slot's use tell and leave.
use Rattle.std.proofs.Common.{◌≡◌, ℕ, zero, suc, ◌+◌, ◌-◌, ◌%◌, ◌<◌, ◌⊎◌, inl, inr, List, [], length, get_or, set, Option, Some, None, Bool, true, false, not, ◌&&◌, ◌||◌, ◌==◌, Ok, refl, sym, ap, subst, ◌∙◌, arith, nat_lt, get_or-set_same, get_or-set_other, add-zero, IsSome}
use Rattle.std.specs.Prelude.{is_some, is_none}
use Rattle.std.proofs.lemmas.Bool.{cases_lt, cases_eq, eqb-true, eq-eqb, lt-ltb, ne_eqb, cases_Bool, and_from}
use Rattle.std.proofs.lemmas.Option.{none-some, same_Some}
use Rattle.passive_core.specs.Types.{Entry, Look, PassiveLook, Collect, TotalAdd, KeptSub, Reply, Done, Mark, Slot, Retired, Stage, Grace, Passive, Local, Freed}
use Rattle.passive_core.specs.Common.{AdvanceLeaves, Settles, Empties, Gathers, HoldersAreOpen, LeavesMarks, MarksPass, Passes, ClearBelow, Clears, MarksClear, SameBut, StageMarks, AdvanceMarks, StageLeaves, advance_answer, count_given_up, has_passive, is_open_since, is_snapshot, first_obstacle, stage_in, may_act}
use Rattle.protocol.specs.Common.{AllClear, AllCollected, AllPassed, MarksGrow, Outcome, Holds, one_if, held_at, at_rest, State, section_at, begin_at, count_at, kept_at, mark_at, passive_at, total_at, with_cell}
use Rattle.protocol.specs.Events
use Rattle.registry_values.specs.Common.{no_mark, least_below, or_next, mark_after_look, mark_after_passive_look, mark_after_collect, are_collected, has_changed, have_passed, is_even, stage_of, retired_slot, has_number, is_retired, slot_of, slot_at, bias}
use Rattle.protocol.proofs.Occupied.{at_rest_tells, in_within, is_retired_tells, number_in, has_it, one_number, slot_found}
use Rattle.protocol.proofs.counts.Bounds.{driver_positive, all_collected}
use Rattle.protocol.proofs.keeps.Drivers.{kept_found}
use Rattle.protocol.proofs.keeps.MarkKeeps.{is_drained_tells}
use Rattle.protocol.proofs.Cells.{cell_other, clear_from, collected_from, mark_grows, mark_there, mark_written, marks_grow_more, marks_grow_none, passed_from, row_elsewhere, snapshot_stands}
use Rattle.protocol.proofs.keeps.Searching.{within_some}
use Rattle.std.proofs.lemmas.List.{set-get_or}
use Rattle.registry_values.proofs.Slots.{least_agrees, least_is, none_below}
use Rattle.registry_values.proofs.Answers.{same_Ok}
use Rattle.passive_core.proofs.Entering.{made_is}
use Rattle.protocol.proofs.Either.{either}

-- an event whose test passes is allowed
pub guard_some : (b : Bool) (s : State) (r : Reply) → b ≡ true → IsSome (Events.guard b (Events.some_outcome s r))
guard_some true s r is = refl
guard_some false s r is = absurd (let f : ◌≡◌ {A = Bool} false true = is in cc)

pub allowed : (o : Option Outcome) (x : Outcome) → o ≡ Some x → IsSome o
allowed None x is = absurd (let f : ◌≡◌ {A = Option Outcome} None (Some x) = is in cc)
allowed (Some y) x is = refl

-- and what it left is known
pub left_by : (o : Option Outcome) (s t : State) (r q : Reply) → o ≡ Some (record { state = s; reply = r }) → o ≡ Some (record { state = t; reply = q }) → t ≡ s
left_by o s t r q is made = let same : ◌≡◌ {A = Outcome} (record { state = s; reply = r }) (record { state = t; reply = q }) = same_Some _ _ (sym is ∙ made) in sym (ap (λ (x : Outcome). x.state) same)

pub or_last : (a b : Bool) → b ≡ true → (a || b) ≡ true
or_last true b y = refl
or_last false b y = y

either_not : (p q : Bool) → (p ≡ true → q ≡ true → ⊥) → (p || not q) ≡ not q
either_not true true off = absurd (off refl refl)
either_not true false off = refl
either_not false q off = refl

not_so : (q : Bool) → (q ≡ true → ⊥) → not q ≡ true
not_so true off = absurd (off refl)
not_so false off = refl

pub not_false : (b r : Bool) → r ≡ not b → r ≡ false → b ≡ true
not_false true r is at = refl
not_false false r is at = absurd (let q : ◌≡◌ {A = Bool} true false = sym is ∙ at in cc)

pub not_true : (b r : Bool) → r ≡ not b → r ≡ true → b ≡ false
not_true false r is at = refl
not_true true r is at = absurd (let q : ◌≡◌ {A = Bool} false true = sym is ∙ at in cc)

-- The least number that passes.

next_some : (o : Option ℕ) (b : Bool) (n c : ℕ) → or_next o b n ≡ Some c → (o ≡ Some c) ⊎ ((c ≡ n) × (b ≡ true))
next_some (Some x) b n c is = inl is
next_some None true n c is = inr (sym (same_Some n c is), refl)
next_some None false n c is = absurd (none-some c is)

-- the least number that passes does
pub least_some : (p : ℕ → Bool) (n c : ℕ) → least_below p n ≡ Some c → (c < n) × (p c ≡ true)
least_some p zero c is = absurd (none-some c is)
least_some p (suc n) c is = either (next_some (least_below p n) (p n) n c is)
    (λ low. let was = least_some p n c low in (omega (arith, was.0), was.1))
    (λ here. (omega (arith, here.0), ap p here.0 ∙ here.1))

-- Looks

pub examines : (s : State) (t c : ℕ) → at_rest s.due ≡ true → is_retired (slot_at s.slots t) ≡ true → c < s.settings.cpus → Events.may_examine s t c ≡ true
examines s t c rest gone lt = and_from (at_rest s.due) _ rest (and_from (nat_lt c s.settings.cpus) _ (lt-ltb c s.settings.cpus lt) gone)

-- a look passes exactly where the section isn't the one of the snapshot
shows_passed : (m : Mark) (w x : ℕ) (begin : Option ℕ) → m.snapshot ≡ Some x → (begin ≡ None → w % 2 ≡ 0) → ((b : ℕ) → begin ≡ Some b → w % 2 ≡ 1)
    → ((b : ℕ) → begin ≡ Some b → m.passed ≡ true → w ≡ x → ⊥)
    → (mark_after_look m w).passed ≡ not (is_some begin && is_snapshot m.snapshot w)
shows_passed m w x None snap outside inside left =
    let even : is_even w ≡ true = eq-eqb (w % 2) 0 (outside refl) in
    or_last m.passed (is_even w || has_changed m.snapshot w) (ap (λ (b : Bool). b || has_changed m.snapshot w) even)
shows_passed m w x (Some b) snap outside inside left =
    let odd : is_even w ≡ false = ap (λ (k : ℕ). k == 0) (inside b refl) in
    rw (snap, odd) (either_not m.passed (x == w) (λ passed same. left b refl passed (sym (eqb-true x w same))))

-- a CPU that has passed isn't in the section of the snapshot
shows_left : (m : Mark) (w x : ℕ) (begin : Option ℕ) → m.snapshot ≡ Some x → ((b : ℕ) → begin ≡ Some b → m.passed ≡ true → w ≡ x → ⊥) → m.passed ≡ true
    → true ≡ not (is_some begin && is_snapshot m.snapshot w)
shows_left m w x None snap left passed = refl
shows_left m w x (Some b) snap left passed = rw snap (sym (not_so (x == w) (λ same. left b refl passed (sym (eqb-true x w same)))))

pub look_passes : (s : State) (t c : ℕ) → Holds s → at_rest s.due ≡ true → is_retired (slot_at s.slots t) ≡ true → c < s.settings.cpus
    → (mark_after_look (mark_at s.marks t c) (section_at s c)).passed ≡ not (is_open_since s t c)
look_passes s t c on rest gone lt =
    let e = is_retired_tells (slot_at s.slots t) gone in
    let w = snapshot_stands s t c on rest gone lt in
    shows_passed (mark_at s.marks t c) (section_at s c) w.0 (begin_at s c) w.1 (λ out. (on.sections.outside c out).0) (λ b in_. (on.sections.inside c b in_).0)
    (λ b in_ passed same. on.grace.left t c b w.0 e.0 e.1 in_ passed w.1 same)

pub passed_left : (s : State) (t c : ℕ) → Holds s → at_rest s.due ≡ true → is_retired (slot_at s.slots t) ≡ true → c < s.settings.cpus
    → (mark_at s.marks t c).passed ≡ true → true ≡ not (is_open_since s t c)
passed_left s t c on rest gone lt passed =
    let e = is_retired_tells (slot_at s.slots t) gone in
    let w = snapshot_stands s t c on rest gone lt in
    shows_left (mark_at s.marks t c) (section_at s c) w.0 (begin_at s c) w.1 (λ b in_ p same. on.grace.left t c b w.0 e.0 e.1 in_ p w.1 same) passed

-- Marks

pub passes_none : (m : Mark) → Passes m m
passes_none m = record { snapshot = refl; passed = λ x. x; clear = refl; collected = refl }

pub marks_pass_none : (marks : List (List Mark)) (t : ℕ) → MarksPass marks marks t
marks_pass_none marks t = record { elsewhere = λ u off. refl; here = λ c. passes_none (mark_at marks t c) }

pub marks_pass_more : (a b d : List (List Mark)) (t : ℕ) → MarksPass a b t → MarksPass b d t → MarksPass a d t
marks_pass_more a b d t x y = record {
  elsewhere = λ u off. y.elsewhere u off ∙ x.elsewhere u off;
  here = λ c. record {
    snapshot = (y.here c).snapshot ∙ (x.here c).snapshot;
    passed = λ p. (y.here c).passed ((x.here c).passed p);
    clear = (y.here c).clear ∙ (x.here c).clear;
    collected = (y.here c).collected ∙ (x.here c).collected;
  };
}

pub look_marks : (s : State) (t c : ℕ) → MarksPass s.marks (Events.after_look s t c).marks t
look_marks s t c =
    let m : Mark = mark_at s.marks t c in
    record {
      elsewhere = row_elsewhere s.marks t c (mark_after_look m (section_at s c));
      here = mark_written Passes s.marks t c (mark_after_look m (section_at s c)) passes_none
          (record { snapshot = refl; passed = λ p. ap (λ (b : Bool). b || (is_even (section_at s c) || has_changed m.snapshot (section_at s c))) p; clear = refl; collected = refl });
    }

-- a section stays open while only marks for the slot change
pub open_same : (s n : State) (t c : ℕ) → n ≡ record s { marks = n.marks } → MarksPass s.marks n.marks t → is_open_since n t c ≡ is_open_since s t c
open_same s n t c only marks = rw (ap (λ (x : State). x.begins) only, ap (λ (x : State). x.section) only, (marks.here c).snapshot) refl

pub look_is : (s n : State) (t c : ℕ) (r : Reply) → at_rest s.due ≡ true → is_retired (slot_at s.slots t) ≡ true → c < s.settings.cpus
    → Events.narrow_step s (Look (Some t) c) ≡ Some (record { state = n; reply = r }) → n ≡ Events.after_look s t c
look_is s n t c r rest gone lt made = made_is (Events.may_examine s t c) (Events.after_look s t c) n _ r (examines s t c rest gone lt) made

-- changes of marks alone, one after the other
pub only_marks : (s m n : State) → m ≡ record s { marks = m.marks } → n ≡ record m { marks = n.marks } → n ≡ record s { marks = n.marks }
only_marks s m n first then = subst (λ (x : State). n ≡ record x { marks = n.marks }) first then

-- Tests of the marks of all CPUs

pub drainable_from : (s : State) (t : ℕ) → AllPassed s t → AllClear s t → Events.is_drainable s t ≡ true
drainable_from s t passed clear = and_from (have_passed s.settings.cpus (get_or s.marks t [])) _ (passed_from s t passed) (clear_from s t clear)

-- Marks that grow

clears_none : (m : Mark) → Clears m m
clears_none m = record { snapshot = refl; passed = λ p. p; clear = λ p. p; collected = refl }

pub marks_clear_none : (marks : List (List Mark)) (t : ℕ) → MarksClear marks marks t
marks_clear_none marks t = record { elsewhere = λ u off. refl; here = λ c. clears_none (mark_at marks t c) }

pub marks_clear_more : (a b d : List (List Mark)) (t : ℕ) → MarksClear a b t → MarksClear b d t → MarksClear a d t
marks_clear_more a b d t x y = record {
  elsewhere = λ u off. y.elsewhere u off ∙ x.elsewhere u off;
  here = λ c. record {
    snapshot = (y.here c).snapshot ∙ (x.here c).snapshot;
    passed = λ p. (y.here c).passed ((x.here c).passed p);
    clear = λ p. (y.here c).clear ((x.here c).clear p);
    collected = (y.here c).collected ∙ (x.here c).collected;
  };
}

-- a mark beside the one that is written
pub mark_beside : (marks : List (List Mark)) (t c : ℕ) (m : Mark) → SameBut marks (with_cell marks t c m) t c
mark_beside marks t c m j off = cell_other no_mark marks t c m t j (λ _ same. off same)

-- Looks at passive words

is_none_counted : (w : ℕ) → (w == 0) ≡ not (nat_lt 0 w)
is_none_counted zero = refl
is_none_counted (suc w) = rw (ne_eqb (suc w) 0 (λ same. omega arith), lt-ltb 0 (suc w) (omega arith)) refl

shows_clear : (clear none some : Bool) → none ≡ not some → (clear || none) ≡ not (some && not clear)
shows_clear true none true is = refl
shows_clear true none false is = refl
shows_clear false none true is = is
shows_clear false none false is = is

pub passive_clears : (s : State) (t c : ℕ) → (mark_after_passive_look (mark_at s.marks t c) (passive_at s.passive c t)).clear ≡ not (has_passive s t c)
passive_clears s t c = shows_clear (mark_at s.marks t c).clear (passive_at s.passive c t == 0) (nat_lt 0 (passive_at s.passive c t)) (is_none_counted (passive_at s.passive c t))

-- a CPU that is clear has none
pub clear_none : (some clear : Bool) → clear ≡ true → (some && not clear) ≡ false
clear_none true true is = refl
clear_none false true is = refl
clear_none some false is = absurd (let q : ◌≡◌ {A = Bool} false true = is in cc)

-- one that isn't clear has what its word counts
pub unclear_some : (some clear : Bool) → clear ≡ false → (some && not clear) ≡ some
unclear_some true false is = refl
unclear_some false false is = refl
unclear_some some true is = absurd (let q : ◌≡◌ {A = Bool} true false = is in cc)

-- and if it has some, the word counts some
some_counted : (some clear : Bool) → (some && not clear) ≡ true → some ≡ true
some_counted true clear is = refl
some_counted false clear is = absurd (let q : ◌≡◌ {A = Bool} false true = is in cc)

pub clear_left : (s : State) (t c : ℕ) → (mark_at s.marks t c).clear ≡ true → true ≡ not (has_passive s t c)
clear_left s t c clear = sym (ap not (clear_none (nat_lt 0 (passive_at s.passive c t)) (mark_at s.marks t c).clear clear))

pub examines_passive : (s : State) (t c : ℕ) → at_rest s.due ≡ true → is_retired (slot_at s.slots t) ≡ true → AllPassed s t → c < s.settings.cpus → Events.may_look_passive s t c ≡ true
examines_passive s t c rest gone passed lt = and_from (Events.may_examine s t c) _ (examines s t c rest gone lt) (passed_from s t passed)

pub passive_look_is : (s n : State) (t c : ℕ) (r : Reply) → at_rest s.due ≡ true → is_retired (slot_at s.slots t) ≡ true → AllPassed s t → c < s.settings.cpus
    → Events.narrow_step s (PassiveLook t c) ≡ Some (record { state = n; reply = r }) → n ≡ Events.after_look_passive s t c
passive_look_is s n t c r rest gone passed lt made = made_is (Events.may_look_passive s t c) (Events.after_look_passive s t c) n _ r (examines_passive s t c rest gone passed lt) made

pub passive_look_marks : (s : State) (t c : ℕ) → MarksClear s.marks (Events.after_look_passive s t c).marks t
passive_look_marks s t c =
    let m : Mark = mark_after_passive_look (mark_at s.marks t c) (passive_at s.passive c t) in
    record {
      elsewhere = row_elsewhere s.marks t c m;
      here = mark_written Clears s.marks t c m clears_none
          (record { snapshot = refl; passed = λ p. p; clear = λ p. ap (λ (b : Bool). b || (passive_at s.passive c t == 0)) p; collected = refl });
    }

-- Collections

pub collects : (s : State) (t c : ℕ) → at_rest s.due ≡ true → is_retired (slot_at s.slots t) ≡ true → AllPassed s t → AllClear s t → c < s.settings.cpus → (mark_at s.marks t c).collected ≡ false
    → Events.may_collect s t c ≡ true
collects s t c rest gone passed clear lt yet = and_from (Events.may_examine s t c) _ (examines s t c rest gone lt) (and_from (Events.is_drainable s t) _ (drainable_from s t passed clear) (ap not yet))

pub collect_is : (s n : State) (t c : ℕ) (r : Reply) → at_rest s.due ≡ true → is_retired (slot_at s.slots t) ≡ true → AllPassed s t → AllClear s t → c < s.settings.cpus
    → (mark_at s.marks t c).collected ≡ false
    → Events.narrow_step s (Collect t c) ≡ Some (record { state = n; reply = r }) → n ≡ Events.after_collect s t c
collect_is s n t c r rest gone passed clear lt yet made = made_is (Events.may_collect s t c) (Events.after_collect s t c) n _ r (collects s t c rest gone passed clear lt yet) made

-- a word was collected, and is to be added
pub adds : (s m : State) (t c : ℕ) → m ≡ Events.after_collect s t c
    → Events.narrow_step m (TotalAdd t) ≡ Some (record { state = Events.after_total (Events.after_collect s t c) t (total_at s.totals t + count_at s.counts c t - bias); reply = Done })
adds s m t c is = rw (is, eq-eqb t t refl) refl

pub added : (s n : State) (t c : ℕ) → at_rest s.due ≡ true → n ≡ Events.after_total (Events.after_collect s t c) t (total_at s.totals t + count_at s.counts c t - bias) → Gathers s n t
added s n t c rest is =
    let m : Mark = mark_after_collect (mark_at s.marks t c) in
    let v : ℕ = total_at s.totals t + count_at s.counts c t - bias in
    subst (λ (x : State). Gathers s x t) (sym is) (record {
      only = rw (at_rest_tells s.due rest) refl;
      marks = mark_grows s.marks t c m (record { snapshot = refl; passed = λ p. p; clear = λ p. p; collected = λ p. refl });
      counts = row_elsewhere s.counts t c 0;
      totals = λ u off. get_or-set_other s.totals t u v 0 off;
    })

pub gathers_none : (s : State) (t : ℕ) → Gathers s s t
gathers_none s t = record { only = refl; marks = marks_grow_none s.marks t; counts = λ u off. refl; totals = λ u off. refl }

pub gathers_more : (a b d : State) (t : ℕ) → Gathers a b t → Gathers b d t → Gathers a d t
gathers_more a b d t x y = record {
  only = subst (λ (z : State). d ≡ record z { marks = d.marks; counts = d.counts; totals = d.totals }) x.only y.only;
  marks = marks_grow_more a.marks b.marks d.marks t x.marks y.marks;
  counts = λ u off. y.counts u off ∙ x.counts u off;
  totals = λ u off. y.totals u off ∙ x.totals u off;
}

-- once all words are collected, the total says what is held
pub gathered_total : (s : State) (t : ℕ) (e : Entry) → Holds s → at_rest s.due ≡ true → slot_at s.slots t ≡ Retired e → AllCollected s t
    → total_at s.totals t ≡ bias + held_at s.locals s.hands s.keeps s.due e.number t
gathered_total s t e on rest gone all = all_collected on.balance t e (at_rest_tells s.due rest) gone all

pub gathered_words : (s : State) (t : ℕ) → Holds s → is_retired (slot_at s.slots t) ≡ true → AllCollected s t → (c : ℕ) → count_at s.counts c t ≡ 0
gathered_words s t on gone all c =
    let e = is_retired_tells (slot_at s.slots t) gone in
    either (cases_lt c s.settings.cpus) (λ lt. on.balance.emptied c t e.0 e.1 (all c lt)) (λ ge. on.balance.beyond c t ge)

-- The end of a slot's use

pub drained_from : (s : State) (t : ℕ) → at_rest s.due ≡ true → is_retired (slot_at s.slots t) ≡ true → AllPassed s t → AllClear s t → AllCollected s t → total_at s.totals t ≡ bias
    → Events.is_drained s t ≡ true
drained_from s t rest gone passed clear all total =
    and_from (at_rest s.due) _ rest (and_from (is_retired (slot_at s.slots t)) _ gone (and_from (Events.is_drainable s t) _ (drainable_from s t passed clear)
    (and_from (are_collected s.settings.cpus (get_or s.marks t [])) _ (collected_from s t all) (eq-eqb (total_at s.totals t) bias total))))

pub vacates : (s : State) (t : ℕ) → kept_at s.keeps t ≡ None → Events.is_drained s t ≡ true → Events.may_vacate s t ≡ true
vacates s t none drained = and_from (is_none (kept_at s.keeps t)) _ (ap is_none none) drained

pub vacated : (s n : State) (t : ℕ) → Holds s → kept_at s.keeps t ≡ None → Events.is_drained s t ≡ true → n ≡ Events.after_vacate s t → Empties s n t
vacated s n t on none drained is =
    let kept : set s.keeps t None ≡ s.keeps = ap (λ (k : Option ℕ). set s.keeps t k) (sym none) ∙ set-get_or s.keeps t None in
    subst (λ (x : State). Empties s x t) (sym is) (record {
      only = rw kept refl;
      totals = λ u off. ap (λ (k : Option ℕ). total_at s.totals u + count_given_up k (slot_at s.slots u)) none ∙ add-zero (total_at s.totals u);
      total = (is_drained_tells s t on drained).5;
    })

-- the driver that a drained slot keeps a reference to has a slot
pub kept_slot : (s : State) (t d : ℕ) → Holds s → kept_at s.keeps t ≡ Some d → (u : ℕ) × (slot_of s.slots d ≡ Some u)
kept_slot s t d on kept =
    let has = on.kept_drivers.drivers t d kept in
    slot_found s.slots d (has.0, has.1, has.2, has.3)

keeps_as_iface : (s : State) (t d : ℕ) → Holds s → kept_at s.keeps t ≡ Some d → Events.is_drained s t ≡ true → Events.is_iface_slot (slot_at s.slots t) ≡ true
keeps_as_iface s t d on kept drained =
    let told = is_drained_tells s t on drained in
    let right = on.kept_drivers.rightly t told.1.0 (inr told.1.1) in
    ap Events.is_iface_slot told.1.1 ∙ subst (λ (k : Option ℕ). Events.keeps_rightly k told.1.0.rec.kind ≡ true) kept right

pub gives_up : (s : State) (t d u : ℕ) → Holds s → kept_at s.keeps t ≡ Some d → slot_of s.slots d ≡ Some u → Events.is_drained s t ≡ true
    → Events.narrow_step s (KeptSub t) ≡ Some (record { state = Events.after_kept_sub s t u; reply = Done })
gives_up s t d u on kept of drained = rw (kept, of, keeps_as_iface s t d on kept drained, drained) refl

pub gave_up : (s n : State) (t d u : ℕ) → Holds s → kept_at s.keeps t ≡ Some d → slot_of s.slots d ≡ Some u → Events.is_drained s t ≡ true → n ≡ Events.after_kept_sub s t u → Empties s n t
gave_up s n t d u on kept of drained is =
    let told = is_drained_tells s t on drained in
    let some : 0 < total_at s.totals u = driver_positive s t d u on kept of drained in
    let driver = kept_found s.history s.slots s.keeps t d u told.1.0 on.slots on.kept_drivers (inr told.1.1) kept of in
    let lt : u < length s.totals = omega (arith, in_within s.slots u driver.0 driver.1, on.shape.slots, on.shape.totals) in
    let new : List ℕ = set s.totals u (total_at s.totals u - 1) in
    subst (λ (x : State). Empties s x t) (sym is) (record {
      only = refl;
      totals = λ v off. ap (λ (k : Option ℕ). total_at new v + count_given_up k (slot_at s.slots v)) kept ∙ either (cases_eq v u)
          (λ same.
          let has : has_number d (slot_at s.slots v) ≡ true = ap (λ (k : ℕ). has_number d (slot_at s.slots k)) same ∙ has_it d driver.0 (slot_at s.slots u) driver.1 driver.2 in
          let one : count_given_up (Some d) (slot_at s.slots v) ≡ 1 = ap one_if has in
          let here : total_at new v ≡ total_at s.totals u - 1 = ap (total_at new) same ∙ get_or-set_same s.totals u (total_at s.totals u - 1) 0 lt in
          omega (arith, one, here, some, ap (total_at s.totals) same))
          (λ other.
          let lacks : has_number d (slot_at s.slots v) ≡ false = either (cases_Bool (has_number d (slot_at s.slots v)))
          (λ has.
          let f = number_in d (slot_at s.slots v) has in
          absurd (other (one_number s.history s.slots u v driver.0 f.0 on.slots driver.1 f.1 (f.2 ∙ sym driver.2)).0))
          (λ not_. not_) in
          omega (arith, ap one_if lacks, get_or-set_other s.totals u v (total_at s.totals u - 1) 0 other));
      total = get_or-set_other s.totals u t (total_at s.totals u - 1) 0 (λ same. driver.4 (sym same)) ∙ told.5;
    })

-- Retired entries

-- an open section that may hold a retired entry was open as its snapshot was taken
still_open : (begin x : Option ℕ) (b w now : ℕ) → begin ≡ Some b → x ≡ Some w → now ≡ w → (is_some begin && is_snapshot x now) ≡ true
still_open begin x b w now in_ snap same = rw (in_, snap) (eq-eqb w now (sym same))

pub holders_are_open : (s : State) → Holds s → at_rest s.due ≡ true → HoldersAreOpen s
holders_are_open s on rest t c b e gone in_ may =
    let was = on.slots.retired t e gone in
    let lt : c < s.settings.cpus = omega (arith, within_some s.begins c b in_, on.shape.begins) in
    let w = snapshot_stands s t c on rest (ap is_retired gone) lt in
    let same : section_at s c ≡ w.0 = either (cases_eq (section_at s c) w.0)
    (λ is. is)
    (λ off. absurd (omega (arith, on.grace.changed t was.2.0 c b w.0 e gone was.2.1 in_ w.1 off, may.unended was.2.0 was.2.1))) in
    still_open (begin_at s c) (mark_at s.marks t c).snapshot b w.0 (section_at s c) in_ w.1 same

-- a CPU with the same word, that is as clear as it was, has what it had
passive_kept : (s n : State) (t c : ℕ) → n.passive ≡ s.passive → (mark_at n.marks t c).clear ≡ (mark_at s.marks t c).clear → has_passive n t c ≡ has_passive s t c
passive_kept s n t c words clear = ap (λ (p : List (List ℕ)). nat_lt 0 (passive_at p c t) && not (mark_at n.marks t c).clear) words ∙ ap (λ (b : Bool). nat_lt 0 (passive_at s.passive c t) && not b) clear

-- passive references stay while only marks change, and the CPU is as clear as it was
pub passive_same : (s n : State) (t c : ℕ) → n ≡ record s { marks = n.marks } → (mark_at n.marks t c).clear ≡ (mark_at s.marks t c).clear → has_passive n t c ≡ has_passive s t c
passive_same s n t c only clear = passive_kept s n t c (ap (λ (x : State). x.passive) only) clear

-- The stage that one turn meets

no_number : (o : Option ℕ) → ((c : ℕ) → o ≡ Some c → ⊥) → o ≡ None
no_number None off = refl
no_number (Some c) off = absurd (off c refl)

-- looks at section words leave the first CPU with a passive reference
passive_past : (s m : State) (t : ℕ) → m ≡ record s { marks = m.marks } → MarksPass s.marks m.marks t
    → least_below (has_passive m t) m.settings.cpus ≡ least_below (has_passive s t) s.settings.cpus
passive_past s m t only marks =
    let cpus : m.settings.cpus ≡ s.settings.cpus = ap (λ (x : State). x.settings.cpus) only in
    ap (least_below (has_passive m t)) cpus ∙ least_agrees (has_passive m t) (has_passive s t) s.settings.cpus (λ c lt. passive_same s m t c only (marks.here c).clear)

-- no section is in the way, and a passive reference is
pub passive_stage : (s m : State) (t n c : ℕ) (open_ passive : Option ℕ) → open_ ≡ least_below (is_open_since s t) s.settings.cpus → ((d : ℕ) → open_ ≡ Some d → ⊥)
    → m ≡ record s { marks = m.marks } → MarksPass s.marks m.marks t → passive ≡ least_below (has_passive m t) m.settings.cpus → passive ≡ Some c
    → Passive c ≡ first_obstacle s t n
passive_stage s m t n c open_ passive first none only marks second some =
    let outside : least_below (is_open_since s t) s.settings.cpus ≡ None = sym first ∙ no_number open_ none in
    let met : least_below (has_passive s t) s.settings.cpus ≡ Some c = sym (passive_past s m t only marks) ∙ (sym second ∙ some) in
    rw (outside, met) refl

-- neither is: what the total says is the stage
pub settled_stage : (s m : State) (t n : ℕ) (open_ passive : Option ℕ) (stage : Stage) → open_ ≡ least_below (is_open_since s t) s.settings.cpus → ((d : ℕ) → open_ ≡ Some d → ⊥)
    → m ≡ record s { marks = m.marks } → MarksPass s.marks m.marks t → passive ≡ least_below (has_passive m t) m.settings.cpus → ((d : ℕ) → passive ≡ Some d → ⊥)
    → stage ≡ stage_of t None None (held_at s.locals s.hands s.keeps s.due n t) → stage ≡ first_obstacle s t n
settled_stage s m t n open_ passive stage first none only marks second clear is =
    let outside : least_below (is_open_since s t) s.settings.cpus ≡ None = sym first ∙ no_number open_ none in
    let unmet : least_below (has_passive s t) s.settings.cpus ≡ None = sym (passive_past s m t only marks) ∙ (sym second ∙ no_number passive clear) in
    rw (outside, unmet) is

-- a word that was collected is marked so
pub collected_there : (s n : State) (t c : ℕ) → Holds s → t < s.settings.slots → c < s.settings.cpus → n ≡ Events.after_total (Events.after_collect s t c) t (total_at s.totals t + count_at s.counts c t - bias)
    → (mark_at n.marks t c).collected ≡ true
collected_there s n t c on lt low is = ap (λ (x : State). (mark_at x.marks t c).collected) is ∙ ap (λ (m : Mark). m.collected) (mark_there s t c (mark_after_collect (mark_at s.marks t c)) on lt low)

-- where so many local references are held nothing changes
pub settled_held : (s : State) (t held : ℕ) → (held ≡ 0 → ⊥) → total_at s.totals t ≡ bias + held → Settles s s t (stage_of t None None held)
settled_held s t zero some total = absurd (some refl)
settled_held s t (suc k) some total = (refl, total)

-- where none is the slot is emptied
pub settled_free : (old new : State) (t held : ℕ) → held ≡ 0 → Empties old new t → Settles old new t (stage_of t None None held)
settled_free old new t held none empties = subst (λ (k : ℕ). Settles old new t (stage_of t None None k)) (sym none) empties

-- Seats

-- and nothing of what an advance leaves keeps it from that
pub stage_acts : (s n : State) (t d : ℕ) (stage : Stage) → s.seated ≡ s.settings.cpus → StageLeaves s n t stage → may_act s d ≡ true → may_act n d ≡ true
stage_acts s n t d (Grace c) seated left acts = ap (λ (x : State). may_act x d) left.only ∙ (ap (λ (k : ℕ). may_act (record s { seated = k }) d) (sym seated) ∙ acts)
stage_acts s n t d (Passive c) seated left acts = ap (λ (x : State). may_act x d) left.only ∙ (ap (λ (k : ℕ). may_act (record s { seated = k }) d) (sym seated) ∙ acts)
stage_acts s n t d (Local k) seated left acts = ap (λ (x : State). may_act x d) left.only ∙ (ap (λ (k : ℕ). may_act (record s { seated = k }) d) (sym seated) ∙ acts)
stage_acts s n t d (Freed u) seated left acts = ap (λ (x : State). may_act x d) left.only ∙ (ap (λ (k : ℕ). may_act (record s { seated = k }) d) (sym seated) ∙ acts)

-- Advances one after the other

-- a stage stays while only seats, marks, counts and totals change, and the first passive reference in its way is the same
stage_kept : (s m : State) (t n : ℕ) → m ≡ record s { seated = s.settings.cpus; marks = m.marks; counts = m.counts; totals = m.totals } → MarksGrow s.marks m.marks t
    → least_below (has_passive m t) s.settings.cpus ≡ least_below (has_passive s t) s.settings.cpus
    → first_obstacle m t n ≡ first_obstacle s t n
stage_kept s m t n only marks passive =
    let cpus : m.settings.cpus ≡ s.settings.cpus = ap (λ (x : State). x.settings.cpus) only in
    let open_ : (c : ℕ) → is_open_since m t c ≡ is_open_since s t c = λ c. rw (ap (λ (x : State). x.begins) only, ap (λ (x : State). x.section) only, (marks.here c).snapshot) refl in
    let first : least_below (is_open_since m t) m.settings.cpus ≡ least_below (is_open_since s t) s.settings.cpus =
    ap (least_below (is_open_since m t)) cpus ∙ least_agrees (is_open_since m t) (is_open_since s t) s.settings.cpus (λ c lt. open_ c) in
    let second : least_below (has_passive m t) m.settings.cpus ≡ least_below (has_passive s t) s.settings.cpus =
    ap (least_below (has_passive m t)) cpus ∙ passive in
    let third : held_at m.locals m.hands m.keeps m.due n t ≡ held_at s.locals s.hands s.keeps s.due n t = ap (λ (x : State). held_at x.locals x.hands x.keeps x.due n t) only in
    rw (first, second, third) refl

abbrev pub is_freed : Stage → Bool
is_freed (Grace c) = false
is_freed (Passive c) = false
is_freed (Local k) = false
is_freed (Freed t) = true

-- what a stage says of the CPUs that have passive references
some_met : (t k c : ℕ) (open_ passive : Option ℕ) → stage_of t open_ passive k ≡ Passive c → passive ≡ Some c
some_met t k c (Some d) passive is = absurd (let q : Grace d ≡ Passive c = is in cc)
some_met t k c None (Some d) is = let q : Passive d ≡ Passive c = is in cc
some_met t zero c None None is = absurd (let q : Freed t ≡ Passive c = is in cc)
some_met t (suc k) c None None is = absurd (let q : Local (suc k) ≡ Passive c = is in cc)

none_met : (t k j : ℕ) (open_ passive : Option ℕ) → stage_of t open_ passive k ≡ Local j → passive ≡ None
none_met t k j (Some d) passive is = absurd (let q : Grace d ≡ Local j = is in cc)
none_met t k j None (Some d) is = absurd (let q : Passive d ≡ Local j = is in cc)
none_met t k j None None is = refl

-- the first with a passive reference is the first that isn't clear after the looks
passive_below : (s m : State) (t c : ℕ) → m.passive ≡ s.passive → ClearBelow s m t c → least_below (has_passive s t) s.settings.cpus ≡ Some c
    → least_below (has_passive m t) s.settings.cpus ≡ Some c
passive_below s m t c words noted least =
    let met = least_some (has_passive s t) s.settings.cpus c least in
    let counts : nat_lt 0 (passive_at m.passive c t) ≡ true =
    ap (λ (p : List (List ℕ)). nat_lt 0 (passive_at p c t)) words ∙ some_counted (nat_lt 0 (passive_at s.passive c t)) (mark_at s.marks t c).clear met.1 in
    least_is (has_passive m t) c s.settings.cpus met.0
    (unclear_some (nat_lt 0 (passive_at m.passive c t)) (mark_at m.marks t c).clear noted.here ∙ counts)
    (λ d lt. clear_none (nat_lt 0 (passive_at m.passive d t)) (mark_at m.marks t d).clear (noted.below d lt))

-- what else stays while only seats and marks change
marks_only : (s m : State) → m ≡ record s { seated = s.settings.cpus; marks = m.marks } → m ≡ record s { seated = s.settings.cpus; marks = m.marks; counts = m.counts; totals = m.totals }
marks_only s m only = subst (λ (x : State). x ≡ record s { seated = s.settings.cpus; marks = x.marks; counts = x.counts; totals = x.totals }) (sym only) refl

pub stage_again : (s m : State) (t n : ℕ) (stage : Stage) → is_freed stage ≡ false → first_obstacle s t n ≡ stage → StageLeaves s m t stage → StageMarks s m t stage
    → first_obstacle m t n ≡ first_obstacle s t n
stage_again s m t n (Grace c) held met left noted = stage_kept s m t n (marks_only s m left.only) left.marks
    (least_agrees (has_passive m t) (has_passive s t) s.settings.cpus (λ d lt. passive_kept s m t d (ap (λ (x : State). x.passive) left.only) (noted.marks.here d).clear))
stage_again s m t n (Passive c) held met left noted =
    let least = some_met t _ c _ _ met in
    stage_kept s m t n (marks_only s m left.only) left.marks (passive_below s m t c (ap (λ (x : State). x.passive) left.only) noted least ∙ sym least)
stage_again s m t n (Local k) held met left noted =
    let cpus : m.settings.cpus ≡ s.settings.cpus = ap (λ (x : State). x.settings.cpus) left.only in
    stage_kept s m t n left.only left.marks
    (none_below (has_passive m t) s.settings.cpus (λ d lt. clear_none (nat_lt 0 (passive_at m.passive d t)) (mark_at m.marks t d).clear (noted.clear d (omega (arith, lt, cpus))))
    ∙ sym (none_met t _ k _ _ met))
stage_again s m t n (Freed u) held met left noted = absurd (let q : ◌≡◌ {A = Bool} true false = held in cc)

pub slots_again : (s m : State) (t : ℕ) (stage : Stage) → is_freed stage ≡ false → StageLeaves s m t stage → m.slots ≡ s.slots
slots_again s m t (Freed u) held left = absurd (let q : ◌≡◌ {A = Bool} true false = held in cc)
slots_again s m t _ held left = ap (λ (x : State). x.slots) left.only

marks_leave_again : (s m n : State) (t : ℕ) → LeavesMarks s m t → LeavesMarks m n t → LeavesMarks s n t
marks_leave_again s m n t x y = assumption (subst (λ (z : State). n ≡ record z { seated = z.settings.cpus; marks = n.marks }) x.only y.only, marks_grow_more s.marks m.marks n.marks t x.marks y.marks)

-- the same stage was met twice
pub leaves_again : (s m n : State) (t : ℕ) (stage : Stage) → is_freed stage ≡ false → StageLeaves s m t stage → StageLeaves m n t stage → StageLeaves s n t stage
leaves_again s m n t (Local k) held x y = record {
  only = subst (λ (z : State). n ≡ record z { seated = z.settings.cpus; marks = n.marks; counts = n.counts; totals = n.totals }) x.only y.only;
  marks = marks_grow_more s.marks m.marks n.marks t x.marks y.marks;
  counts = λ u off. y.counts u off ∙ x.counts u off;
  collected = y.collected;
  totals = λ u off. y.totals u off ∙ x.totals u off;
  total = y.total;
}
leaves_again s m n t (Freed u) held x y = absurd (let q : ◌≡◌ {A = Bool} true false = held in cc)
leaves_again s m n t _ held x y = marks_leave_again s m n t x y

-- the marks of two turns that met the same obstacle
pub marks_of_turns : (s m n : State) (t : ℕ) (stage : Stage) → StageMarks s m t stage → StageMarks m n t stage → StageMarks s n t stage
marks_of_turns s m n t (Grace c) x y = record {
  marks = marks_pass_more s.marks m.marks n.marks t x.marks y.marks;
  below = y.below;
  here = y.here;
  above = λ d lt. y.above d lt ∙ x.above d lt;
}
marks_of_turns s m n t (Passive c) x y = record {
  marks = marks_clear_more s.marks m.marks n.marks t x.marks y.marks;
  passed = y.passed;
  below = y.below;
  here = y.here;
  above = λ d lt. y.above d lt ∙ x.above d lt;
}
marks_of_turns s m n t _ x y = y

-- the answer is the same the next time, where nothing was freed
pub answer_again : (s m : State) (number : ℕ) (stage : Stage) → is_freed stage ≡ false → Ok stage ≡ advance_answer s number → AdvanceLeaves s m number (Ok stage)
    → AdvanceMarks s m number (Ok stage) → advance_answer m number ≡ advance_answer s number
answer_again s m number stage held is left noted =
    let slots = slots_again s m left.0 stage held left.2 in
    let place : retired_slot m.slots number ≡ Some left.0 = ap (λ (x : List Slot). retired_slot x number) slots ∙ left.1 in
    let one : noted.0 ≡ left.0 = same_Some noted.0 left.0 (sym noted.1 ∙ left.1) in
    let met : first_obstacle s left.0 number ≡ stage = sym (same_Ok stage (first_obstacle s left.0 number) (is ∙ ap (stage_in s number) left.1)) in
    rw (place, left.1) (ap (λ (x : Stage). Ok x) (stage_again s m left.0 number stage held met left.2 (subst (λ (k : ℕ). StageMarks s m k stage) one noted.2)))

pub advance_again : (s m n : State) (number : ℕ) (stage next : Stage) → is_freed stage ≡ false → AdvanceLeaves s m number (Ok stage) → AdvanceLeaves m n number (Ok next) → next ≡ stage
    → AdvanceLeaves s n number (Ok next)
advance_again s m n number stage next held x y same =
    let slots = slots_again s m x.0 stage held x.2 in
    let place : Some y.0 ≡ Some x.0 = sym y.1 ∙ (ap (λ (l : List Slot). retired_slot l number) slots ∙ x.1) in
    let one : y.0 ≡ x.0 = same_Some y.0 x.0 place in
    let second : StageLeaves m n x.0 stage = subst (λ (k : ℕ). StageLeaves m n k stage) one (subst (StageLeaves m n y.0) same y.2) in
    (x.0, x.1, subst (StageLeaves s n x.0) (sym same) (leaves_again s m n x.0 stage held x.2 second))

pub marks_again : (s m n : State) (number : ℕ) (stage next : Stage) → is_freed stage ≡ false → AdvanceLeaves s m number (Ok stage) → AdvanceMarks s m number (Ok stage)
    → AdvanceMarks m n number (Ok next) → next ≡ stage → AdvanceMarks s n number (Ok next)
marks_again s m n number stage next held left x y same =
    let slots = slots_again s m left.0 stage held left.2 in
    let place : Some y.0 ≡ Some x.0 = sym y.1 ∙ (ap (λ (l : List Slot). retired_slot l number) slots ∙ x.1) in
    let one : y.0 ≡ x.0 = same_Some y.0 x.0 place in
    let second : StageMarks m n x.0 stage = subst (λ (k : ℕ). StageMarks m n k stage) one (subst (StageMarks m n y.0) same y.2) in
    (x.0, x.1, subst (StageMarks s n x.0) (sym same) (marks_of_turns s m n x.0 stage x.2 second))

pub not_freed : (stage : Stage) → ((t : ℕ) → stage ≡ Freed t → ⊥) → is_freed stage ≡ false
not_freed (Freed t) off = absurd (off t refl)
not_freed _ off = refl
