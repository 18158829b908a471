-- Advance, destroy and perform: the registry that the session shows answers and changes as the core does.
use Rattle.std.proofs.Common.{◌≡◌, ℕ, zero, suc, ◌+◌, ◌-◌, ◌<◌, ◌≤◌, inl, inr, List, length, get_or, set, get_or-set_same, get_or-set_other, Option, Some, None, Bool, true, false, ◌&&◌, nat_lt, refl, sym, ap, subst, ◌∙◌, arith, sum_by}
use Rattle.std.specs.Prelude.{if◌then◌else◌, is_some, Result, Ok, Err}
use Rattle.std.proofs.lemmas.Bool.{and_parts, cases_Bool, cases_eq, cases_lt, eq-eqb, ne_eqb, lt-ltb, le-ltb}
use Rattle.std.proofs.lemmas.Option.{none-some}
use Rattle.registry_report.specs.Types.{Entry, Change, Refusal, Inside, Stage, Freed, Grace, Local, Passive, Empty, Mark, Slot, Vacant, Live, Retired}
use Rattle.passive_core.specs.Advancing as core
use Rattle.passive_core.specs.Common.{AdvanceLeaves, DestroyLeaves, LeavesFree, LeavesMarks, LeavesTotal, StageLeaves, is_open_since, is_snapshot, IsQuiet, PerformLeaves}
use Rattle.registry_values.specs.Common.{wait_answer, destroy_result, destroy_result_of, stage_of, is_retired_as, has_number, is_retired, slot_at, least_below, no_mark}
use Rattle.protocol.specs.Common.{MarksGrow, SameElsewhere, Holds, IsIn, SlotsShow, held_at, in_hand, one_if, subtraction_due_at, put, number_in, passive_in, is_empty, State, begin_at, count_at, hand_at, kept_at, mark_at, passive_at, section_at, total_at, trying_at, trying_of}
use Rattle.registry_values.specs.Slots as values
use Rattle.protocol.specs.Events as events
use Rattle.registry_values.proofs.Slots.{none_below, least_none, least_agrees, retired_slot_tells}
use Rattle.registry_values.proofs.Answers.{same_Ok}
use Rattle.protocol.proofs.Cells.{snapshot_stands, slot_number}
use Rattle.passive_core.proofs.Advancing.{unclear_some}
use Rattle.passive_core.proofs.Entering.{acts_free}
use Rattle.passive_core.proofs.Performing.{counts_some}
use Rattle.protocol.proofs.counts.Sums.{no_hand, number_of}
use Rattle.protocol.proofs.History.{attached_within, ended_within}
use Rattle.protocol.proofs.keeps.ListKeeps.{live_count_put}
use Rattle.protocol.proofs.Occupied.{at_rest_tells, attached_in, has_it, in_other, in_vacated, in_within, one_in, one_number}
use Rattle.protocol.proofs.model.RefiningSections.{put_here, put_is, put_other, unwritten}
use Rattle.protocol.proofs.model.RefiningEntries.{passive_moved}
use Rattle.protocol.proofs.keeps.Searching.{within_some}
use Rattle.registry_report.specs.Common.{advance_answer, count_below, destroy_answer, is_inside, perform_answer, has_passive, has_section, held_count, is_this, first_obstacle, retired_slot, stage_in, end_of, has_ended, may_hold, Registry, IsSession, SessionState, with_core, CountsLive, Shows, ShowsModel, ShowsTallies, SnapshotsFollow, after_advance, after_destroy, with_freed, on_ok, after_stage}
use Rattle.registry_report.proofs.Lookups.{kept_is, position_is, same_count, end_is, end_tells}
use Rattle.registry_report.proofs.shows.Sectioned.{inside_is, put_shows}
use Rattle.protocol.proofs.Either.{either}
use Rattle.protocol.proofs.keeps.SectionKeeps.{empty_from, some_from}
use Rattle.registry_report.proofs.shows.Referred.{seated_shows}

-- Local references

-- nothing is in a hand
pub hands_empty : (s : State) → Holds s → IsQuiet s → (c : ℕ) → hand_at s c ≡ Empty
hands_empty s on quiet c = empty_from (hand_at s c) (and_parts _ (is_empty (hand_at s c)) (acts_free s c on (quiet.ready c))).1

-- the local references held
pub held_is : (s : SessionState) (r : Registry) (n t : ℕ) → IsSession s → Shows s r → held_at s.core.locals s.core.hands s.core.keeps s.core.due n t ≡ held_count r n
held_is s r n t is on =
    let hands : sum_by (in_hand n) s.core.hands ≡ 0 = no_hand n s.core.hands (λ c named. none-some n (ap number_of (sym (hands_empty s.core is.holds is.quiet c)) ∙ named)) in
    let due : subtraction_due_at t s.core.due ≡ 0 = ap (subtraction_due_at t) (at_rest_tells s.core.due is.quiet.rest) in
    let slots : length s.core.keeps ≡ r.settings.slots = is.holds.shape.keeps ∙ sym (ap (λ z. z.slots) on.settings) in
    let keeps = kept_is n s.core.keeps ∙ (same_count _ _ (length s.core.keeps) (λ u lt. ap (is_this n) (sym (on.model.kept u))) ∙ ap (count_below (λ u. is_this n (r.model.keeps u))) slots) in
    omega (arith, hands, due, keeps, on.model.counted n)

-- Where the retired entry is

-- whether a slot's occupant is the retired n
retired_here : (n : ℕ) (ended : Bool) (x : Slot) → ((e : Entry) → x ≡ Retired e → e.number ≡ n → ended ≡ true) → ((e : Entry) → x ≡ Live e → e.number ≡ n → ended ≡ false)
    → is_retired_as n x ≡ (ended && is_this n (number_in x))
retired_here n true Vacant gone live = refl
retired_here n false Vacant gone live = refl
retired_here n false (Live e) gone live = refl
retired_here n true (Live e) gone live = either (cases_eq e.number n)
    (λ same. absurd (let q : ◌≡◌ {A = Bool} true false = live e refl same in cc))
    (λ off. sym (ne_eqb e.number n off))
retired_here n true (Retired e) gone live = refl
retired_here n false (Retired e) gone live = either (cases_eq e.number n)
    (λ same. absurd (let q : ◌≡◌ {A = Bool} false true = gone e refl same in cc))
    (λ off. ne_eqb e.number n off)

-- a retired entry has ended
ended_is : (s : State) (t : ℕ) (e : Entry) → Holds s → slot_at s.slots t ≡ Retired e → has_ended s.history e.number ≡ true
ended_is s t e on gone =
    let was = on.slots.retired t e gone in
    ap is_some (end_is s.history on.legal e.number was.2.0 was.2.1)

-- and a live one hasn't
unended_is : (s : State) (t : ℕ) (e : Entry) → Holds s → slot_at s.slots t ≡ Live e → has_ended s.history e.number ≡ false
unended_is s t e on live = either (cases_Bool (has_ended s.history e.number))
    (λ yes.
    let p = some_from (end_of s.history e.number) yes in
    let end = end_tells s.history e.number p.0 p.1 in
    absurd (omega (arith, (ended_within s.history e.number p.0 end).1, (on.slots.live t e live).0.unended p.0 end)))
    (λ no. no)

-- no number below passes a test that is false
none_pass : (b : Bool) (p : ℕ → Bool) (n : ℕ) → least_below (λ t. b && p t) n ≡ (if b then least_below p n else None)
none_pass true p n = refl
none_pass false p n = none_below (λ t. false) n (λ t lt. refl)

pub retired_slot_is : (s : SessionState) (r : Registry) (n : ℕ) → Holds s.core → Shows s r → values.retired_slot s.core.slots n ≡ retired_slot r n
retired_slot_is s r n holds on =
    let here : (t : ℕ) → is_retired_as n (slot_at s.core.slots t) ≡ (has_ended s.core.history n && is_this n (number_in (slot_at s.core.slots t))) =
    λ t. retired_here n (has_ended s.core.history n) (slot_at s.core.slots t)
    (λ e gone same. ap (has_ended s.core.history) (sym same) ∙ ended_is s.core t e holds gone)
    (λ e live same. ap (has_ended s.core.history) (sym same) ∙ unended_is s.core t e holds live) in
    let shown : (t : ℕ) → is_retired_as n (slot_at s.core.slots t) ≡ (has_ended r.model.history n && is_this n (r.model.occupants t)) = λ t. rw (on.model.history, on.model.occupants t) (here t) in
    position_is (is_retired_as n) s.core.slots Vacant
    ∙ (least_agrees (λ t. is_retired_as n (slot_at s.core.slots t)) (λ t. has_ended r.model.history n && is_this n (r.model.occupants t)) (length s.core.slots) (λ t lt. shown t)
    ∙ (none_pass (has_ended r.model.history n) (λ t. is_this n (r.model.occupants t)) (length s.core.slots)
    ∙ ap (λ k. if has_ended r.model.history n then least_below (λ t. is_this n (r.model.occupants t)) k else None) (holds.shape.slots ∙ sym (ap (λ z. z.slots) on.settings))))

-- What is in its way

-- whether a section may still hold the retired entry
section_is : (begin : Option ℕ) (p w now : ℕ) → ((b : ℕ) → begin ≡ Some b → now ≡ w → b < p) → ((b : ℕ) → begin ≡ Some b → (now ≡ w → ⊥) → p ≤ b)
    → (is_some begin && is_snapshot (Some w) now) ≡ may_hold begin (Some p)
section_is None p w now same other = refl
section_is (Some b) p w now same other = either (cases_eq now w)
    (λ yes. eq-eqb w now (sym yes) ∙ sym (lt-ltb b p (same b refl yes)))
    (λ no. ne_eqb w now (λ q. no (sym q)) ∙ sym (le-ltb b p (other b refl no)))

pub open_is : (s : SessionState) (r : Registry) (t c : ℕ) (e : Entry) → IsSession s → Shows s r → slot_at s.core.slots t ≡ Retired e → c < s.core.settings.cpus
    → is_open_since s.core t c ≡ has_section r e.number c
open_is s r t c e is on gone lt =
    let was = is.holds.slots.retired t e gone in
    let w = snapshot_stands s.core t c is.holds is.quiet.rest (ap is_retired gone) lt in
    let end : end_of r.model.history e.number ≡ Some was.2.0 = ap (λ h. end_of h e.number) on.model.history ∙ end_is s.core.history is.holds.legal e.number was.2.0 was.2.1 in
    let core_side : is_open_since s.core t c ≡ may_hold (begin_at s.core c) (Some was.2.0) = ap (λ x. is_some (begin_at s.core c) && is_snapshot x (section_at s.core c)) w.1
    ∙ section_is (begin_at s.core c) was.2.0 w.0 (section_at s.core c)
    (λ b in_ same. on.grace t was.2.0 c b w.0 e gone was.2.1 in_ w.1 same)
    (λ b in_ off. is.holds.grace.changed t was.2.0 c b w.0 e gone was.2.1 in_ w.1 off) in
    core_side ∙ sym (ap (λ x. may_hold x (end_of r.model.history e.number)) (on.model.sections c) ∙ ap (may_hold (begin_at s.core c)) end)

-- a word counts references, as no CPU is trying
passive_is : (s : SessionState) (r : Registry) (t c : ℕ) (e : Entry) → Holds s.core → Shows s r → trying_at s.core.hands c t ≡ 0 → IsIn e (slot_at s.core.slots t)
    → r.model.passive c e.number ≡ passive_at s.core.passive c t
passive_is s r t c e holds on untried in_ =
    let word : passive_at s.core.passive c t - trying_at s.core.hands c t ≡ passive_at s.core.passive c t = omega (arith, untried) in
    on.model.held c e.number ∙ (ap (passive_in s.core.passive s.core.hands c) (slot_number s.core.history s.core.slots e t holds.slots in_) ∙ word)

passive_met : (s : SessionState) (r : Registry) (t c : ℕ) (e : Entry) → IsSession s → Shows s r → slot_at s.core.slots t ≡ Retired e → core.has_passive s.core t c ≡ has_passive r e.number c
passive_met s r t c e is on gone =
    let untried : trying_at s.core.hands c t ≡ 0 = ap (trying_of t) (hands_empty s.core is.holds is.quiet c) in
    counts_some (passive_at s.core.passive c t) (mark_at s.core.marks t c).clear (λ clear. (is.holds.passive.clear c t e gone clear).1 ∙ untried)
    ∙ ap (nat_lt 0) (sym (passive_is s r t c e is.holds on untried (inr gone)))

pub stage_is : (s : SessionState) (r : Registry) (t : ℕ) (e : Entry) → IsSession s → Shows s r → slot_at s.core.slots t ≡ Retired e
    → core.first_obstacle s.core t e.number ≡ first_obstacle r e.number t
stage_is s r t e is on gone =
    let cpus : s.core.settings.cpus ≡ r.settings.cpus = sym (ap (λ z. z.cpus) on.settings) in
    let first : least_below (is_open_since s.core t) s.core.settings.cpus ≡ least_below (has_section r e.number) r.settings.cpus =
    least_agrees (is_open_since s.core t) (has_section r e.number) s.core.settings.cpus (λ c lt. open_is s r t c e is on gone lt) ∙ ap (least_below (has_section r e.number)) cpus in
    let second : least_below (core.has_passive s.core t) s.core.settings.cpus ≡ least_below (has_passive r e.number) r.settings.cpus =
    least_agrees (core.has_passive s.core t) (has_passive r e.number) s.core.settings.cpus (λ c lt. passive_met s r t c e is on gone)
    ∙ ap (least_below (has_passive r e.number)) cpus in
    rw (first, second, held_is s r e.number t is on) refl

stage_by : (s : SessionState) (r : Registry) (n : ℕ) (o : Option ℕ) → IsSession s → Shows s r → values.retired_slot s.core.slots n ≡ o → core.stage_in s.core n o ≡ stage_in r n o
stage_by s r n None is on at = refl
stage_by s r n (Some t) is on at =
    let told = retired_slot_tells s.core.slots n t at in
    ap Ok (subst (λ k. core.first_obstacle s.core t k ≡ first_obstacle r k t) told.1.2 (stage_is s r t told.1.0 is on told.1.1))

-- The results of an advance are the same.
pub advance_answers : (s : SessionState) (r : Registry) (n : ℕ) → IsSession s → Shows s r → core.advance_answer s.core n ≡ advance_answer r n
advance_answers s r n is on = stage_by s r n (values.retired_slot s.core.slots n) is on refl ∙ ap (stage_in r n) (retired_slot_is s r n is.holds on)

-- Marks

-- the snapshots stay
grown_snapshots : (old new : List (List Mark)) (t : ℕ) → MarksGrow old new t → (u c : ℕ) → (mark_at new u c).snapshot ≡ (mark_at old u c).snapshot
grown_snapshots old new t grow u c = either (cases_eq u t)
    (λ same. subst (λ k. (mark_at new k c).snapshot ≡ (mark_at old k c).snapshot) (sym same) (grow.here c).snapshot)
    (λ off. ap (λ (row : List Mark). (get_or row c no_mark).snapshot) (grow.elsewhere u off))

grown_follows : (h : List Change) (slots : List Slot) (marks new : List (List Mark)) (section : List ℕ) (begins : List (Option ℕ))
    → ((u c : ℕ) → (mark_at new u c).snapshot ≡ (mark_at marks u c).snapshot)
    → SnapshotsFollow h slots marks section begins → SnapshotsFollow h slots new section begins
grown_follows h slots marks new section begins same was t p c b w e gone end begun snapshot word = was t p c b w e gone end begun (sym (same t c) ∙ snapshot) word

-- seats and marks change
marked_shows : (s : SessionState) (r : Registry) (marks : List (List Mark)) → Shows s r → ((u c : ℕ) → (mark_at marks u c).snapshot ≡ (mark_at s.core.marks u c).snapshot)
    → Shows (with_core s (record s.core { seated = s.core.settings.cpus; marks = marks })) r
marked_shows s r marks on same = assumption (grown_follows s.core.history s.core.slots s.core.marks marks s.core.section s.core.begins same on.grace)

marks_shows : (s : SessionState) (r : Registry) (k : State) (t : ℕ) → Shows s r → LeavesMarks s.core k t → Shows (with_core s k) r
marks_shows s r k t on left = subst (λ (x : State). Shows (with_core s x) r) (sym left.only) (marked_shows s r k.marks on (grown_snapshots s.core.marks k.marks t left.marks))

-- Collected

-- an occupant's number is no later than the history
number_within : (h : List Change) (slots : List Slot) (t : ℕ) (e : Entry) → SlotsShow h slots → IsIn e (slot_at slots t) → e.number ≤ length h
number_within h slots t e show is = (attached_within h e (attached_in h slots t e show is).0).1

-- the words of one slot are collected
collected_tallies : (cpus : ℕ) (h : List Change) (slots : List Slot) (counts now nets : List (List ℕ)) (totals left : List ℕ) (acquired released : ℕ → ℕ → ℕ) (given : ℕ → ℕ) (is_collected : ℕ → Bool)
    (t : ℕ) (e : Entry)
    → SlotsShow h slots → IsIn e (slot_at slots t) → SameElsewhere counts now t → ((c : ℕ) → count_at now c t ≡ 0) → ((u : ℕ) → (u ≡ t → ⊥) → total_at left u ≡ total_at totals u)
    → ShowsTallies cpus h slots counts nets totals acquired released given is_collected → ShowsTallies cpus h slots now nets left acquired released given (put is_collected e.number true)
collected_tallies cpus h slots counts now nets totals left acquired released given is_collected t e show in_ elsewhere emptied same was = record {
  net = was.net;
  word = λ u c f is lt uncollected. let o = other u f is uncollected in ap (λ (row : List ℕ). get_or row c 0) (elsewhere u o.0) ∙ was.word u c f is lt o.1;
  total = λ u f is uncollected. let o = other u f is uncollected in ap (λ (k : ℕ). k + given f.number) (same u o.0) ∙ was.total u f is o.1;
  collected = λ u c f is gone. either (cases_eq u t)
      (λ here. ap (count_at now c) here ∙ emptied c)
      (λ off. ap (λ (row : List ℕ). get_or row c 0) (elsewhere u off)
      ∙ was.collected u c f is (sym (put_other is_collected e.number true f.number (λ number. off (one_number h slots t u e f show in_ is number).0)) ∙ gone));
  fresh = λ m above. let old = was.fresh m above in assumption (put_other is_collected e.number true m (λ number. omega (arith, number, above, number_within h slots t e show in_)) ∙ old.uncollected);
}
  where
    other : (u : ℕ) (f : Entry) → IsIn f (slot_at slots u) → put is_collected e.number true f.number ≡ false → (u ≡ t → ⊥) × (is_collected f.number ≡ false)
    other u f is uncollected =
        let number : f.number ≡ e.number → ⊥ = λ same. let q : ◌≡◌ {A = Bool} true false = sym (ap (put is_collected e.number true) same ∙ put_here is_collected e.number true) ∙ uncollected in cc in (
          λ here. number (ap (λ (g : Entry). g.number) (one_in f e (slot_at slots t) in_ (subst (λ (k : ℕ). IsIn f (slot_at slots k)) here is))),
          sym (put_other is_collected e.number true f.number number) ∙ uncollected,
        )

collected_shows : (s : SessionState) (r : Registry) (k : State) (t j : ℕ) (e : Entry) → Holds s.core → Shows s r → slot_at s.core.slots t ≡ Retired e → LeavesTotal s.core k t j
    → Shows (with_core s k) (record r { is_collected = put r.is_collected e.number true })
collected_shows s r k t j e holds on gone left = subst (λ (x : State). Shows (with_core s x) (record r { is_collected = put r.is_collected e.number true })) (sym left.only) (assumption (
  grown_follows s.core.history s.core.slots s.core.marks k.marks s.core.section s.core.begins (grown_snapshots s.core.marks k.marks t left.marks) on.grace,
  collected_tallies s.core.settings.cpus s.core.history s.core.slots s.core.counts k.counts s.core.nets s.core.totals k.totals r.acquired r.released r.given_up r.is_collected t e holds.slots
      (inr gone)
      left.counts left.collected left.totals on.tallies,
))

-- Freed

-- the slot is vacant: who was elsewhere stays, and what an other slot kept is given up
freed_tallies : (cpus : ℕ) (h : List Change) (slots : List Slot) (counts now nets : List (List ℕ)) (totals left : List ℕ) (acquired released : ℕ → ℕ → ℕ) (given more : ℕ → ℕ) (is_collected : ℕ → Bool)
    (t : ℕ) (e : Entry) (kept : Option ℕ)
    → slot_at slots t ≡ Retired e → SameElsewhere counts now t → ((u : ℕ) → (u ≡ t → ⊥) → total_at left u + core.count_given_up kept (slot_at slots u) ≡ total_at totals u)
    → ((u : ℕ) (f : Entry) → IsIn f (slot_at slots u) → more f.number ≡ given f.number + core.count_given_up kept (slot_at slots u)) → ((m : ℕ) → length h < m → more m ≡ given m)
    → ShowsTallies cpus h slots counts nets totals acquired released given is_collected → ShowsTallies cpus h (set slots t Vacant) now nets left acquired released more is_collected
freed_tallies cpus h slots counts now nets totals left acquired released given more is_collected t e kept gone elsewhere same gives fresh was = record {
  net = λ u c f is. was.net u c f (stays u f is).1;
  word = λ u c f is lt uncollected. let o = stays u f is in ap (λ (row : List ℕ). get_or row c 0) (elsewhere u o.0) ∙ was.word u c f o.1 lt uncollected;
  total = λ u f is uncollected. let o = stays u f is in omega (arith, same u o.0, gives u f o.1, was.total u f o.1 uncollected);
  collected = λ u c f is all. let o = stays u f is in ap (λ (row : List ℕ). get_or row c 0) (elsewhere u o.0) ∙ was.collected u c f o.1 all;
  fresh = λ m above. let old = was.fresh m above in assumption (fresh m above ∙ old.kept);
}
  where
    stays : (u : ℕ) (f : Entry) → IsIn f (slot_at (set slots t Vacant) u) → (u ≡ t → ⊥) × IsIn f (slot_at slots u)
    stays u f is = in_vacated slots t u e f gone is

lacks_it : (n : ℕ) (e : Entry) (x : Slot) → IsIn e x → (e.number ≡ n → ⊥) → has_number n x ≡ false
lacks_it n e x is off = either is (λ live. ap (has_number n) live ∙ ne_eqb e.number n off) (λ gone. ap (has_number n) gone ∙ ne_eqb e.number n off)

-- what the kept driver gives up
gives_one : (slots : List Slot) (given : ℕ → ℕ) (d u : ℕ) (f : Entry) → IsIn f (slot_at slots u) → put given d (given d + 1) f.number ≡ given f.number + core.count_given_up (Some d) (slot_at slots u)
gives_one slots given d u f is = either (cases_eq f.number d)
    (λ same.
    let has : one_if (has_number d (slot_at slots u)) ≡ 1 = ap one_if (has_it d f (slot_at slots u) is same) in
    let here : put given d (given d + 1) f.number ≡ given d + 1 = ap (put given d (given d + 1)) same ∙ put_here given d (given d + 1) in
    omega (arith, has, here, ap given same))
    (λ off.
    let lacks : one_if (has_number d (slot_at slots u)) ≡ 0 = ap one_if (lacks_it d f (slot_at slots u) is off) in
    omega (arith, lacks, put_other given d (given d + 1) f.number off))

-- retired entries and live ones, except the one whose slot is vacant
vacant_follows : (h : List Change) (slots : List Slot) (marks : List (List Mark)) (section : List ℕ) (begins : List (Option ℕ)) (t : ℕ) (e : Entry) → slot_at slots t ≡ Retired e
    → SnapshotsFollow h slots marks section begins → SnapshotsFollow h (set slots t Vacant) marks section begins
vacant_follows h slots marks section begins t e gone was u p c b w f at end begun snapshot word =
    let o = in_vacated slots t u e f gone (inr at) in
    was u p c b w f (sym (get_or-set_other slots t u Vacant Vacant o.0) ∙ at) end begun snapshot word

vacant_live : (h : List Change) (slots : List Slot) (t : ℕ) (e : Entry) → slot_at slots t ≡ Retired e → CountsLive h slots → CountsLive h (set slots t Vacant)
vacant_live h slots t e gone was = omega (arith, live_count_put slots t (Retired e) Vacant (in_within slots t e (inr gone)) gone, was)

-- nothing holds the retired entry
record Unheld (s k : State) (t : ℕ) (e : Entry) : Type 0 where
  pub gone : slot_at s.slots t ≡ Retired e
  pub passive : (c : ℕ) → passive_at s.passive c t - trying_at s.hands c t ≡ 0
  pub left : LeavesFree s k t
  pub now : Holds k

freed_model : (s : SessionState) (r : Registry) (k : State) (t : ℕ) (e : Entry) (keeps : ℕ → Option ℕ) → Holds s.core → Shows s r → Unheld s.core k t e
    → ((u : ℕ) → keeps u ≡ kept_at (set s.core.keeps t None) u)
    → ShowsModel s.core.history s.core.begins s.core.found s.core.passive s.core.hands (set s.core.slots t Vacant) s.core.locals (set s.core.keeps t None)
    (record r.model { occupants = put r.model.occupants t None; keeps = keeps })
freed_model s r k t e keeps holds on u kept = record {
  history = on.model.history;
  sections = on.model.sections;
  last_found = on.model.last_found;
  held = λ c n. on.model.held c n ∙ passive_moved s.core.history s.core.history s.core.slots (set s.core.slots t Vacant) s.core.passive s.core.hands c n holds.slots
      (subst (λ (x : State). SlotsShow x.history x.slots) u.left.only u.now.slots)
      (λ v was. either (cases_eq v t)
      (λ same. inr (ap (λ (w : ℕ). passive_at s.core.passive c w - trying_at s.core.hands c w) same ∙ u.passive c))
      (λ off. inl (was.0, in_other s.core.slots t Vacant was.0 v off was.1, was.2)))
      (λ v was. inl (was.0, (in_vacated s.core.slots t v e was.0 u.gone was.1).1, was.2));
  counted = on.model.counted;
  occupants = put_is r.model.occupants (λ v. number_in (slot_at (set s.core.slots t Vacant) v)) t None
      (ap number_in (sym (get_or-set_same s.core.slots t Vacant Vacant (in_within s.core.slots t e (inr u.gone)))))
      (λ v off. on.model.occupants v ∙ ap number_in (sym (get_or-set_other s.core.slots t v Vacant Vacant off)));
  kept = kept;
}

freed_by : (s : SessionState) (r : Registry) (k : State) (t : ℕ) (e : Entry) (o : Option ℕ) → Holds s.core → Shows s r → Unheld s.core k t e → kept_at s.core.keeps t ≡ o
    → Shows (with_core s (record s.core { seated = s.core.settings.cpus; marks = k.marks; counts = k.counts; totals = k.totals; slots = set s.core.slots t Vacant; keeps = set s.core.keeps t None }))
    (with_freed r t o)
freed_by s r k t e None holds on u at = assumption (
  freed_model s r k t e r.model.keeps holds on u (λ v. on.model.kept v ∙ unwritten (λ (x : Option ℕ). x) None s.core.keeps t None at v),
  vacant_live s.core.history s.core.slots t e u.gone on.live,
  vacant_follows s.core.history s.core.slots k.marks s.core.section s.core.begins t e u.gone
      (grown_follows s.core.history s.core.slots s.core.marks k.marks s.core.section s.core.begins (grown_snapshots s.core.marks k.marks t u.left.marks) on.grace),
  freed_tallies s.core.settings.cpus s.core.history s.core.slots s.core.counts k.counts s.core.nets s.core.totals k.totals r.acquired r.released r.given_up r.given_up r.is_collected t e None
      u.gone u.left.counts (λ v off. ap (λ (x : Option ℕ). total_at k.totals v + core.count_given_up x (slot_at s.core.slots v)) (sym at) ∙ u.left.totals v off) (λ v f is. omega arith)
      (λ m above. refl) on.tallies,
)
freed_by s r k t e (Some d) holds on u at =
    let driver = holds.kept_drivers.drivers t d at in
    assumption (
      freed_model s r k t e (put r.model.keeps t None) holds on u
          (put_shows r.model.keeps None s.core.keeps t None None (within_some s.core.keeps t d at) on.model.kept refl),
      vacant_live s.core.history s.core.slots t e u.gone on.live,
      vacant_follows s.core.history s.core.slots k.marks s.core.section s.core.begins t e u.gone
          (grown_follows s.core.history s.core.slots s.core.marks k.marks s.core.section s.core.begins (grown_snapshots s.core.marks k.marks t u.left.marks) on.grace),
      freed_tallies s.core.settings.cpus s.core.history s.core.slots s.core.counts k.counts s.core.nets s.core.totals k.totals r.acquired r.released r.given_up
          (put r.given_up d (r.given_up d + 1)) r.is_collected t e (Some d)
          u.gone u.left.counts (λ v off. ap (λ (x : Option ℕ). total_at k.totals v + core.count_given_up x (slot_at s.core.slots v)) (sym at) ∙ u.left.totals v off)
          (λ v f is. gives_one s.core.slots r.given_up d v f is)
          (λ m above. put_other r.given_up d (r.given_up d + 1) m (λ same. omega (arith, same, above, driver.3, number_within s.core.history s.core.slots driver.0 driver.1 holds.slots driver.2)))
          on.tallies,
    )

freed_shows : (s : SessionState) (r : Registry) (k : State) (t : ℕ) (e : Entry) → Holds s.core → Shows s r → Unheld s.core k t e → Shows (with_core s k) (with_freed r t (r.model.keeps t))
freed_shows s r k t e holds on u =
    subst (λ (x : State). Shows (with_core s x) (with_freed r t (r.model.keeps t))) (sym u.left.only) (freed_by s r k t e (r.model.keeps t) holds on u (sym (on.model.kept t)))

-- What an advance leaves

-- nothing freed the slot but that nothing stood in the way
free_tells : (t u k : ℕ) (open_ passive : Option ℕ) → stage_of t open_ passive k ≡ Freed u → (u ≡ t) × (passive ≡ None)
free_tells t u k (Some c) passive is = absurd (let q : Grace c ≡ Freed u = is in cc)
free_tells t u k None (Some c) is = absurd (let q : Passive c ≡ Freed u = is in cc)
free_tells t u zero None None is = let q : Freed t ≡ Freed u = is in (cc, refl)
free_tells t u (suc k) None None is = absurd (let q : Local (suc k) ≡ Freed u = is in cc)

no_words : (w : ℕ) → nat_lt 0 w ≡ false → w ≡ 0
no_words zero is = refl
no_words (suc w) is = absurd (let q : ◌≡◌ {A = Bool} true false = sym (lt-ltb 0 (suc w) (omega arith)) ∙ is in cc)

-- the word of a CPU without a passive reference counts no more than what it is trying
counts_none : (s : State) (t c : ℕ) (e : Entry) → Holds s → slot_at s.slots t ≡ Retired e → core.has_passive s t c ≡ false → passive_at s.passive c t - trying_at s.hands c t ≡ 0
counts_none s t c e on gone none = either (cases_Bool (mark_at s.marks t c).clear)
    (λ clear. omega (arith, (on.passive.clear c t e gone clear).1))
    (λ unclear. omega (arith, no_words (passive_at s.passive c t) (sym (unclear_some (nat_lt 0 (passive_at s.passive c t)) (mark_at s.marks t c).clear unclear) ∙ none)))

unheld_at : (s : SessionState) (k : State) (n t u : ℕ) (e : Entry) → Holds s.core → Holds k → core.first_obstacle s.core t n ≡ Freed u → slot_at s.core.slots t ≡ Retired e → LeavesFree s.core k t
    → Unheld s.core k t e
unheld_at s k n t u e holds now stage gone left = record {
  gone = gone;
  passive = λ c. either (cases_lt c s.core.settings.cpus)
      (λ lt. counts_none s.core t c e holds gone (least_none (core.has_passive s.core t) s.core.settings.cpus (free_tells t u _ _ _ stage).1 c lt))
      (λ ge. omega (arith, holds.passive.beyond c t ge));
  left = left;
  now = now;
}

staged_shows : (s : SessionState) (r : Registry) (k : State) (n t : ℕ) (stage : Stage) → Holds s.core → Holds k → Shows s r → core.first_obstacle s.core t n ≡ stage
    → values.retired_slot s.core.slots n ≡ Some t → StageLeaves s.core k t stage
    → Shows (with_core s k) (after_stage r n stage)
staged_shows s r k n t (Local j) holds now on is at left =
    let told = retired_slot_tells s.core.slots n t at in
    subst (λ m. Shows (with_core s k) (record r { is_collected = put r.is_collected m true })) told.1.2 (collected_shows s r k t j told.1.0 holds on told.1.1 left)
staged_shows s r k n t (Freed u) holds now on is at left =
    let told = retired_slot_tells s.core.slots n t at in
    let here : t ≡ u = sym (free_tells t u _ _ _ is).0 in
    subst (λ v. Shows (with_core s k) (with_freed r v (r.model.keeps v))) here (freed_shows s r k t told.1.0 holds on (unheld_at s k n t u told.1.0 holds now is told.1.1 left))
staged_shows s r k n t _ holds now on is at left = marks_shows s r k t on left

advance_by : (s : SessionState) (r : Registry) (k : State) (n : ℕ) (answer : Result Stage Refusal) → Holds s.core → Holds k → Shows s r → core.advance_answer s.core n ≡ answer
    → AdvanceLeaves s.core k n answer
    → Shows (with_core s k) (on_ok r answer (after_stage r n))
advance_by s r k n (Err f) holds now on is left = subst (λ (x : State). Shows (with_core s x) r) (sym left) on
advance_by s r k n (Ok stage) holds now on is left =
    staged_shows s r k n left.0 stage holds now on (same_Ok (core.first_obstacle s.core left.0 n) stage (ap (core.stage_in s.core n) (sym left.1) ∙ is)) left.1 left.2

-- What an advance leaves shows what it leaves of the registry.
pub advance_shows : (s : SessionState) (r : Registry) (k : State) (n : ℕ) → IsSession s → Holds k → Shows s r → AdvanceLeaves s.core k n (core.advance_answer s.core n)
    → Shows (with_core s k) (after_advance r n)
advance_shows s r k n is now on left =
    subst (λ (a : Result Stage Refusal). Shows (with_core s k) (on_ok r a (after_stage r n))) (advance_answers s r n is on)
    (advance_by s r k n (core.advance_answer s.core n) is.holds now on refl left)

-- Destroy

pub destroy_answers : (s : SessionState) (r : Registry) (c n : ℕ) → IsSession s → Shows s r → core.destroy_answer s.core c n ≡ destroy_answer r c n
destroy_answers s r c n is on =
    let inside = sym (inside_is s r c on) in
    let answer = advance_answers s r n is on in
    λ i. if inside i then Err Inside else destroy_result_of (answer i)

-- what is left of the last turn of a destroy is what an advance leaves
stage_leaves : (s k : State) (n : ℕ) (stage : Stage) → DestroyLeaves s k n (destroy_result stage) → AdvanceLeaves s k n (Ok stage)
stage_leaves s k n (Grace c) left = left
stage_leaves s k n _ left = left

turn_leaves : (s k : State) (n : ℕ) (o : Option ℕ) → DestroyLeaves s k n (destroy_result_of (core.stage_in s n o)) → AdvanceLeaves s k n (core.stage_in s n o)
turn_leaves s k n None left = left
turn_leaves s k n (Some t) left = stage_leaves s k n (core.first_obstacle s t n) left

destroy_by : (s : SessionState) (r : Registry) (k : State) (n : ℕ) (b : Bool) → IsSession s → Holds k → Shows s r
    → DestroyLeaves s.core k n (if b then Err Inside else destroy_result_of (core.advance_answer s.core n))
    → Shows (with_core s k) (if b then r else after_advance r n)
destroy_by s r k n true is now on left = subst (λ (x : State). Shows (with_core s x) r) (sym left) on
destroy_by s r k n false is now on left = advance_shows s r k n is now on (turn_leaves s.core k n (values.retired_slot s.core.slots n) left)

-- What a destroy leaves shows what it leaves of the registry.
pub destroy_shows : (s : SessionState) (r : Registry) (k : State) (c n : ℕ) → IsSession s → Holds k → Shows s r → DestroyLeaves s.core k n (core.destroy_answer s.core c n)
    → Shows (with_core s k) (after_destroy r c n)
destroy_shows s r k c n is now on left =
    subst (λ (b : Bool). Shows (with_core s k) (if b then r else after_advance r n)) (sym (inside_is s r c on)) (destroy_by s r k n (events.is_inside s.core c) is now on left)

-- Perform

pub perform_answers : (s : SessionState) (r : Registry) (c : ℕ) → Shows s r → core.perform_answer s.core c ≡ perform_answer r c
perform_answers s r c on =
    let inside = sym (inside_is s r c on) in
    let cpus : s.core.settings.cpus ≡ r.settings.cpus = sym (ap (λ z. z.cpus) on.settings) in
    let least : least_below (events.is_inside s.core) s.core.settings.cpus ≡ least_below (is_inside r) r.settings.cpus =
    least_agrees (events.is_inside s.core) (is_inside r) s.core.settings.cpus (λ d lt. sym (inside_is s r d on)) ∙ ap (least_below (is_inside r)) cpus in
    λ i. if inside i then Err Inside else wait_answer (least i)

waited_shows : (s : SessionState) (r : Registry) (k : State) (o : Option ℕ) → Shows s r → PerformLeaves s.core k (wait_answer o) → Shows (with_core s k) r
waited_shows s r k None on left = subst (λ (x : State). Shows (with_core s x) r) (sym left.only) (marked_shows s r k.marks on (λ u c. (left.marks u c).snapshot))
waited_shows s r k (Some d) on left = subst (λ (x : State). Shows (with_core s x) r) (sym left) (seated_shows s r on)

perform_by : (s : SessionState) (r : Registry) (k : State) (b : Bool) (o : Option ℕ) → Shows s r → PerformLeaves s.core k (if b then Err Inside else wait_answer o) → Shows (with_core s k) r
perform_by s r k true o on left = subst (λ (x : State). Shows (with_core s x) r) (sym left) on
perform_by s r k false o on left = waited_shows s r k o on left

-- What a perform leaves shows the registry as it was.
pub perform_shows : (s : SessionState) (r : Registry) (k : State) (c : ℕ) → Shows s r → PerformLeaves s.core k (core.perform_answer s.core c) → Shows (with_core s k) r
perform_shows s r k c on left = perform_by s r k (events.is_inside s.core c) (least_below (events.is_inside s.core) s.core.settings.cpus) on left
