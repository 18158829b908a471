-- Snapshots, looks, passive references and the end of a slot's use keep the invariant; the opening state has it.
use Rattle.std.proofs.Common.{Bool, List, None, Option, Some, [], ap, arith, false, get_or, length, length-set, ltb-true, refl, replicate, set, subst, suc, sym, true, zero, ℕ, ◌&&◌, ◌+◌, ◌-◌, ◌<◌, ◌||◌, ◌∙◌, ◌≡◌, ◌≤◌, inl, inr}
use Rattle.std.proofs.lemmas.Bool.{and_parts, cases_lt, eqb-true, or_cases}
use Rattle.std.proofs.lemmas.List.{get_or_past, length-replicate}
use Rattle.std.proofs.lemmas.Option.{none-some}
use Rattle.std.specs.Prelude.{IsTrue, is_none, nat_lt, ◌==◌}
use Rattle.protocol.proofs.History.{at_empty, empty_brings, empty_ends}
use Rattle.protocol.proofs.keeps.ListKeeps.{CountsOf, DriversOf, ReferencesOf, cell_sized, live_count_put}
use Rattle.protocol.proofs.keeps.Marking.{held_vacate, list_all_within, marks_look, marks_snapshot, marks_vacate, marks_write, slots_vacate, snapshots_marked, snapshots_taken, found_not_passed, passive_counted, passive_marked, passive_vacate, vacated_before}
use Rattle.protocol.proofs.keeps.Linking.{within_retired}
use Rattle.protocol.specs.Common.{AreRows, DueHolds, Holds, SnapshotsStand, To_end, at_rest, State, found_at, kept_at, mark_at, opening, passive_at, trying_at, trying_of, section_at, total_at, Rest, Snapshots, Empty, IsSeenInHand, IsLegal, SlotsShow, MarksHold, IsIn}
use Rattle.protocol.specs.Events
use Rattle.registry_values.specs.Common.{mark_after_passive_look, mark_after_look, are_collected, has_changed, have_passed, is_clear, is_collected, is_even, is_passed, no_mark, are_fit, is_retired, live_count, slot_of, slot_at, bias}
use Rattle.registry_values.proofs.Fit.{ranges}
use Rattle.protocol.specs.Types.{Attach, Replace, Entry, Settings, MOST_CPUS, Mark, Live, Retired, Vacant}
use Rattle.protocol.proofs.Occupied.{retired_one, not_vacant, slot_has, is_retired_tells, at_rest_tells}
use Rattle.protocol.proofs.keeps.References.{snapshot_due_tells}
use Rattle.protocol.proofs.keeps.SectionKeeps.{idle_tells}
use Rattle.protocol.proofs.Cells.{get_or_all}
use Rattle.protocol.proofs.Either.{either}

-- no more CPUs than a row has places
pub cpus_fit : (z : Settings) → IsTrue (are_fit z) → z.cpus ≤ MOST_CPUS
cpus_fit z fit = (ranges z fit).cpus

-- the place of a CPU in the marks of a retired slot
pub mark_place : (s : State) (t c : ℕ) (e : Entry) → Holds s → slot_at s.slots t ≡ Retired e → c < s.settings.cpus → (t < length s.marks) × (c < length (get_or s.marks t []))
mark_place s t c e on is low =
    let lt : t < length s.marks = omega (arith, within_retired s.slots t e is, on.shape.slots, on.shape.marks) in
    (lt, omega (arith, on.shape.mark_rows t lt, cpus_fit s.settings on.fit))

pub snapshot_keeps : (s : State) (t c : ℕ) → Holds s → Events.is_snapshot_due s.due t c ≡ true
    → CountsOf (Events.after_snapshot s t c) → ReferencesOf (Events.after_snapshot s t c) → Holds (Events.after_snapshot s t c)
snapshot_keeps s t c on is counts references =
    let due : s.due ≡ Snapshots t c = snapshot_due_tells s.due t c is in
    let there : DueHolds s.settings.cpus s.slots (Snapshots t c) = subst (DueHolds s.settings.cpus s.slots) due on.references.due_at in
    let place = mark_place s t c there.1.0 on there.1.1 there.0 in
    assumption (
      cell_sized s.marks t c (Events.snapshot_mark (section_at s c)) on.shape.marks on.shape.mark_rows,
      marks_snapshot s.history s.slots s.marks s.section s.begins t c on.grace,
      snapshots_taken s.settings.cpus s.slots s.marks t c (section_at s c) place.0 place.1 (subst (SnapshotsStand s.settings.cpus s.slots s.marks) due on.snapshots),
      passive_marked s.settings.cpus s.settings.passive_limit s.slots s.marks s.passive s.hands t c (Events.snapshot_mark (section_at s c))
          (λ e is holds. absurd (let q : ◌≡◌ {A = Bool} false true = holds in cc)) (λ e is holds. absurd (let q : ◌≡◌ {A = Bool} false true = holds in cc)) on.passive,
    )

pub look_keeps : (s : State) (t c : ℕ) → Holds s → Events.may_examine s t c ≡ true → CountsOf (Events.after_look s t c) → Holds (Events.after_look s t c)
look_keeps s t c on may counts =
    assumption (
      cell_sized s.marks t c (mark_after_look (mark_at s.marks t c) (section_at s c)) on.shape.marks on.shape.mark_rows,
      marks_look s.settings s.history s.slots s.marks s.section s.begins s.depths s.seen t c on.sections on.grace,
      snapshots_marked s.settings.cpus s.slots s.marks s.due t c (mark_after_look (mark_at s.marks t c) (section_at s c)) refl on.snapshots,
      passive_marked s.settings.cpus s.settings.passive_limit s.slots s.marks s.passive s.hands t c (mark_after_look (mark_at s.marks t c) (section_at s c))
          (λ e is holds. let was = on.passive.clear c t e is holds in (ap (λ (b : Bool). b || (is_even (section_at s c) || has_changed (mark_at s.marks t c).snapshot (section_at s c))) was.0, was.1))
          (λ e is holds. on.passive.collected c t e is holds) on.passive,
    )

-- what a slot that may be examined shows
pub may_examine_tells : (s : State) (t c : ℕ) → Events.may_examine s t c ≡ true → (s.due ≡ Rest) × (c < s.settings.cpus) × ((e : Entry) × (slot_at s.slots t ≡ Retired e))
may_examine_tells s t c may = grind (arith, and_parts, at_rest_tells, ltb-true, is_retired_tells)

pub look_passive_keeps : (s : State) (t c : ℕ) → Holds s → Events.may_look_passive s t c ≡ true → CountsOf (Events.after_look_passive s t c) → Holds (Events.after_look_passive s t c)
look_passive_keeps s t c on may counts =
    let p = and_parts (Events.may_examine s t c) (have_passed s.settings.cpus (get_or s.marks t [])) may in
    let told = may_examine_tells s t c p.0 in
    let place = mark_place s t c told.2.0 on told.2.1 told.1 in
    let passed : (mark_at s.marks t c).passed ≡ true = list_all_within is_passed (get_or s.marks t []) s.settings.cpus c no_mark p.1 told.1 place.1 in
    let mark : Mark = mark_after_passive_look (mark_at s.marks t c) (passive_at s.passive c t) in
    assumption (
      cell_sized s.marks t c mark on.shape.marks on.shape.mark_rows,
      marks_write s.history s.slots s.marks s.section s.begins t c mark
          (λ p b e. on.grace.passed t p c b e) (λ p b w e. on.grace.changed t p c b w e) (λ w e. on.grace.older t c w e) (λ b w e. on.grace.left t c b w e) on.grace,
      snapshots_marked s.settings.cpus s.slots s.marks s.due t c mark refl on.snapshots,
      passive_marked s.settings.cpus s.settings.passive_limit s.slots s.marks s.passive s.hands t c mark
          (λ e is holds. (
            passed,
            either (or_cases (mark_at s.marks t c).clear (passive_at s.passive c t == 0) holds)
                (λ before. (on.passive.clear c t e is before).1)
                (λ now. omega (arith, eqb-true (passive_at s.passive c t) 0 now, on.passive.counted c t)),
          ))
          (λ e is holds. ap (λ (b : Bool). b || (passive_at s.passive c t == 0)) (on.passive.collected c t e is holds)) on.passive,
    )

pub add_keeps : (s : State) (c n t : ℕ) → Holds s → slot_of s.slots n ≡ Some t → Events.may_add s c n t ≡ true → Holds (Events.after_add s c t)
add_keeps s c n t on of may =
    let p = and_parts (Events.is_idle s c) ((Events.is_number n (found_at s c) || nat_lt 0 (passive_at s.passive c t)) && nat_lt (passive_at s.passive c t) s.settings.passive_limit) may in
    let q = and_parts (Events.is_number n (found_at s c) || nat_lt 0 (passive_at s.passive c t)) (nat_lt (passive_at s.passive c t) s.settings.passive_limit) p.1 in
    let idle = idle_tells s c on p.0 in
    let low : c < s.settings.cpus = idle.0 in
    let untried : trying_at s.hands c t ≡ 0 = ap (trying_of t) idle.1 in
    let fits : passive_at s.passive c t < s.settings.passive_limit = ltb-true (passive_at s.passive c t) s.settings.passive_limit q.1 in
    let there = slot_has s.slots n t of in
    assumption (
      cell_sized s.passive t c (passive_at s.passive c t + 1) on.shape.passive on.shape.passive_rows,
      passive_counted s.settings.cpus s.settings.passive_limit s.slots s.marks s.passive s.hands c t (passive_at s.passive c t + 1) low (omega (arith, fits)) (omega (arith, untried))
          (λ vacant. not_vacant there.1.0 (slot_at s.slots t) vacant there.1.1)
          (λ e gone clear. either (or_cases (Events.is_number n (found_at s c)) (nat_lt 0 (passive_at s.passive c t)) q.0)
          (λ f.
          let same : there.1.0 ≡ e = retired_one there.1.0 e (slot_at s.slots t) gone there.1.1 in
          let number : n ≡ e.number = sym there.1.2 ∙ ap (λ (g : Entry). g.number) same in
          found_not_passed s.history s.slots s.marks s.section s.begins s.found c t e on.slots on.grace on.last_found gone (ap (λ (k : ℕ). Events.is_number k (found_at s c)) (sym number) ∙ f)
          (on.passive.clear c t e gone clear).0)
          (λ h. omega (arith, untried, ltb-true 0 (passive_at s.passive c t) h, (on.passive.clear c t e gone clear).1)))
          on.passive,
    )

pub sub_keeps : (s : State) (c t : ℕ) → Holds s → Events.may_sub s c t ≡ true → Holds (Events.after_sub s c t)
sub_keeps s c t on may =
    let p = and_parts (Events.is_idle s c) (nat_lt 0 (passive_at s.passive c t)) may in
    let some : 0 < passive_at s.passive c t = ltb-true 0 (passive_at s.passive c t) p.1 in
    let idle = idle_tells s c on p.0 in
    let untried : trying_at s.hands c t ≡ 0 = ap (trying_of t) idle.1 in
    assumption (
      cell_sized s.passive t c (passive_at s.passive c t - 1) on.shape.passive on.shape.passive_rows,
      passive_counted s.settings.cpus s.settings.passive_limit s.slots s.marks s.passive s.hands c t (passive_at s.passive c t - 1) idle.0 (omega (arith, on.passive.limited c t)) (omega (arith, untried))
          (λ vacant. omega (arith, some, untried, on.passive.vacant c t vacant)) (λ e gone clear. omega (arith, some, untried, (on.passive.clear c t e gone clear).1)) on.passive,
    )

-- what a drained slot shows
pub is_drained_tells : (s : State) (t : ℕ) → Holds s → Events.is_drained s t ≡ true
    → (s.due ≡ Rest) × ((e : Entry) × (slot_at s.slots t ≡ Retired e)) × ((c : ℕ) → c < s.settings.cpus → (mark_at s.marks t c).passed ≡ true)
    × ((c : ℕ) → c < s.settings.cpus → (mark_at s.marks t c).clear ≡ true)
    × ((c : ℕ) → c < s.settings.cpus → (mark_at s.marks t c).collected ≡ true) × (total_at s.totals t ≡ bias)
is_drained_tells s t on is =
    let row : List Mark = get_or s.marks t [] in
    let p = and_parts (at_rest s.due) _ is in
    let p1 = and_parts (is_retired (slot_at s.slots t)) _ p.1 in
    let p2 = and_parts (Events.is_drainable s t) _ p1.1 in
    let p3 = and_parts (are_collected s.settings.cpus row) _ p2.1 in
    let p4 = and_parts (have_passed s.settings.cpus row) _ p2.0 in
    let gone = is_retired_tells (slot_at s.slots t) p1.0 in
    let place : (c : ℕ) → c < s.settings.cpus → c < length row = λ c low. (mark_place s t c gone.0 on gone.1 low).1 in (
      at_rest_tells s.due p.0,
      gone,
      λ c low. list_all_within is_passed row s.settings.cpus c no_mark p4.0 low (place c low),
      λ c low. list_all_within is_clear row s.settings.cpus c no_mark p4.1 low (place c low),
      λ c low. list_all_within is_collected row s.settings.cpus c no_mark p3.0 low (place c low),
      eqb-true (total_at s.totals t) bias p3.1,
    )

-- a drained slot becomes vacant; what slots keep and their totals may change beside it
abbrev pub vacated : State → ℕ → List ℕ → List (Option ℕ) → State
vacated s t totals keeps = record s { totals = totals; slots = set s.slots t Vacant; keeps = keeps }

pub vacated_keeps : (s : State) (t : ℕ) (totals : List ℕ) (keeps : List (Option ℕ)) → Holds s → Events.is_drained s t ≡ true → length totals ≡ length s.totals → length keeps ≡ length s.keeps
    → CountsOf (vacated s t totals keeps) → ReferencesOf (vacated s t totals keeps) → DriversOf (vacated s t totals keeps) → Holds (vacated s t totals keeps)
vacated_keeps s t totals keeps on drained total_size keep_size counts references drivers =
    let told = is_drained_tells s t on drained in
    let gone : (e : Entry) × (slot_at s.slots t ≡ Retired e) = told.1 in
    let lt : t < length s.slots = within_retired s.slots t gone.0 gone.1 in
    let same : live_count (set s.slots t Vacant) + 0 ≡ live_count s.slots + 0 = live_count_put s.slots t (Retired gone.0) Vacant lt gone.1 in
    let room : length s.history + live_count (set s.slots t Vacant) ≤ s.settings.change_limit = omega (arith, same, on.room) in
    assumption (
      total_size ∙ on.shape.totals,
      length-set s.slots t Vacant ∙ on.shape.slots,
      keep_size ∙ on.shape.keeps,
      slots_vacate s.history s.slots t gone.0 lt gone.1 on.slots,
      λ (u : ℕ) (f : Entry) (is : IsIn f (slot_at (set s.slots t Vacant) u)). on.rows u f (subst (IsIn f) (vacated_before s.slots t u f lt is).1 is),
      λ (u : ℕ) (f : Entry) (is : slot_at (set s.slots t Vacant) u ≡ Live f). on.list.links u f (sym (vacated_before s.slots t u f lt (inl is)).1 ∙ is),
      held_vacate s.history s.slots s.marks s.section s.begins t gone.0 lt gone.1 on.slots
          (λ c b is. told.2 c (omega (arith, within_begin s.begins c b is, on.shape.begins))) on.grace on.held,
      λ (u p c b : ℕ) (f : Entry) (is : slot_at (set s.slots t Vacant) u ≡ Retired f). on.frozen_links u p c b f (sym (vacated_before s.slots t u f lt (inr is)).1 ∙ is),
      marks_vacate s.history s.slots s.marks s.section s.begins t lt on.grace,
      λ (u c : ℕ) (f : Entry) (is : slot_at (set s.slots t Vacant) u ≡ Retired f). on.snapshots u c f (sym (vacated_before s.slots t u f lt (inr is)).1 ∙ is),
      passive_vacate s.settings.cpus s.settings.passive_limit s.slots s.marks s.passive s.hands t gone.0 lt gone.1 told.3 on.passive,
    )
  where
    within_begin : (xs : List (Option ℕ)) (c b : ℕ) → get_or xs c None ≡ Some b → c < length xs
    within_begin xs c b is = either (cases_lt c (length xs)) (λ lt. lt) (λ ge. absurd (none-some b (sym (get_or_past xs c None ge) ∙ is)))

pub vacate_keeps : (s : State) (t : ℕ) → Holds s → Events.may_vacate s t ≡ true
    → CountsOf (Events.after_vacate s t) → ReferencesOf (Events.after_vacate s t) → DriversOf (Events.after_vacate s t) → Holds (Events.after_vacate s t)
vacate_keeps s t on may counts references drivers =
    vacated_keeps s t s.totals s.keeps on (and_parts (is_none (kept_at s.keeps t)) (Events.is_drained s t) may).1 refl refl counts references drivers

pub kept_sub_keeps : (s : State) (t u : ℕ) → Holds s → Events.is_drained s t ≡ true
    → CountsOf (Events.after_kept_sub s t u) → ReferencesOf (Events.after_kept_sub s t u) → DriversOf (Events.after_kept_sub s t u) → Holds (Events.after_kept_sub s t u)
kept_sub_keeps s t u on drained counts references drivers =
    vacated_keeps s t (set s.totals u (total_at s.totals u - 1)) (set s.keeps t None) on drained (length-set s.totals u _) (length-set s.keeps t None) counts references drivers

-- the opening state
pub none_live : (n : ℕ) → live_count (replicate n Vacant) ≡ 0
none_live zero = refl
none_live (suc n) = none_live n

pub cell_all : {X : Type 0} (n m : ℕ) (x : X) (t c : ℕ) → get_or (get_or (replicate n (replicate m x)) t []) c x ≡ x
cell_all zero m x t c = refl
cell_all (suc n) m x zero c = get_or_all m x c
cell_all (suc n) m x (suc t) c = cell_all n m x t c

pub rows_all : {X : Type 0} (n : ℕ) (row : List X) → length row ≡ MOST_CPUS → AreRows (replicate n row)
rows_all zero row size t lt = absurd (omega arith)
rows_all (suc n) row size zero lt = size
rows_all (suc n) row size (suc t) lt = rows_all n row size t (omega arith)

pub legal_opening : IsLegal []
legal_opening = record {
  numbered = λ k e x. absurd (empty_brings k e x);
  new_key = λ k e f x live same. at_empty (suc k) (Attach e) x;
  new_slot = λ k e f x live same. empty_brings (suc k) e x;
  ends_live = λ k n x. absurd (empty_ends n (suc k) x);
  alike = λ k n r e f x live same. absurd (at_empty (suc k) (Replace n r e) x);
}

slots_opening : (z : Settings) → SlotsShow (opening z).history (opening z).slots
slots_opening z = record {
  live = λ t e is. absurd (let q : Vacant ≡ Live e = sym (get_or_all z.slots Vacant t) ∙ is in cc);
  placed = λ e live. absurd (empty_brings e.number e live.attached);
  retired = λ t e is. absurd (let q : Vacant ≡ Retired e = sym (get_or_all z.slots Vacant t) ∙ is in cc);
}

grace_opening : (z : Settings) → MarksHold (opening z).history (opening z).slots (opening z).marks (opening z).section (opening z).begins
grace_opening z = grind (arith, get_or_all)

pub opening_holds : (z : Settings) → IsTrue (are_fit z) → CountsOf (opening z) → ReferencesOf (opening z) → DriversOf (opening z) → Holds (opening z)
opening_holds z fit counts references drivers =
    let not_retired : (t : ℕ) (e : Entry) → slot_at (replicate z.slots Vacant) t ≡ Retired e → ⊥ = λ t e is. (let q : Vacant ≡ Retired e = sym (get_or_all z.slots Vacant t) ∙ is in cc) in
    let untried : (c t : ℕ) → trying_at (replicate z.cpus Empty) c t ≡ 0 = λ c t. ap (trying_of t) (get_or_all z.cpus Empty c) in
    let unheld : (c t : ℕ) → passive_at (replicate z.slots (replicate MOST_CPUS 0)) c t ≡ 0 = λ c t. cell_all {X = ℕ} z.slots MOST_CPUS 0 t c in
    record {
      fit = fit;
      shape = grind (arith, length-replicate, rows_all);
      legal = legal_opening;
      room = omega (arith, none_live z.slots);
      slots = slots_opening z;
      rows = λ t e is. absurd (not_vacant e (slot_at (replicate z.slots Vacant) t) (get_or_all z.slots Vacant t) is);
      list = record {
        first = To_end (λ f live lt. empty_brings f.number f live.attached);
        links = λ t e is. absurd (let q : Vacant ≡ Live e = sym (get_or_all z.slots Vacant t) ∙ is in cc);
      };
      held = λ c b e is hold. absurd (empty_brings e.number e hold.attached);
      frozen_links = λ t p c b e is. absurd (not_retired t e is);
      grace = grace_opening z;
      snapshots = λ t c e is. absurd (not_retired t e is);
      seats = grind (arith, get_or_all);
      sections = grind (arith, get_or_all);
      searches = λ c q is. absurd (none-some q (sym (get_or_all z.cpus None c) ∙ is));
      last_found = λ c e is. absurd (none-some e (sym (get_or_all z.cpus None c) ∙ is));
      passive = record {
        counted = λ c t. omega (arith, untried c t);
        vacant = λ c t is. unheld c t ∙ sym (untried c t);
        clear = λ c t e is. absurd (not_retired t e is);
        collected = λ c t e is. absurd (not_retired t e is);
        beyond = λ c t past. unheld c t;
        limited = λ c t. omega (arith, unheld c t);
      };
      balance = counts;
      tries = λ c. subst (IsSeenInHand (get_or (replicate z.cpus 0) c 0)) (sym (get_or_all z.cpus Empty c)) tt;
      references = references;
      kept_drivers = drivers;
    }
