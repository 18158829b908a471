-- The events on local references keep the invariant.
use Rattle.std.proofs.Common.{List, None, Some, [], ap, arith, false, get_or, leb-true, inr, length, length-set, ltb-true, not, refl, set, subst, sym, true, ℕ, ◌&&◌, ◌+◌, ◌-◌, ◌<◌, ◌∙◌, ◌≡◌, ◌≤◌}
use Rattle.std.proofs.lemmas.Bool.{and_parts, cases_lt, eq-eqb, eqb-true}
use Rattle.std.proofs.lemmas.List.{get_or_past}
use Rattle.std.specs.Prelude.{is_none, nat_lt}
use Rattle.protocol.proofs.counts.Counts as C
use Rattle.protocol.proofs.keeps.ListKeeps.{CountsOf, cell_sized, may_write_tells, false_from}
use Rattle.protocol.proofs.keeps.MarkKeeps.{cpus_fit, mark_place, may_examine_tells}
use Rattle.protocol.proofs.Cells.{cell_put}
use Rattle.protocol.proofs.keeps.Marking.{list_all_within, marks_write, snapshots_marked, found_not_passed, passive_hand, passive_hands, trying_taken, passive_marked, passive_shifted, shifted_back, shifted_try, trying_one}
use Rattle.protocol.proofs.Occupied.{at_rest_tells, is_retired_tells, one_number, slot_has, slot_its, slot_occupied}
use Rattle.protocol.proofs.keeps.Drivers.{drivers_keep}
use Rattle.protocol.proofs.keeps.References.{back_holds, due_adding, due_subtracting, giving_holds, hand_seated, references_count_down, references_join, references_split, references_split_back, references_unheld, seats_hand, references_freed}
use Rattle.protocol.proofs.keeps.SectionKeeps.{idle_parts, idle_tells, none_from, see_keeps, tries_hand}
use Rattle.protocol.specs.Common.{search_at, Holds, IsCounting, IsIn, IsSeenInHand, SeatsShow, TriesSeen, seen_at, SnapshotsStand, at_rest, State, count_at, found_at, hand_at, kept_at, local_at, mark_at, passive_at, total_at, trying_at, trying_of, with_cell, Due, Adding, Rest, Snapshots, Subtracting, Hand, Back, Empty, Giving, Taking, Trying, Lifted, Standing}
use Rattle.protocol.specs.Events
use Rattle.registry_values.specs.Common.{mark_after_collect, are_clear, have_passed, is_clear, is_some_collected, no_mark, is_retired, slot_of, slot_at, bias}
use Rattle.protocol.specs.Types.{Entry, Slot, Live}
use Rattle.protocol.proofs.Either.{either}

-- the lengths and limits of the counts
pub fit_of : (s : State) → Holds s → C.CountsFit s.settings s.slots s.marks s.counts s.nets s.totals s.hands s.keeps
fit_of s on = C.counts_fit s on.fit on.shape

-- where no snapshot is due, all stand
pub snapshots_all : (s : State) (next : Due) → ((t d : ℕ) → s.due ≡ Snapshots t d → ⊥) → Holds s → SnapshotsStand s.settings.cpus s.slots s.marks next
snapshots_all s next none on t c e is low later = on.snapshots t c e is low (λ due. none t due.0 due.1)

pub not_at_rest : (due : Due) (t d : ℕ) → due ≡ Rest → due ≡ Snapshots t d → ⊥
not_at_rest due t d rest is = let q : Rest ≡ Snapshots t d = sym rest ∙ is in cc

-- a CPU with something in its hand is in range
pub hand_within : (s : State) (c : ℕ) → Holds s → (hand_at s c ≡ Empty → ⊥) → c < s.settings.cpus
hand_within s c on off = omega (arith, hand_seated s.settings.cpus s.seated s.begins s.searches s.hands c off on.seats, on.seats.within)

-- what stays where a hand is written: the seats, and that what is tried was seen
abbrev HandPut : State → ℕ → Hand → Type 0
HandPut s c h = (length (set s.hands c h) ≡ s.settings.cpus) × SeatsShow s.settings.cpus s.seated s.begins s.searches (set s.hands c h) × TriesSeen s.seen (set s.hands c h)

hand_put : (s : State) (c : ℕ) (h : Hand) → Holds s → c < s.seated → IsSeenInHand (seen_at s c) h → HandPut s c h
hand_put s c h on lt seen =
    (length-set s.hands c h ∙ on.shape.hands, seats_hand s.settings.cpus s.seated s.begins s.searches s.hands c h lt on.seats, tries_hand s.seen s.hands c h seen on.tries)

-- a hand that wasn't empty
pub hand_full : (s : State) (c : ℕ) (h x : Hand) → Holds s → hand_at s c ≡ x → (x ≡ Empty → ⊥) → IsSeenInHand (seen_at s c) h → (c < length s.hands) × HandPut s c h
hand_full s c h x on hand full seen =
    let lt = hand_seated s.settings.cpus s.seated s.begins s.searches s.hands c (λ empty. full (sym hand ∙ empty)) on.seats in
    (omega (arith, lt, on.seats.within, on.shape.hands), hand_put s c h on lt seen)

-- the slot that a number has is the only one
pub only_slot : (s : State) (t n : ℕ) (e : Entry) → Holds s → IsIn e (slot_at s.slots t) → e.number ≡ n → (u : ℕ) (f : Entry) → IsIn f (slot_at s.slots u) → f.number ≡ n → u ≡ t
only_slot s t n e on is number u f also same = (one_number s.history s.slots t u e f on.slots is also (same ∙ sym number)).0

-- A store to a count word of a vacant slot.
pub count_store_keeps : (s : State) (t c v : ℕ) → Holds s → Events.may_write s t ≡ true → c < s.settings.cpus → Holds (Events.after_count_store s t c v)
count_store_keeps s t c v on may lt = grind (arith, may_write_tells, cell_sized, C.count_store)

-- the word for an entry that the open section may hold counts
pub held_counting : (s : State) (c t : ℕ) (e : Entry) → Holds s → found_at s c ≡ Some e → slot_of s.slots e.number ≡ Some t → IsIn e (slot_at s.slots t) × IsCounting s.slots s.marks c t
held_counting s c t e on found of =
    let open_ = on.last_found c e found in
    let there : IsIn e (slot_at s.slots e.slot) = on.held c open_.0 e open_.1 open_.2 in
    let same : t ≡ e.slot = slot_its s.history s.slots e.slot t e on.slots there of in
    let here : IsIn e (slot_at s.slots t) = subst (λ (k : ℕ). IsIn e (slot_at s.slots k)) (sym same) there in (
      here,
      either (C.counting_cases s.slots s.marks c t e here)
          (λ counting. counting)
          (λ off.
          absurd (found_not_passed s.history s.slots s.marks s.section s.begins s.found c t e on.slots on.grace on.last_found off.0 (ap (Events.is_number e.number) found ∙ eq-eqb e.number e.number refl)
          (on.passive.clear c t e off.0 (on.passive.collected c t e off.0 off.1)).0)),
    )

pub count_add_keeps : (s : State) (c t : ℕ) (e : Entry) → Holds s → found_at s c ≡ Some e → slot_of s.slots e.number ≡ Some t → Events.may_count s c t ≡ true → Holds (Events.after_count_add s c e.number t)
count_add_keeps s c t e on found of may =
    let p = and_parts (Events.is_idle s c) (nat_lt (count_at s.nets c t) (bias + s.settings.count_limit)) may in
    let idle = idle_tells s c on p.0 in
    let fits : count_at s.nets c t < bias + s.settings.count_limit = ltb-true (count_at s.nets c t) (bias + s.settings.count_limit) p.1 in
    let counting = held_counting s c t e on found of in
    assumption (
      cell_sized s.counts t c (count_at s.counts c t + 1) on.shape.counts on.shape.count_rows,
      cell_sized s.nets t c (count_at s.nets c t + 1) on.shape.nets on.shape.net_rows,
      hand_put s c (Taking e.number) on (idle_parts s c p.0).0 tt,
      C.count_add on.balance (fit_of s on) c t e.number e idle.0 counting.0 refl (only_slot s t e.number e on counting.0 refl) counting.1 idle.1 fits,
      passive_hand s.settings.cpus s.settings.passive_limit s.slots s.marks s.passive s.hands c (Taking e.number) (λ u. sym (ap (trying_of u) idle.1)) on.passive,
      references_unheld on.references c (Taking e.number) (omega (arith, idle.0, on.shape.hands)) (slot_occupied s.slots e.number t of),
    )

pub split_keeps : (s : State) (c n : ℕ) → Holds s → hand_at s c ≡ Taking n → Holds (Events.after_split s c n)
split_keeps s c n on hand =
    let full = hand_full s c Empty (Taking n) on hand (λ is. let q : Taking n ≡ Empty = is in cc) tt in
    assumption (
      full.1,
      C.split_ref on.balance c n full.0 hand,
      passive_hand s.settings.cpus s.settings.passive_limit s.slots s.marks s.passive s.hands c Empty (λ u. sym (ap (trying_of u) hand)) on.passive,
      references_split on.references c n full.0 hand,
    )

pub join_keeps : (s : State) (c n id : ℕ) → Holds s → local_at s.locals id ≡ Standing n → Events.is_idle s c ≡ true → Holds (Events.after_hand s c (Giving n id) id (Lifted c))
join_keeps s c n id on at idle =
    let told = idle_tells s c on idle in
    let lt : c < length s.hands = omega (arith, told.0, on.shape.hands) in
    assumption (
      hand_put s c (Giving n id) on (idle_parts s c idle).0 tt,
      C.join_ref on.balance c n id lt told.1 at,
      passive_hand s.settings.cpus s.settings.passive_limit s.slots s.marks s.passive s.hands c (Giving n id) (λ u. sym (ap (trying_of u) told.1)) on.passive,
      references_join on.references c n id lt at,
    )

-- the word isn't collected, and one is counted down
pub count_down_keeps : (s : State) (c n id t : ℕ) → Holds s → hand_at s c ≡ Giving n id → slot_of s.slots n ≡ Some t → count_at s.counts c t ≡ count_at s.nets c t → Holds (Events.after_count_down s c t id)
count_down_keeps s c n id t on hand of same =
    let full = hand_full s c Empty (Giving n id) on hand (λ is. let q : Giving n id ≡ Empty = is in cc) tt in
    let lt : c < s.settings.cpus = omega (arith, full.0, on.shape.hands) in
    let lifted = (giving_holds s.settings.cpus s.slots s.hands s.due s.locals c n id hand on.references).1 in
    let has = slot_has s.slots n t of in
    assumption (
      cell_sized s.counts t c (count_at s.counts c t - 1) on.shape.counts on.shape.count_rows,
      cell_sized s.nets t c (count_at s.nets c t - 1) on.shape.nets on.shape.net_rows,
      full.1,
      C.count_down on.balance (fit_of s on) c t n id has.1.0 lt has.1.1 has.1.2 (only_slot s t n has.1.0 on has.1.1 has.1.2) (C.is_counting on.balance c t has.1.0 lt has.1.1 same) hand lifted,
      passive_hand s.settings.cpus s.settings.passive_limit s.slots s.marks s.passive s.hands c Empty (λ u. sym (ap (trying_of u) hand)) on.passive,
      references_count_down on.references c n id full.0 hand,
    )

-- the word is collected, and the reference stays
pub collected_keeps : (s : State) (c n id : ℕ) → Holds s → hand_at s c ≡ Giving n id → Holds (Events.after_collected s c n id)
collected_keeps s c n id on hand =
    let full = hand_full s c (Back n id) (Giving n id) on hand (λ is. let q : Giving n id ≡ Empty = is in cc) tt in
    assumption (
      full.1,
      C.found_collected on.balance c n id full.0 hand,
      passive_hand s.settings.cpus s.settings.passive_limit s.slots s.marks s.passive s.hands c (Back n id) (λ u. sym (ap (trying_of u) hand)) on.passive,
      references_unheld on.references c (Back n id) full.0 (giving_holds s.settings.cpus s.slots s.hands s.due s.locals c n id hand on.references),
    )

pub split_back_keeps : (s : State) (c n id : ℕ) → Holds s → hand_at s c ≡ Back n id → Holds (Events.after_hand s c Empty id (Standing n))
split_back_keeps s c n id on hand =
    let full = hand_full s c Empty (Back n id) on hand (λ is. let q : Back n id ≡ Empty = is in cc) tt in
    let lifted = (back_holds s.settings.cpus s.slots s.hands s.due s.locals c n id hand on.references).1 in
    assumption (
      full.1,
      C.split_back on.balance c n id full.0 hand lifted,
      passive_hand s.settings.cpus s.settings.passive_limit s.slots s.marks s.passive s.hands c Empty (λ u. sym (ap (trying_of u) hand)) on.passive,
      references_split_back on.references c n id full.0 hand,
    )

pub collect_keeps : (s : State) (t c : ℕ) → Holds s → Events.may_collect s t c ≡ true → Holds (Events.after_collect s t c)
collect_keeps s t c on may =
    let p = and_parts (Events.may_examine s t c) (Events.is_drainable s t && not (mark_at s.marks t c).collected) may in
    let q = and_parts (Events.is_drainable s t) (not (mark_at s.marks t c).collected) p.1 in
    let d = and_parts (have_passed s.settings.cpus (get_or s.marks t [])) (are_clear s.settings.cpus (get_or s.marks t [])) q.0 in
    let told = may_examine_tells s t c p.0 in
    let place = mark_place s t c told.2.0 on told.2.1 told.1 in
    let clear : (mark_at s.marks t c).clear ≡ true = list_all_within is_clear (get_or s.marks t []) s.settings.cpus c no_mark d.1 told.1 place.1 in
    let still : (mark_at s.marks t c).collected ≡ false = false_from (mark_at s.marks t c).collected q.1 in
    let stand = snapshots_marked s.settings.cpus s.slots s.marks s.due t c (mark_after_collect (mark_at s.marks t c)) refl on.snapshots in
    let snapshots : SnapshotsStand s.settings.cpus s.slots (Events.after_collect s t c).marks (Adding t (count_at s.counts c t)) =
    λ u j e is low later. stand u j e is low (λ due. not_at_rest s.due u due.0 told.0 due.1) in
    assumption (
      snapshots,
      cell_sized s.counts t c 0 on.shape.counts on.shape.count_rows,
      cell_sized s.marks t c (mark_after_collect (mark_at s.marks t c)) on.shape.marks on.shape.mark_rows,
      marks_write s.history s.slots s.marks s.section s.begins t c (mark_after_collect (mark_at s.marks t c))
          (λ p b e. on.grace.passed t p c b e) (λ p b w e. on.grace.changed t p c b w e) (λ w e. on.grace.older t c w e) (λ b w e. on.grace.left t c b w e) on.grace,
      passive_marked s.settings.cpus s.settings.passive_limit s.slots s.marks s.passive s.hands t c (mark_after_collect (mark_at s.marks t c))
          (λ e is holds. on.passive.clear c t e is holds) (λ e is holds. clear) on.passive,
      C.collect on.balance (fit_of s on) c t told.2.0 told.1 told.0 told.2.1 still,
      told.2,
    )

-- a total is all that is written, and the keeper is at rest again
total_keeps : (s : State) (t v : ℕ) → Holds s → ((u d : ℕ) → s.due ≡ Snapshots u d → ⊥) → CountsOf (Events.after_total s t v) → Holds (Events.after_total s t v)
total_keeps s t v on none balance = assumption (length-set s.totals t v ∙ on.shape.totals, snapshots_all s Rest none on)

pub total_add_keeps : (s : State) (t old : ℕ) → Holds s → s.due ≡ Adding t old → Holds (Events.after_total s t (total_at s.totals t + old - bias))
total_add_keeps s t old on due =
    let gone = due_adding s.settings.cpus s.slots s.hands s.due s.locals t old due on.references in
    total_keeps s t (total_at s.totals t + old - bias) on (λ u d is. let q : Adding t old ≡ Snapshots u d = sym due ∙ is in cc)
    (C.total_add on.balance (fit_of s on) t old gone.0 due (inr gone.1))

pub total_sub_keeps : (s : State) (t : ℕ) → Holds s → s.due ≡ Subtracting t → Holds (Events.after_total s t (total_at s.totals t - 1))
total_sub_keeps s t on due =
    let gone = due_subtracting s.settings.cpus s.slots s.hands s.due s.locals t due on.references in
    total_keeps s t (total_at s.totals t - 1) on (λ u d is. let q : Subtracting t ≡ Snapshots u d = sym due ∙ is in cc)
    (C.total_sub on.balance (fit_of s on) t gone.0 due (inr gone.1))

pub join_keeper_keeps : (s : State) (id n t : ℕ) → Holds s → local_at s.locals id ≡ Standing n → slot_of s.slots n ≡ Some t → Events.may_join_keeper s t ≡ true → Holds (Events.after_join_keeper s id t)
join_keeper_keeps s id n t on at of may =
    let p = and_parts (is_retired (slot_at s.slots t)) (Events.may_join s t) may in
    let q = and_parts (at_rest s.due) (is_some_collected s.settings.cpus (get_or s.marks t [])) p.1 in
    let rest : s.due ≡ Rest = at_rest_tells s.due q.0 in
    let has = slot_has s.slots n t of in
    let gone = is_retired_tells (slot_at s.slots t) p.0 in
    assumption (
      snapshots_all s (Subtracting t) (λ u d is. not_at_rest s.due u d rest is) on,
      C.join_keeper on.balance t n id has.1.0 rest has.1.1 has.1.2 (only_slot s t n has.1.0 on has.1.1 has.1.2) at,
      references_freed on.references (Subtracting t) id n at gone,
    )

pub keep_keeps : (s : State) (t id n u : ℕ) → Holds s → local_at s.locals id ≡ Standing n → slot_of s.slots n ≡ Some u → Events.may_keep s t u ≡ true → Holds (Events.after_keep s t id n)
keep_keeps s t id n u on at of may =
    let p = and_parts (Events.may_write s t) (is_none (kept_at s.keeps t) && Events.is_driver_slot (slot_at s.slots u)) may in
    let q = and_parts (is_none (kept_at s.keeps t)) (Events.is_driver_slot (slot_at s.slots u)) p.1 in
    let told = may_write_tells s t on.shape p.0 in
    assumption (
      length-set s.keeps t (Some n) ∙ on.shape.keeps,
      C.keep on.balance t n id (omega (arith, told.1, on.shape.slots, on.shape.keeps)) (none_from (kept_at s.keeps t) q.0) at,
      references_freed on.references s.due id n at on.references.due_at,
      drivers_keep s.slots s.keeps t n u told.2 of q.1 on.kept_drivers,
    )

-- A passive reference without a section

-- the place of a passive word
pub passive_place : (s : State) (c t : ℕ) → Holds s → c < s.settings.cpus → t < s.settings.slots → (t < length s.passive) × (c < length (get_or s.passive t []))
passive_place s c t on low within = grind (arith, cpus_fit)

-- what the test of a Try tells
pub may_try_tells : (s : State) (c t n : ℕ) → Events.may_try s c t n ≡ true → (Events.is_idle s c ≡ true) × (n ≤ seen_at s c) × (t < s.settings.slots) × (passive_at s.passive c t < s.settings.passive_limit)
may_try_tells s c t n may = grind (arith, and_parts, leb-true, ltb-true)

pub try_keeps : (s : State) (c t n : ℕ) → Holds s → Events.may_try s c t n ≡ true → Holds (Events.after_try s c t n)
try_keeps s c t n on may =
    let told = may_try_tells s c t n may in
    let idle = idle_tells s c on told.0 in
    let fits = told.3 in
    let place = passive_place s c t on idle.0 told.2 in
    let lt : c < length s.hands = omega (arith, idle.0, on.shape.hands) in
    assumption (
      cell_sized s.passive t c (passive_at s.passive c t + 1) on.shape.passive on.shape.passive_rows,
      hand_put s c (Trying t n) on (idle_parts s c told.0).0 told.1,
      passive_shifted s.settings.cpus s.settings.passive_limit s.slots s.marks s.passive (with_cell s.passive t c (passive_at s.passive c t + 1)) s.hands (set s.hands c (Trying t n))
          (shifted_try s.passive s.hands c t n place.0 place.1 lt idle.1)
          (λ d u. cell_put 0 s.passive t c (passive_at s.passive c t + 1) (λ v i x. x ≤ s.settings.passive_limit) u d (omega (arith, fits)) (on.passive.limited d u))
          (λ d u. cell_put 0 s.passive t c (passive_at s.passive c t + 1) (λ v i x. s.settings.cpus ≤ i → x ≡ 0) u d (λ past. absurd (omega (arith, past, idle.0))) (on.passive.beyond d u))
          on.passive,
      C.hand_unheld on.balance c Empty (Trying t n) lt idle.1 (λ m. refl) (λ m. refl),
      references_unheld on.references c (Trying t n) lt tt,
    )

-- a CPU with this hand is in range, and its word counts what it is trying
pub trying_tells : (s : State) (c t n : ℕ) → Holds s → hand_at s c ≡ Trying t n → (c < s.settings.cpus) × (t < s.settings.slots) × (1 ≤ passive_at s.passive c t)
trying_tells s c t n on hand =
    let low = hand_within s c on (λ empty. let q : Trying t n ≡ Empty = sym hand ∙ empty in cc) in
    let tries : trying_at s.hands c t ≡ 1 = ap (trying_of t) hand ∙ trying_one t n t refl in
    let some : 1 ≤ passive_at s.passive c t = omega (arith, tries, on.passive.counted c t) in
    let within : t < s.settings.slots = either (cases_lt t s.settings.slots)
    (λ lt. lt)
    (λ ge.
    let none : passive_at s.passive c t ≡ 0 = ap (λ (r : List ℕ). get_or r c 0) (get_or_past s.passive t [] (omega (arith, ge, on.shape.passive))) in
    absurd (omega (arith, some, none))) in
    (low, within, some)

-- the CPU has seen what it is trying
pub tried_seen : (s : State) (c t n : ℕ) → Holds s → hand_at s c ≡ Trying t n → n ≤ seen_at s c
tried_seen s c t n on hand = subst (IsSeenInHand (seen_at s c)) hand (on.tries c)

pub take_back_keeps : (s : State) (c t n : ℕ) → Holds s → hand_at s c ≡ Trying t n → Holds (Events.after_take_back s c t)
take_back_keeps s c t n on hand =
    let told = trying_tells s c t n on hand in
    let place = passive_place s c t on told.0 told.1 in
    let full = hand_full s c Empty (Trying t n) on hand (λ is. let q : Trying t n ≡ Empty = is in cc) tt in
    assumption (
      cell_sized s.passive t c (passive_at s.passive c t - 1) on.shape.passive on.shape.passive_rows,
      full.1,
      passive_shifted s.settings.cpus s.settings.passive_limit s.slots s.marks s.passive (with_cell s.passive t c (passive_at s.passive c t - 1)) s.hands (set s.hands c Empty)
          (shifted_back s.passive s.hands c t n place.0 place.1 full.0 hand told.2)
          (λ d u. cell_put 0 s.passive t c (passive_at s.passive c t - 1) (λ v i x. x ≤ s.settings.passive_limit) u d (omega (arith, on.passive.limited c t)) (on.passive.limited d u))
          (λ d u. cell_put 0 s.passive t c (passive_at s.passive c t - 1) (λ v i x. s.settings.cpus ≤ i → x ≡ 0) u d (λ past. absurd (omega (arith, past, told.0))) (on.passive.beyond d u))
          on.passive,
      C.hand_unheld on.balance c (Trying t n) Empty full.0 hand (λ m. refl) (λ m. refl),
      references_unheld on.references c Empty full.0 tt,
    )

-- what the test of a live word tells: the slot's entry is live
pub live_tells : (n : ℕ) (x : Slot) → Events.has_live n x ≡ true → (e : Entry) × (e.number ≡ n) × (x ≡ Live e)
live_tells n x may = grind (arith, eqb-true)

pub taking_keeps : (s : State) (c t n : ℕ) → Holds s → hand_at s c ≡ Trying t n → Events.has_live n (slot_at s.slots t) ≡ true → Holds (Events.after_taking s c)
taking_keeps s c t n on hand may =
    let told = trying_tells s c t n on hand in
    let is = live_tells n (slot_at s.slots t) may in
    let full = hand_full s c Empty (Trying t n) on hand (λ is. let q : Trying t n ≡ Empty = is in cc) tt in
    assumption (
      full.1,
      passive_hands s.settings.cpus s.settings.passive_limit s.slots s.marks s.passive s.hands (set s.hands c Empty)
          (trying_taken s.slots s.marks s.passive s.hands c t n is.0 hand full.0 is.2) on.passive,
      C.hand_unheld on.balance c (Trying t n) Empty full.0 hand (λ m. refl) (λ m. refl),
      references_unheld on.references c Empty full.0 tt,
    )

-- what the test of a Confirm tells: the entry is live
pub confirm_tells : (s : State) (c n : ℕ) (x : Slot) → Events.may_confirm s c n x ≡ true → (search_at s c ≡ None) × (Events.has_live n x ≡ true)
confirm_tells s c n x may = let p = and_parts (is_none (search_at s c)) (Events.has_live n x) may in (none_from (search_at s c) p.0, p.1)

pub confirm_keeps : (s : State) (c t n : ℕ) → Holds s → hand_at s c ≡ Trying t n → Events.may_confirm s c n (slot_at s.slots t) ≡ true → Holds (Events.after_confirm s c)
confirm_keeps s c t n on hand may =
    see_keeps (Events.after_taking s c) c (taking_keeps s c t n on hand (confirm_tells s c n (slot_at s.slots t) may).1) (trying_tells s c t n on hand).0
