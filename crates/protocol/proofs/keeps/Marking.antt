-- Snapshots, looks and the end of a slot's use; passive references, and the marks that tell that there is none.
use Rattle.std.proofs.Common.{Bool, List, None, Option, Some, [], ap, arith, get_or, get_or-set_other, get_or-set_same, inl, inr, length, refl, replicate, set, suc, sym, take, true, zero, ℕ, ◌%◌, ◌+◌, ◌<◌, ◌∙◌, ◌∷◌, ◌≡◌, ◌≢◌, ◌≤◌, ◌-◌, ◌⊎◌}
use Rattle.std.proofs.lemmas.Bool.{and_parts, eq-eqb, eqb-true, lt-ltb, or_cases, cases_eq, cases_lt}
use Rattle.std.proofs.lemmas.Option.{same_Some}
use Rattle.std.specs.List.{list_all}
use Rattle.std.specs.Prelude.{if◌then◌else◌, nat_lt}
use Rattle.protocol.specs.Types.{Change, Detach, Entry, Settings, Mark, Slot, Live, Retired, Vacant}
use Rattle.registry_values.specs.Common.{mark_after_look, has_changed, no_mark, slot_at}
use Rattle.protocol.specs.Common.{snapshot_mark, EndsAt, IsLiveAt, after_change, HeldStay, IsIn, IsSnapshotDue, MarksHold, SectionsShow, SlotsShow, SnapshotsStand, mark_at, Due, Rest, Snapshots, is_number, FoundHold, Hand, Empty, Trying, PassiveShow, passive_at, trying_at, trying_of, with_cell}
use Rattle.protocol.proofs.keeps.Linking.{end_before, gone_before, within_live, retired_before}
use Rattle.protocol.proofs.Occupied.{slot_cases, not_vacant, written_cases}
use Rattle.protocol.proofs.Cells.{by_cell, cell_cases, cell_here, cell_other, cell_put, get_or_all, place_in}
use Rattle.protocol.proofs.Either.{either}
use Rattle.protocol.proofs.History.{one_entry}
use Rattle.protocol.proofs.counts.Sums.{one_other, one_self}

-- a fresh row of marks
pub marks_detach : (h : List Change) (slots : List Slot) (marks : List (List Mark)) (section : List ℕ) (begins : List (Option ℕ)) (e : Entry) (n : ℕ) → slot_at slots e.slot ≡ Live e
    → length marks ≡ length slots → SlotsShow h slots
    → MarksHold h slots marks section begins → MarksHold (after_change h (Detach e.number)) (set slots e.slot (Retired e)) (set marks e.slot (replicate n no_mark)) section begins
marks_detach h slots marks section begins e n at size show m =
    let lt : e.slot < length slots = within_live slots e.slot e at in
    let lm : e.slot < length marks = omega arith in
    let le : IsLiveAt h (length h) e = (show.live e.slot e at).0 in
    let fresh : (u j : ℕ) → u ≡ e.slot → mark_at (set marks e.slot (replicate n no_mark)) u j ≡ no_mark = λ u j same.
    ap (λ (k : ℕ). get_or (get_or (set marks e.slot (replicate n no_mark)) k []) j no_mark) same
    ∙ (ap (λ (r : List Mark). get_or r j no_mark) (get_or-set_same marks e.slot (replicate n no_mark) [] lm) ∙ get_or_all n no_mark j) in
    let kept : (u j : ℕ) → (u ≡ e.slot → ⊥) → mark_at (set marks e.slot (replicate n no_mark)) u j ≡ mark_at marks u j = λ u j off.
    ap (λ (r : List Mark). get_or r j no_mark) (get_or-set_other marks e.slot u (replicate n no_mark) [] off) in
    record {
      passed = grind (arith, gone_before, end_before);
      changed = λ u p c b w f is ends in_ snap differs. grind (arith, gone_before slots e f u lt is, end_before h slots e f u p show le, m.changed u p c b w f, fresh u c, kept u c);
      older = grind (arith, gone_before);
      left = grind (arith, gone_before);
    }

-- A mark is written that says no more than is so.
pub marks_write : (h : List Change) (slots : List Slot) (marks : List (List Mark)) (section : List ℕ) (begins : List (Option ℕ)) (t c : ℕ) (m : Mark)
    → ((p b : ℕ) (e : Entry) → slot_at slots t ≡ Retired e → EndsAt h e.number p → get_or begins c None ≡ Some b → m.passed ≡ true → p ≤ b)
    → ((p b w : ℕ) (e : Entry) → slot_at slots t ≡ Retired e → EndsAt h e.number p → get_or begins c None ≡ Some b → m.snapshot ≡ Some w → (get_or section c 0 ≡ w → ⊥) → p ≤ b)
    → ((w : ℕ) (e : Entry) → slot_at slots t ≡ Retired e → m.snapshot ≡ Some w → w ≤ get_or section c 0)
    → ((b w : ℕ) (e : Entry) → slot_at slots t ≡ Retired e → get_or begins c None ≡ Some b → m.passed ≡ true → m.snapshot ≡ Some w → get_or section c 0 ≡ w → ⊥)
    → MarksHold h slots marks section begins → MarksHold h slots (set marks t (set (get_or marks t []) c m)) section begins
marks_write h slots marks section begins t c m passes changes olds lefts was = grind (arith, cell_cases)

-- the snapshot is the word itself
pub marks_snapshot : (h : List Change) (slots : List Slot) (marks : List (List Mark)) (section : List ℕ) (begins : List (Option ℕ)) (t c : ℕ)
    → MarksHold h slots marks section begins → MarksHold h slots (set marks t (set (get_or marks t []) c (snapshot_mark (get_or section c 0)))) section begins
marks_snapshot h slots marks section begins t c was = grind (arith, marks_write, same_Some)

pub changed_word : (x : Option ℕ) (w : ℕ) → has_changed x w ≡ true → (v : ℕ) × (x ≡ Some v) × (w ≡ v → ⊥)
changed_word x w holds = grind (arith, eq-eqb)

-- a look passes only where the word is even or differs from the snapshot
pub marks_look : (z : Settings) (h : List Change) (slots : List Slot) (marks : List (List Mark)) (section : List ℕ) (begins : List (Option ℕ)) (depths seen : List ℕ) (t c : ℕ)
    → SectionsShow z h section begins depths seen
    → MarksHold h slots marks section begins → MarksHold h slots (set marks t (set (get_or marks t []) c (mark_after_look (mark_at marks t c) (get_or section c 0)))) section begins
marks_look z h slots marks section begins depths seen t c shown was = marks_write h slots marks section begins t c (mark_after_look (mark_at marks t c) (get_or section c 0))
    (λ p b e is ends in_ holds. grind (arith, or_cases, was.passed t p c b e is ends in_, eqb-true (get_or section c 0 % 2) 0, (shown.inside c b in_).0, changed_word, was.changed t p c b))
    (λ p b w e is ends in_ snap differs. was.changed t p c b w e is ends in_ snap differs)
    (λ w e is snap. was.older t c w e is snap)
    (λ b x e is in_ holds snap same. grind (arith, or_cases, was.left t c b x e is in_, eqb-true (get_or section c 0 % 2) 0, (shown.inside c b in_).0, changed_word, same_Some))
    was

-- Snapshots: a fresh row of marks has none, and all are due.
pub snapshots_detach : (cpus : ℕ) (slots : List Slot) (marks : List (List Mark)) (e : Entry) (n : ℕ) → e.slot < length slots → SnapshotsStand cpus slots marks Rest
    → SnapshotsStand cpus (set slots e.slot (Retired e)) (set marks e.slot (replicate n no_mark)) (Snapshots e.slot 0)
snapshots_detach cpus slots marks e n lt stand u c f is low later = either (gone_before slots e f u lt is)
    (λ same. absurd (later (0, ap (λ (k : ℕ). Snapshots k 0) (sym same.0), omega arith)))
    (λ off.
    let was = stand u c f off.1 low (λ due. let q : Rest ≡ Snapshots u due.0 = due.1 in cc) in
    (was.0, ap (λ (r : List Mark). (get_or r c no_mark).snapshot) (get_or-set_other marks e.slot u (replicate n no_mark) [] off.0) ∙ was.1))

-- the snapshot that was due is taken, and the next one is due
pub snapshots_taken : (cpus : ℕ) (slots : List Slot) (marks : List (List Mark)) (t c w : ℕ) → t < length marks → c < length (get_or marks t []) → SnapshotsStand cpus slots marks (Snapshots t c)
    → SnapshotsStand cpus slots (set marks t (set (get_or marks t []) c (snapshot_mark w))) (if nat_lt (c + 1) cpus then Snapshots t (c + 1) else Rest)
snapshots_taken cpus slots marks t c w lt cl stand u j e is low later =
    by_cell (λ v i. (x : ℕ) × ((mark_at (set marks t (set (get_or marks t []) c (snapshot_mark w))) v i).snapshot ≡ Some x)) t c u j
    (w, ap (λ (m : Mark). m.snapshot) (cell_here no_mark marks t c (snapshot_mark w) lt cl))
    (λ off.
    let was = stand u j e is low (λ due. later_due off due) in
    (was.0, ap (λ (m : Mark). m.snapshot) (cell_other no_mark marks t c (snapshot_mark w) u j off) ∙ was.1))
  where
    later_due : (u ≡ t → j ≡ c → ⊥) → IsSnapshotDue (Snapshots t c) u j → ⊥
    later_due off due =
        let q : Snapshots t c ≡ Snapshots u due.0 = due.1 in
        let slot : t ≡ u = cc in
        let first : c ≡ due.0 = cc in
        let apart : j ≢ c = λ same. off (sym slot) same in
        let more : c + 1 < cpus = omega (arith, due.2, apart, first, low) in
        later (c + 1, ap (λ (b : Bool). if b then Snapshots t (c + 1) else Rest) (lt-ltb (c + 1) cpus more) ∙ ap (λ (k : ℕ). Snapshots k (c + 1)) slot, omega (arith, due.2, apart, first))

-- a mark is written that keeps its snapshot
pub snapshots_marked : (cpus : ℕ) (slots : List Slot) (marks : List (List Mark)) (due : Due) (t c : ℕ) (m : Mark) → m.snapshot ≡ (mark_at marks t c).snapshot → SnapshotsStand cpus slots marks due
    → SnapshotsStand cpus slots (set marks t (set (get_or marks t []) c m)) due
snapshots_marked cpus slots marks due t c m same stand u j e is low later =
    cell_put no_mark marks t c m (λ v i x. v ≡ u → i ≡ j → (w : ℕ) × (x.snapshot ≡ Some w)) u j
    (λ there here. let was = stand u j e is low later in
    (was.0, same ∙ (ap (λ (k : ℕ). (mark_at marks k c).snapshot) there ∙ (ap (λ (k : ℕ). (mark_at marks u k).snapshot) here ∙ was.1))))
    (λ _ _. stand u j e is low later) refl refl

-- A slot becomes vacant.
pub vacated_before : (slots : List Slot) (t u : ℕ) (f : Entry) → t < length slots → IsIn f (slot_at (set slots t Vacant) u) → (u ≡ t → ⊥) × (slot_at (set slots t Vacant) u ≡ slot_at slots u)
vacated_before slots t u f lt is = either (slot_cases slots t Vacant u lt) (λ same. absurd (not_vacant f (slot_at (set slots t Vacant) u) same.1 is)) (λ off. off)

pub slots_vacate : (h : List Change) (slots : List Slot) (t : ℕ) (e : Entry) → t < length slots → slot_at slots t ≡ Retired e → SlotsShow h slots → SlotsShow h (set slots t Vacant)
slots_vacate h slots t e lt at show = record {
  live = λ u f is. show.live u f (sym (vacated_before slots t u f lt (inl is)).1 ∙ is);
  placed = grind (arith, get_or-set_other);
  retired = λ u f is. show.retired u f (sym (vacated_before slots t u f lt (inr is)).1 ∙ is);
}

pub marks_vacate : (h : List Change) (slots : List Slot) (marks : List (List Mark)) (section : List ℕ) (begins : List (Option ℕ)) (t : ℕ) → t < length slots → MarksHold h slots marks section begins
    → MarksHold h (set slots t Vacant) marks section begins
marks_vacate h slots marks section begins t lt m = grind (arith, slot_cases)

-- No section may hold an entry once every CPU has passed for it.
pub held_vacate : (h : List Change) (slots : List Slot) (marks : List (List Mark)) (section : List ℕ) (begins : List (Option ℕ)) (t : ℕ) (e : Entry) → t < length slots → slot_at slots t ≡ Retired e
    → SlotsShow h slots
    → ((c b : ℕ) → get_or begins c None ≡ Some b → (mark_at marks t c).passed ≡ true) → MarksHold h slots marks section begins → HeldStay h slots begins → HeldStay h (set slots t Vacant) begins
held_vacate h slots marks section begins t e lt at show all m held c b f is hold = grind (arith, slot_cases)

-- what a test passes of each of the first n
pub list_all_within : {X : Type 0} (p : X → Bool) (xs : List X) (n i : ℕ) (d : X) → list_all p (take n xs) ≡ true → i < n → i < length xs → p (get_or xs i d) ≡ true
list_all_within p [] n i d all lt in_ = absurd (omega arith)
list_all_within p (x ∷ xs) zero i d all lt in_ = absurd (omega arith)
list_all_within p (x ∷ xs) (suc n) zero d all lt in_ = (and_parts (p x) (list_all p (take n xs)) all).0
list_all_within p (x ∷ xs) (suc n) (suc i) d all lt in_ = list_all_within p xs n i d (and_parts (p x) (list_all p (take n xs)) all).1 (omega arith) (omega arith)

-- Passive references and the marks that tell that there is none.

pub passive_attach : (cpus limit : ℕ) (slots : List Slot) (marks : List (List Mark)) (passive : List (List ℕ)) (hands : List Hand) (e : Entry) → e.slot < length slots → PassiveShow cpus limit slots marks passive hands
    → PassiveShow cpus limit (set slots e.slot (Live e)) marks passive hands
passive_attach cpus limit slots marks passive hands e lt p = grind (arith, slot_cases, retired_before)

pub passive_detach : (cpus limit : ℕ) (slots : List Slot) (marks : List (List Mark)) (passive : List (List ℕ)) (hands : List Hand) (e : Entry) (n : ℕ) → e.slot < length slots → e.slot < length marks
    → PassiveShow cpus limit slots marks passive hands
    → PassiveShow cpus limit (set slots e.slot (Retired e)) (set marks e.slot (replicate n no_mark)) passive hands
passive_detach cpus limit slots marks passive hands e n lt lm p = grind (arith, get_or-set_same, get_or_all, get_or-set_other, place_in, gone_before)

-- a mark is written whose clear and collected say no more than is so
pub passive_marked : (cpus limit : ℕ) (slots : List Slot) (marks : List (List Mark)) (passive : List (List ℕ)) (hands : List Hand) (t c : ℕ) (m : Mark)
    → ((e : Entry) → slot_at slots t ≡ Retired e → m.clear ≡ true → (m.passed ≡ true) × (passive_at passive c t ≡ trying_at hands c t))
    → ((e : Entry) → slot_at slots t ≡ Retired e → m.collected ≡ true → m.clear ≡ true)
    → PassiveShow cpus limit slots marks passive hands → PassiveShow cpus limit slots (set marks t (set (get_or marks t []) c m)) passive hands
passive_marked cpus limit slots marks passive hands t c m says collects p = grind (arith, cell_cases)

-- a word of a CPU in range is written where the CPU has a reference already, or may take its first
pub passive_counted : (cpus limit : ℕ) (slots : List Slot) (marks : List (List Mark)) (passive : List (List ℕ)) (hands : List Hand) (c t n : ℕ) → c < cpus → n ≤ limit → trying_at hands c t ≤ n → (slot_at slots t ≡ Vacant → ⊥)
    → ((e : Entry) → slot_at slots t ≡ Retired e → (mark_at marks t c).clear ≡ true → ⊥)
    → PassiveShow cpus limit slots marks passive hands → PassiveShow cpus limit slots marks (set passive t (set (get_or passive t []) c n)) hands
passive_counted cpus limit slots marks passive hands c t n lt fits above full open_ p = grind (arith, cell_cases)

pub passive_vacate : (cpus limit : ℕ) (slots : List Slot) (marks : List (List Mark)) (passive : List (List ℕ)) (hands : List Hand) (t : ℕ) (e : Entry) → t < length slots → slot_at slots t ≡ Retired e
    → ((c : ℕ) → c < cpus → (mark_at marks t c).clear ≡ true) → PassiveShow cpus limit slots marks passive hands → PassiveShow cpus limit (set slots t Vacant) marks passive hands
passive_vacate cpus limit slots marks passive hands t e lt at all p = record {
  counted = p.counted;
  vacant = λ c u. grind (arith, slot_cases slots t Vacant u lt, cases_lt c cpus, all c, p.clear c t e at, p.beyond c t, p.counted c t, p.vacant c u);
  clear = λ c u f is. p.clear c u f (sym (vacated_before slots t u f lt (inr is)).1 ∙ is);
  collected = λ c u f is. p.collected c u f (sym (vacated_before slots t u f lt (inr is)).1 ∙ is);
  beyond = p.beyond;
  limited = p.limited;
}

-- What a CPU is trying

-- a hand is written that is trying what the one before it was
pub trying_stays : (hands : List Hand) (c : ℕ) (h : Hand) → ((u : ℕ) → trying_of u h ≡ trying_at hands c u) → (d u : ℕ) → trying_at (set hands c h) d u ≡ trying_at hands d u
trying_stays hands c h same d u = grind (arith, written_cases)

-- hands change: each CPU is trying what it was, or is trying no more than it counts in a slot where it may have references
pub passive_hands : (cpus limit : ℕ) (slots : List Slot) (marks : List (List Mark)) (passive : List (List ℕ)) (hands others : List Hand)
    → ((c t : ℕ) → (trying_at others c t ≡ trying_at hands c t)
    ⊎ ((trying_at others c t ≤ passive_at passive c t) × (slot_at slots t ≡ Vacant → ⊥) × ((e : Entry) → slot_at slots t ≡ Retired e → (mark_at marks t c).clear ≡ true → ⊥)))
    → PassiveShow cpus limit slots marks passive hands → PassiveShow cpus limit slots marks passive others
passive_hands cpus limit slots marks passive hands others now p = grind arith

-- a hand is written that is trying what the one before it was
pub passive_hand : (cpus limit : ℕ) (slots : List Slot) (marks : List (List Mark)) (passive : List (List ℕ)) (hands : List Hand) (c : ℕ) (h : Hand) → ((u : ℕ) → trying_of u h ≡ trying_at hands c u)
    → PassiveShow cpus limit slots marks passive hands → PassiveShow cpus limit slots marks passive (set hands c h)
passive_hand cpus limit slots marks passive hands c h same p = grind (arith, passive_hands, trying_stays)

-- words and what is tried change by the same
pub passive_shifted : (cpus limit : ℕ) (slots : List Slot) (marks : List (List Mark)) (passive words : List (List ℕ)) (hands others : List Hand)
    → ((c t : ℕ) → passive_at words c t + trying_at hands c t ≡ passive_at passive c t + trying_at others c t)
    → ((c t : ℕ) → passive_at words c t ≤ limit) → ((c t : ℕ) → cpus ≤ c → passive_at words c t ≡ 0)
    → PassiveShow cpus limit slots marks passive hands → PassiveShow cpus limit slots marks words others
passive_shifted cpus limit slots marks passive words hands others both fits past p = grind arith

-- what c is trying in t, and nowhere else
pub trying_one : (t n u : ℕ) → t ≡ u → trying_of u (Trying t n) ≡ 1
trying_one t n u same = one_self t u same

pub trying_none : (t n u : ℕ) → (t ≡ u → ⊥) → trying_of u (Trying t n) ≡ 0
trying_none t n u off = one_other t u off

-- a CPU begins to try: its word and what it is trying grow by 1
pub shifted_try : (passive : List (List ℕ)) (hands : List Hand) (c t n : ℕ) → t < length passive → c < length (get_or passive t []) → c < length hands → get_or hands c Empty ≡ Empty
    → (d u : ℕ) → passive_at (with_cell passive t c (passive_at passive c t + 1)) d u + trying_at hands d u ≡ passive_at passive d u + trying_at (set hands c (Trying t n)) d u
shifted_try passive hands c t n tp cp lt empty d u = grind (arith, get_or-set_same, cell_here, trying_one, cell_other, trying_none, get_or-set_other, cases_eq d c, cases_eq u t)

-- it takes that back
pub shifted_back : (passive : List (List ℕ)) (hands : List Hand) (c t n : ℕ) → t < length passive → c < length (get_or passive t []) → c < length hands → get_or hands c Empty ≡ Trying t n
    → 1 ≤ passive_at passive c t
    → (d u : ℕ) → passive_at (with_cell passive t c (passive_at passive c t - 1)) d u + trying_at hands d u ≡ passive_at passive d u + trying_at (set hands c Empty) d u
shifted_back passive hands c t n tp cp lt hand some d u = grind (arith, get_or-set_same, cell_here, trying_one, cell_other, trying_none, get_or-set_other, cases_eq d c, cases_eq u t)

-- what is tried in a slot with a live entry is taken
pub trying_taken : (slots : List Slot) (marks : List (List Mark)) (passive : List (List ℕ)) (hands : List Hand) (c t n : ℕ) (e : Entry) → get_or hands c Empty ≡ Trying t n → c < length hands
    → slot_at slots t ≡ Live e → (d u : ℕ) → (trying_at (set hands c Empty) d u ≡ trying_at hands d u)
    ⊎ ((trying_at (set hands c Empty) d u ≤ passive_at passive d u) × (slot_at slots u ≡ Vacant → ⊥) × ((f : Entry) → slot_at slots u ≡ Retired f → (mark_at marks u d).clear ≡ true → ⊥))
trying_taken slots marks passive hands c t n e hand lt live d u = grind (arith, cases_eq d c, cases_eq u t, get_or-set_same, get_or-set_other, trying_none)

-- what a test of the last found entry tells
pub found_number : (n : ℕ) (o : Option Entry) → is_number n o ≡ true → (e : Entry) × (o ≡ Some e) × (e.number ≡ n)
found_number n o is = grind (arith, eqb-true)

-- c has not passed for an entry that it found last
pub found_not_passed : (h : List Change) (slots : List Slot) (marks : List (List Mark)) (section : List ℕ) (begins : List (Option ℕ)) (found : List (Option Entry)) (c t : ℕ) (f : Entry)
    → SlotsShow h slots → MarksHold h slots marks section begins → FoundHold h begins found → slot_at slots t ≡ Retired f → is_number f.number (get_or found c None) ≡ true
    → (mark_at marks t c).passed ≡ true → ⊥
found_not_passed h slots marks section begins found c t f show m hold gone is passed = grind (arith, found_number, one_entry)
