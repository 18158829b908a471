-- What the keeper's log says of marks: each snapshot that a mark has, and each pass, is in it; and what follows from the words in it.
use Rattle.std.proofs.Common.{◌≡◌, ◌⊎◌, inl, inr, ⊎_elim, ℕ, zero, suc, ◌<◌, ◌≤◌, ◌==◌, ◌||◌, Bool, true, false, List, [], ◌∷◌, ◌++◌, length, get_or, set, replicate, Option, Some, None, ne_eqb, refl, sym, ap, ◌∙◌, subst, append_assoc, ◌%◌, arith}
use Rattle.std.proofs.lemmas.Bool.{or_cases, eqb-true, eqb-false, cases_eq, cases_lt}
use Rattle.std.proofs.lemmas.List.{get_or_past, set_past}
use Rattle.std.proofs.lemmas.Option.{none-some, same_Some}
use Rattle.cpu_words.specs.Types.{Mark, Settings, MOST_CPUS, Event, Unpublish, Republish, Snapshot, PassiveLook, Collect, Reply, Done, Word, Snapshots}
use Rattle.registry_values.specs.Common.{no_mark, is_even, has_changed, mark_after_look}
use Rattle.protocol.specs.Common.{State, with_cell, section_at, mark_at, opening, snapshot_mark}
use Rattle.protocol.proofs.Made.{Made, Unpublishes, Republishes, Snaps, Looks, LooksPassive, Collects}
use Rattle.protocol.proofs.keeps.References.{snapshot_due_tells}
use Rattle.protocol.proofs.Cells.{cell_in_new, cell_in_old, get_or_all, cell_put}
use Rattle.protocol.proofs.keeps.Marking.{changed_word}
use Rattle.cpu_words.specs.Common.{LogItem, Teller, has_snapped, has_looked, is_detach_from, KeepsEntry, IsSnapped, HasPassedOn, AreMarksOf, has_taken, has_found, IsSeenOut, FindsWord, WordsGrow}
use Rattle.cpu_words.proofs.logs.Loads.{no_place}
use Rattle.cpu_words.proofs.logs.Runs.{item_as, item_of, same_first, same_rest}

-- A log with one item more

pub keeps_more : (t : ℕ) (a b : List LogItem) → KeepsEntry t a → KeepsEntry t b → KeepsEntry t (a ++ b)
keeps_more t [] b first second = second
keeps_more t (d ∷ ds) b first second = (first.0, keeps_more t ds b first.1 second)

pub snapped_more : (t c w : ℕ) (log : List LogItem) (d : LogItem) → is_detach_from t d.event ≡ false → IsSnapped t c w log → IsSnapped t c w (log ++ d ∷ [])
snapped_more t c w log d other is = record {
  before = is.before;
  after = is.after ++ d ∷ [];
  are = ap (λ (l : List LogItem). l ++ d ∷ []) is.are ∙ append_assoc is.before (has_snapped t c w ∷ is.after) (d ∷ []);
  since = keeps_more t is.after (d ∷ []) is.since (other, tt);
}

pub passed_more : (t c : ℕ) (log : List LogItem) (d : LogItem) → is_detach_from t d.event ≡ false → HasPassedOn t c log → HasPassedOn t c (log ++ d ∷ [])
passed_more t c log d other is = record {
  new = is.new;
  before = is.before;
  after = is.after ++ d ∷ [];
  are = ap (λ (l : List LogItem). l ++ d ∷ []) is.are ∙ append_assoc is.before (has_looked t c is.new ∷ is.after) (d ∷ []);
  since = keeps_more t is.after (d ∷ []) is.since (other, tt);
  out = is.out;
}

-- a log with one more, cut at an item: that is the last, or stands before it
cut_last : (log b a : List LogItem) (d x : LogItem) → log ++ d ∷ [] ≡ b ++ x ∷ a → (d ≡ x) ⊎ ((more : List LogItem) × (a ≡ more ++ d ∷ []) × (log ≡ b ++ x ∷ more))
cut_last [] [] a d x is = inl (same_first d x [] a is)
cut_last [] (y ∷ b) a d x is = absurd (no_place b a x (same_rest d y [] (b ++ x ∷ a) is))
cut_last (y ∷ l) [] a d x is = inr (l, sym (same_rest y x (l ++ d ∷ []) a is), λ k. same_first y x (l ++ d ∷ []) a is k ∷ l)
cut_last (y ∷ l) (z ∷ b) a d x is = ⊎_elim
    (λ (last : d ≡ x). inl last)
    (λ (p : (more : List LogItem) × (a ≡ more ++ d ∷ []) × (l ≡ b ++ x ∷ more)). inr (p.0, p.1, λ k. same_first y z (l ++ d ∷ []) (b ++ x ∷ a) is k ∷ p.2 k))
    (cut_last l b a d x (same_rest y z (l ++ d ∷ []) (b ++ x ∷ a) is))

keeps_parts : (t : ℕ) (a b : List LogItem) → KeepsEntry t (a ++ b) → KeepsEntry t a × KeepsEntry t b
keeps_parts t [] b keeps = (tt, keeps)
keeps_parts t (d ∷ ds) b keeps = let p = keeps_parts t ds b keeps.1 in ((keeps.0, p.0), p.1)

unsnapped : (t c w : ℕ) (log : List LogItem) (d : LogItem) → IsSnapped t c w (log ++ d ∷ []) → (d ≡ has_snapped t c w) ⊎ ((is_detach_from t d.event ≡ false) × IsSnapped t c w log)
unsnapped t c w log d is = ⊎_elim
    (λ (last : d ≡ has_snapped t c w). inl last)
    (λ (p : (more : List LogItem) × (is.after ≡ more ++ d ∷ []) × (log ≡ is.before ++ has_snapped t c w ∷ more)).
    let keeps = keeps_parts t p.0 (d ∷ []) (subst (KeepsEntry t) p.1 is.since) in
    inr (keeps.1.0, record { before = is.before; after = p.0; are = p.2; since = keeps.0 }))
    (cut_last log is.before is.after d (has_snapped t c w) is.are)

-- a snapshot for an entry
abbrev pub is_for_entry : Event → Bool
is_for_entry (Snapshot (Some t) c) = true
is_for_entry e = false

unsnapped_by : (t c w : ℕ) (log : List LogItem) (d : LogItem) → is_for_entry d.event ≡ false → IsSnapped t c w (log ++ d ∷ []) → (is_detach_from t d.event ≡ false) × IsSnapped t c w log
unsnapped_by t c w log d other is = ⊎_elim
    (λ (last : d ≡ has_snapped t c w). absurd (let q : true ≡ false = sym (ap (λ (x : LogItem). is_for_entry x.event) last) ∙ other in cc))
    (λ (p : (is_detach_from t d.event ≡ false) × IsSnapped t c w log). p)
    (unsnapped t c w log d is)

other_marks : (log : List LogItem) (marks : List (List Mark)) (d : LogItem) → ((t : ℕ) → is_detach_from t d.event ≡ false) → is_for_entry d.event ≡ false → AreMarksOf log marks
    → AreMarksOf (log ++ d ∷ []) marks
other_marks log marks d other none are = record {
  snapped = λ t c w is. snapped_more t c w log d (other t) (are.snapped t c w is);
  marked = λ t c w is. are.marked t c w (unsnapped_by t c w log d none is).1;
  passed = λ t c is. passed_more t c log d (other t) (are.passed t c is);
}

pub fresh : (marks : List (List Mark)) (t c : ℕ) → mark_at (set marks t (replicate MOST_CPUS no_mark)) t c ≡ no_mark
fresh marks t c = ⊎_elim
    (λ (lt : t < length marks). cell_in_new no_mark marks t (replicate MOST_CPUS no_mark) c lt ∙ get_or_all MOST_CPUS no_mark c)
    (λ (ge : length marks ≤ t). ap (λ (m : List (List Mark)). mark_at m t c) (set_past marks t (replicate MOST_CPUS no_mark) ge)
    ∙ ap (λ (r : List Mark). get_or r c no_mark) (get_or_past marks t [] ge))
    (cases_lt t (length marks))

-- by an event that is the detach from the slot t alone
detach_marks : (log : List LogItem) (marks : List (List Mark)) (t : ℕ) (d : LogItem) → ((u : ℕ) → is_detach_from u d.event ≡ (t == u)) → is_for_entry d.event ≡ false → AreMarksOf log marks
    → AreMarksOf (log ++ d ∷ []) (set marks t (replicate MOST_CPUS no_mark))
detach_marks log marks t d one none are =
    let new = set marks t (replicate MOST_CPUS no_mark) in record {
      snapped = λ u c w is. ⊎_elim
          (λ (same : u ≡ t). let p : mark_at new u c ≡ no_mark = ap (λ (k : ℕ). mark_at new k c) same ∙ fresh marks t c in absurd (none-some w (sym (ap (λ (m : Mark). m.snapshot) p) ∙ is)))
          (λ (off : u ≡ t → ⊥). snapped_more u c w log d (one u ∙ ne_eqb t u (λ (e : t ≡ u). off (sym e)))
          (are.snapped u c w (sym (ap (λ (m : Mark). m.snapshot) (cell_in_old no_mark marks t (replicate MOST_CPUS no_mark) u c off)) ∙ is)))
          (cases_eq u t);
      marked = λ u c w is.
          let p = unsnapped_by u c w log d none is in
          ap (λ (m : Mark). m.snapshot) (cell_in_old no_mark marks t (replicate MOST_CPUS no_mark) u c (λ (same : u ≡ t). eqb-false t u (sym (one u) ∙ p.0) (sym same))) ∙ are.marked u c w p.1;
      passed = λ u c is. ⊎_elim
          (λ (same : u ≡ t). let p : mark_at new u c ≡ no_mark = ap (λ (k : ℕ). mark_at new k c) same ∙ fresh marks t c in
          absurd (let q : false ≡ true = sym (ap (λ (m : Mark). m.passed) p) ∙ is in cc))
          (λ (off : u ≡ t → ⊥). passed_more u c log d (one u ∙ ne_eqb t u (λ (e : t ≡ u). off (sym e)))
          (are.passed u c (sym (ap (λ (m : Mark). m.passed) (cell_in_old no_mark marks t (replicate MOST_CPUS no_mark) u c off)) ∙ is)))
          (cases_eq u t);
    }

snapshot_marks : (log : List LogItem) (marks : List (List Mark)) (t c v : ℕ) → (mark_at marks t c).snapshot ≡ None → mark_at (with_cell marks t c (snapshot_mark v)) t c ≡ snapshot_mark v
    → AreMarksOf log marks → AreMarksOf (log ++ has_snapped t c v ∷ []) (with_cell marks t c (snapshot_mark v))
snapshot_marks log marks t c v free there are =
    let l = log ++ has_snapped t c v ∷ [] in
    let here : IsSnapped t c v l = record { before = log; after = []; are = refl; since = tt } in record {
      snapped = λ u j w. cell_put no_mark marks t c (snapshot_mark v) (λ a b x. x.snapshot ≡ Some w → IsSnapped a b w l) u j (λ is. subst (λ (k : ℕ). IsSnapped t c k l) (same_Some v w is) here)
          (λ is. snapped_more u j w log (has_snapped t c v) refl (are.snapped u j w is));
      marked = λ u j w is. ⊎_elim
          (λ (last : has_snapped t c v ≡ has_snapped u j w).
          let q : Snapshot (Some t) c ≡ Snapshot (Some u) j = ap (λ (d : LogItem). d.event) last in
          let r : Word v ≡ Word w = ap (λ (d : LogItem). d.reply) last in
          let at_slot : t ≡ u = cc in
          let at_cpu : c ≡ j = cc in
          let word : v ≡ w = cc in
          subst (λ (k : ℕ). (mark_at (with_cell marks t c (snapshot_mark v)) k j).snapshot ≡ Some w) at_slot
          (subst (λ (k : ℕ). (mark_at (with_cell marks t c (snapshot_mark v)) t k).snapshot ≡ Some w) at_cpu
          (ap (λ (m : Mark). m.snapshot) there ∙ ap (λ (k : ℕ). Some k) word)))
          (λ (old : (is_detach_from u (has_snapped t c v).event ≡ false) × IsSnapped u j w log).
          cell_put no_mark marks t c (snapshot_mark v) (λ a b x. (mark_at marks a b).snapshot ≡ Some w → x.snapshot ≡ Some w) u j (λ was. absurd (none-some w (sym free ∙ was))) (λ was. was)
          (are.marked u j w old.1))
          (unsnapped u j w log (has_snapped t c v) is);
      passed = λ u j. cell_put no_mark marks t c (snapshot_mark v) (λ a b x. x.passed ≡ true → HasPassedOn a b l) u j (λ is. absurd (let q : false ≡ true = is in cc))
          (λ is. passed_more u j log (has_snapped t c v) refl (are.passed u j is));
    }

-- a mark at t and c whose snapshot stays; it may have passed now
cell_marks : (log : List LogItem) (marks : List (List Mark)) (t c : ℕ) (m : Mark) (d : LogItem) → ((u : ℕ) → is_detach_from u d.event ≡ false) → is_for_entry d.event ≡ false
    → m.snapshot ≡ (mark_at marks t c).snapshot → (m.passed ≡ true → HasPassedOn t c (log ++ d ∷ []))
    → AreMarksOf log marks → AreMarksOf (log ++ d ∷ []) (with_cell marks t c m)
cell_marks log marks t c m d other none same pass are =
    let l = log ++ d ∷ [] in record {
      snapped = λ u j w. cell_put no_mark marks t c m (λ a b x. x.snapshot ≡ Some w → IsSnapped a b w l) u j
          (λ is. snapped_more t c w log d (other t) (are.snapped t c w (sym same ∙ is))) (λ is. snapped_more u j w log d (other u) (are.snapped u j w is));
      marked = λ u j w is. cell_put no_mark marks t c m (λ a b x. (mark_at marks a b).snapshot ≡ Some w → x.snapshot ≡ Some w) u j (λ was. same ∙ was) (λ was. was)
          (are.marked u j w (unsnapped_by u j w log d none is).1);
      passed = λ u j. cell_put no_mark marks t c m (λ a b x. x.passed ≡ true → HasPassedOn a b l) u j pass (λ is. passed_more u j log d (other u) (are.passed u j is));
    }

look_marks : (log : List LogItem) (marks : List (List Mark)) (t c w : ℕ) → AreMarksOf log marks
    → AreMarksOf (log ++ has_looked t c w ∷ []) (with_cell marks t c (mark_after_look (mark_at marks t c) w))
look_marks log marks t c w are =
    let m = mark_at marks t c in
    cell_marks log marks t c (mark_after_look m w) (has_looked t c w) (λ u. refl) refl refl
    (λ is. ⊎_elim
    (λ (was : m.passed ≡ true). passed_more t c log (has_looked t c w) refl (are.passed t c was))
    (λ (now : (is_even w || has_changed m.snapshot w) ≡ true). record {
      new = w;
      before = log;
      after = [];
      are = refl;
      since = tt;
      out = ⊎_elim
          (λ (even : is_even w ≡ true). inl (eqb-true _ 0 even))
          (λ (other : has_changed m.snapshot w ≡ true). let x = changed_word m.snapshot w other in inr (x.0, are.snapped t c x.0 x.1, x.2))
          (or_cases (is_even w) (has_changed m.snapshot w) now);
    })
    (or_cases m.passed (is_even w || has_changed m.snapshot w) is))
    are

-- a snapshot of c for the slot t is the first, and its mark has a place
abbrev pub IsFirst : State → ℕ → ℕ → Type 0
IsFirst s t c = ((mark_at s.marks t c).snapshot ≡ None) × (mark_at (with_cell s.marks t c (snapshot_mark (section_at s c))) t c ≡ snapshot_mark (section_at s c))

-- the keeper's next item
pub more_marks : (log : List LogItem) (s n : State) (e : Event) (r : Reply) (h : Option Teller) → Made s e n r → ((t c : ℕ) → s.due ≡ Snapshots t c → IsFirst s t c)
    → AreMarksOf log s.marks → AreMarksOf (log ++ item_of s e r h ∷ []) n.marks
more_marks log s _ _ _ h (Unpublishes t head next e at rest is) first are = detach_marks log s.marks t (item_as (Unpublish t) Done None) (λ u. refl) refl are
more_marks log s _ _ _ h (Republishes t u head next e f of at may is) first are = detach_marks log s.marks u (item_as (Republish t u) Done None) (λ v. refl) refl are
more_marks log s _ _ _ h (Snaps t c due) first are = let one = first t c (snapshot_due_tells s.due t c due) in snapshot_marks log s.marks t c (section_at s c) one.0 one.1 are
more_marks log s _ _ _ h (Looks t c may) first are = look_marks log s.marks t c (section_at s c) are
more_marks log s _ _ r h (LooksPassive t c may) first are =
    let d = item_as (PassiveLook t c) r None in
    cell_marks log s.marks t c _ d (λ u. refl) refl refl (λ was. passed_more t c log d refl (are.passed t c was)) are
more_marks log s _ _ r h (Collects t c may) first are =
    let d = item_as (Collect t c) r None in
    cell_marks log s.marks t c _ d (λ u. refl) refl refl (λ was. passed_more t c log d refl (are.passed t c was)) are
more_marks log s n e r h _ first are = other_marks log s.marks (item_of s e r h) (λ t. refl) refl are

-- The opening

none_at : (n t c : ℕ) → mark_at (replicate n (replicate MOST_CPUS no_mark)) t c ≡ no_mark
none_at zero t c = refl
none_at (suc n) zero c = get_or_all MOST_CPUS no_mark c
none_at (suc n) (suc t) c = none_at n t c

-- before all events there is no mark
pub no_marks : (z : Settings) → AreMarksOf [] (opening z).marks
no_marks z = record {
  snapped = λ t c w is. absurd (none-some w (sym (ap (λ (m : Mark). m.snapshot) (none_at z.slots t c)) ∙ is));
  marked = λ t c w is. absurd (no_place is.before is.after (has_snapped t c w) is.are);
  passed = λ t c is. absurd (let q : false ≡ true = sym (ap (λ (m : Mark). m.passed) (none_at z.slots t c)) ∙ is in cc);
}

-- What follows from the words in a log: after a wait no look finds a section open whose snapshot was taken before.

-- the item is in the log
pub record StandsIn (d : LogItem) (log : List LogItem) : Type 0 where
  pub before : List LogItem
  pub after : List LogItem
  pub are : log ≡ before ++ d ∷ after

pub stands_more : (d : LogItem) (log more : List LogItem) → StandsIn d log → StandsIn d (log ++ more)
stands_more d log more is = record { before = is.before; after = is.after ++ more; are = ap (λ (l : List LogItem). l ++ more) is.are ∙ append_assoc is.before (d ∷ is.after) more }

pub stands_past : (d : LogItem) (first log : List LogItem) → StandsIn d log → StandsIn d (first ++ log)
stands_past d first log is = record { before = first ++ is.before; after = is.after; are = ap (λ (l : List LogItem). first ++ l) is.are ∙ sym (append_assoc first is.before (d ∷ is.after)) }

-- what is so of a log is so of a longer one that keeps the entry

pub snapped_on : (t c w : ℕ) (log more : List LogItem) → KeepsEntry t more → IsSnapped t c w log → IsSnapped t c w (log ++ more)
snapped_on t c w log more keeps is = record {
  before = is.before;
  after = is.after ++ more;
  are = ap (λ (l : List LogItem). l ++ more) is.are ∙ append_assoc is.before (has_snapped t c w ∷ is.after) more;
  since = keeps_more t is.after more is.since keeps;
}

pub passed_on : (t c : ℕ) (log more : List LogItem) → KeepsEntry t more → HasPassedOn t c log → HasPassedOn t c (log ++ more)
passed_on t c log more keeps is = record {
  new = is.new;
  before = is.before;
  after = is.after ++ more;
  are = ap (λ (l : List LogItem). l ++ more) is.are ∙ append_assoc is.before (has_looked t c is.new ∷ is.after) more;
  since = keeps_more t is.after more is.since keeps;
  out = is.out;
}

-- of a load in the first part and one in the second the later found no smaller word
pub grow_apart : (log a b : List LogItem) (c v w : ℕ) (d e : LogItem) → WordsGrow log → log ≡ a ++ b → StandsIn d a → StandsIn e b → FindsWord c v d → FindsWord c w e → v ≤ w
grow_apart log a b c v w d e grow are first second found later =
    let whole : log ≡ first.before ++ d ∷ ((first.after ++ second.before) ++ e ∷ second.after) =
    are ∙ ((λ k. first.are k ++ second.are k) ∙ (append_assoc first.before (d ∷ first.after) (second.before ++ e ∷ second.after)
    ∙ ap (λ (l : List LogItem). first.before ++ d ∷ l) (sym (append_assoc first.after second.before (e ∷ second.after))))) in
    grow c v w d e first.before (first.after ++ second.before) second.after whole found later

-- The snapshot of c for the slot t was taken before the wait, and c was seen out of its section in it: no look after the wait finds the word of that snapshot odd.
pub no_open : (t c old w : ℕ) (log before since more : List LogItem) → WordsGrow log → log ≡ before ++ (since ++ more) → IsSnapped t c old before → IsSeenOut c since → StandsIn (has_looked t c w) more
    → w ≡ old → (w % 2 ≡ 1) → ⊥
no_open t c old w log before since more grow are snapped seen looked same odd =
    let taken : LogItem = has_taken c seen.old in
    let found : LogItem = has_found c seen.new in
    let in_wait : StandsIn taken (seen.before ++ taken ∷ seen.between) = record { before = seen.before; after = seen.between; are = refl } in
    let flat : since ≡ (seen.before ++ taken ∷ seen.between) ++ found ∷ seen.after = seen.are ∙ sym (append_assoc seen.before (taken ∷ seen.between) (found ∷ seen.after)) in
    let taken_in : StandsIn taken since = record { before = seen.before; after = seen.between ++ found ∷ seen.after; are = seen.are } in
    let found_in : StandsIn found since = record { before = seen.before ++ taken ∷ seen.between; after = seen.after; are = flat } in
    let one : old ≤ seen.old = grow_apart log before (since ++ more) c old seen.old (has_snapped t c old) taken grow are
    (record { before = snapped.before; after = snapped.after; are = snapped.are }) (stands_more taken since more taken_in) (Some t, inl refl) (None, inl refl) in
    let cut : log ≡ (before ++ (seen.before ++ taken ∷ seen.between)) ++ (found ∷ (seen.after ++ more)) =
    are ∙ (ap (λ (l : List LogItem). before ++ (l ++ more)) flat ∙ (ap (λ (l : List LogItem). before ++ l) (append_assoc (seen.before ++ taken ∷ seen.between) (found ∷ seen.after) more)
    ∙ sym (append_assoc before (seen.before ++ taken ∷ seen.between) (found ∷ (seen.after ++ more))))) in
    let two : seen.old ≤ seen.new = grow_apart log (before ++ (seen.before ++ taken ∷ seen.between)) (found ∷ (seen.after ++ more)) c seen.old seen.new taken found grow cut
    (stands_past taken before (seen.before ++ taken ∷ seen.between) in_wait) (record { before = []; after = seen.after ++ more; are = refl }) (None, inl refl) (None, inr refl) in
    let three : seen.new ≤ w = grow_apart log (before ++ since) more c seen.new w found (has_looked t c w) grow (are ∙ sym (append_assoc before since more))
    (stands_past found before since found_in) looked (None, inr refl) (Some t, inr refl) in
    ⊎_elim
    (λ (even : seen.new % 2 ≡ 0). let here : seen.new ≡ w = omega (arith, one, two, three, same) in omega (arith, here, even, odd))
    (λ (off : seen.new ≡ seen.old → ⊥). off (omega (arith, one, two, three, same)))
    seen.moved
