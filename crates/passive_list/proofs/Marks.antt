-- The keeper's marks: where a slot's lie, what is so as one is written or all snapshots are taken, and looks.
use Rattle.std.proofs.Common.{◌≡◌, ◌≢◌, inl, inr, ⊎_elim, ◌⊎◌, ℕ, ◌+◌, ◌*◌, ◌<◌, ◌≤◌, List, [], ◌++◌, length, take, drop, get_or, set, replicate, refl, sym, ap, ◌∙◌, subst, arith, length-set, get_or-set_same, get_or-set_other, true, ◌&&◌, ◌==◌, eqb-true, Bool, nat_lt, if◌then◌else◌, lt-ltb}
use Rattle.std.proofs.lemmas.Bool.{cases_eq, cases_lt, and_parts}
use Rattle.std.proofs.lemmas.List.{length-replicate, length-drop, length-take-le, get_or-replicate, get_or-take, get_or-drop, get_or_read, ext_get_or, take-append-le, take_all, set-get_or, set-set}
use Rattle.std.proofs.lemmas.Nat.{row_fits, same_from_place}
use Rattle.std.specs.List.{list_all}
use Rattle.atomic_table.specs.Seated.{TableId}
use Rattle.passive_list.specs.Types.{Mark, Settings, MOST_CPUS, KeeperView, Entry, Event, Reply, Vacant, Retired, LogItem, Keeper, Due, Rest, Snapshots}
use Rattle.registry_values.specs.Common.{no_mark, is_passed, is_clear, is_collected, is_retired, live_count, slot_at, have_passed, are_clear, are_collected, bias}
use Rattle.registry_values.proofs.Fit.{ranges}
use Rattle.protocol.specs.Common.{with_cell, mark_at, snapshot_mark}
use Rattle.protocol.proofs.Cells.{by_cell, cell_here, cell_other, get_or_all}
use Rattle.protocol.proofs.keeps.ListKeeps.{live_count_put, rows_cell, rows_put}
use Rattle.protocol.proofs.Occupied.{is_retired_tells}
use Rattle.cpu_words.specs.Common.{keeper_with, MayLook, keeper_after_look, IsShown, Makes, keeper_after_vacate, HasSnapshot}
use Rattle.cpu_words.proofs.seats.Seating.{step_is_shown}
use Rattle.passive_list.specs.Common.{AreWritten, IsAtRest, MarksAgree, KeptSlot, OnPlainKeeper, on_keeper, row_at, states_of, total_or_bias, RowsAgree, IsOurKeeper, IsDrainedOn, is_drained_row, AreFresh, AreSnapshots}
use Rattle.passive_list.proofs.Rows.{state_at, state_set, retired_in, keeper_on, rows_stay}

-- The keeper's marks: where a slot's lie, and what they say of a view as one mark, or all of a slot, are written.

-- Places

-- a slot's marks are among them
pub slot_below : (a : Settings) (t : ℕ) → t < a.slots → t * a.cpus + a.cpus ≤ a.slots * a.cpus
slot_below a t lt = row_fits t a.cpus a.slots a.cpus lt (omega arith)

pub mark_below : (a : Settings) (k : KeeperView) (ms : List Mark) (t c at : ℕ) → MarksAgree a k ms → t < a.slots → c < a.cpus → at ≡ t * a.cpus + c → at < length ms
mark_below a k ms t c at had lt cpu place = omega (arith, had.size, slot_below a t lt, cpu, place)

-- what is read there is the view's
pub mark_read : (a : Settings) (k : KeeperView) (ms : List Mark) (t c at : ℕ) (m : Mark) → MarksAgree a k ms → t < a.slots → c < a.cpus → at ≡ t * a.cpus + c → m ≡ get_or ms at m → m ≡ mark_at k.marks t c
mark_read a k ms t c at m had lt cpu place is =
    get_or_read ms at m (mark_below a k ms t c at had lt cpu place) is no_mark ∙ (ap (λ (p : ℕ). get_or ms p no_mark) place ∙ had.each t c lt cpu)

-- At the start

pub new_marks : (a : Settings) → MarksAgree a (keeper_with a a.cpus) (replicate (a.slots * a.cpus) no_mark)
new_marks a = record {
  size = length-replicate (a.slots * a.cpus) no_mark;
  each = λ t c lt cpu. get_or_all (a.slots * a.cpus) no_mark (t * a.cpus + c)
      ∙ sym (ap (λ (row : List Mark). get_or row c no_mark) (get_or-replicate a.slots t (replicate MOST_CPUS no_mark) [] lt) ∙ get_or_all MOST_CPUS no_mark c);
}

-- What changes

pub marks_stay : (a : Settings) (k l : KeeperView) (ms : List Mark) → l.marks ≡ k.marks → MarksAgree a k ms → MarksAgree a l ms
marks_stay a k l ms same had = record {
  size = had.size;
  each = λ t c lt cpu. had.each t c lt cpu ∙ sym (ap (λ (rows : List (List Mark)). mark_at rows t c) same);
}

-- a mark has its place
mark_in : (a : Settings) (k : KeeperView) (t c : ℕ) → IsAtRest a k → t < a.slots → c < a.cpus → (t < length k.marks) × (c < length (get_or k.marks t []))
mark_in a k t c at lt cpu =
    let within : t < length k.marks = omega (arith, lt, at.sized.marks) in (within, omega (arith, at.sized.mark_rows t within, (ranges a at.fit).cpus, cpu))

-- one mark
pub marks_set : (a : Settings) (k l : KeeperView) (ms : List Mark) (t c p : ℕ) (m : Mark) → IsAtRest a k → MarksAgree a k ms → t < a.slots → c < a.cpus → p ≡ t * a.cpus + c
    → l.marks ≡ with_cell k.marks t c m → MarksAgree a l (set ms p m)
marks_set a k l ms t c p m at had lt cpu place same =
    let within = mark_in a k t c at lt cpu in
    record {
      size = length-set ms p m ∙ had.size;
      each = λ u d low also. by_cell (λ (v e : ℕ). e < a.cpus → get_or (set ms p m) (v * a.cpus + e) no_mark ≡ mark_at l.marks v e) t c u d
          (λ _. ap (λ (q : ℕ). get_or (set ms p m) q no_mark) (sym place) ∙ (get_or-set_same ms p m no_mark (mark_below a k ms t c p had lt cpu place)
          ∙ sym (ap (λ (rows : List (List Mark)). mark_at rows t c) same ∙ cell_here no_mark k.marks t c m within.0 within.1)))
          (λ off _. get_or-set_other ms p (u * a.cpus + d) m no_mark
          (λ (is : u * a.cpus + d ≡ p). let q = same_from_place u d t c a.cpus also cpu (is ∙ place) in off q.0 q.1)
          ∙ (had.each u d low also ∙ sym (ap (λ (rows : List (List Mark)). mark_at rows u d) same ∙ cell_other no_mark k.marks t c m u d off)))
          also;
    }

-- all marks of a slot
pub marks_written : (a : Settings) (k l : KeeperView) (ms ns : List Mark) (t : ℕ) (row : List Mark) → MarksAgree a k ms → AreWritten (t * a.cpus) a.cpus row ms ns
    → get_or l.marks t [] ≡ row → ((u : ℕ) → u ≢ t → get_or l.marks u [] ≡ get_or k.marks u []) → MarksAgree a l ns
marks_written a k l ms ns t row had written here others = record {
  size = written.size ∙ had.size;
  each = λ u d low also. ⊎_elim
      (λ (same : u ≡ t). subst (λ (v : ℕ). get_or ns (v * a.cpus + d) no_mark ≡ mark_at l.marks v d) (sym same)
      (written.here d also ∙ sym (ap (λ (xs : List Mark). get_or xs d no_mark) here)))
      (λ (off : u ≡ t → ⊥). written.others (u * a.cpus + d) (outside u d also off) ∙ (had.each u d low also ∙ sym (ap (λ (xs : List Mark). get_or xs d no_mark) (others u off))))
      (cases_eq u t);
}
  where
    outside : (u d : ℕ) → d < a.cpus → (u ≡ t → ⊥) → (u * a.cpus + d < t * a.cpus) ⊎ (t * a.cpus + a.cpus ≤ u * a.cpus + d)
    outside u d also off = ⊎_elim
        (λ (less : u < t). inl (omega (arith, also, row_fits u a.cpus t a.cpus less (omega arith))))
        (λ (more : t ≤ u). inr (omega (arith, row_fits t a.cpus u a.cpus (omega (arith, more, off)) (omega arith))))
        (cases_lt u t)

-- Taking all marks of a slot

pub none_written : (from : ℕ) (row ms : List Mark) → AreWritten from 0 row ms ms
none_written from row ms = record { size = refl; here = λ c lt. absurd (omega (arith, lt)); others = λ p out. refl }

pub one_written : (from n : ℕ) (row old ms : List Mark) (m : Mark) → from + n < length old → n < length row → AreWritten from n row old ms
    → AreWritten from (n + 1) (set row n m) old (set ms (from + n) m)
one_written from n row old ms m place in_row had = record {
  size = length-set ms (from + n) m ∙ had.size;
  here = λ c lt. ⊎_elim
      (λ (is : c ≡ n). subst (λ (d : ℕ). get_or (set ms (from + n) m) (from + d) no_mark ≡ get_or (set row n m) d no_mark) (sym is)
      (get_or-set_same ms (from + n) m no_mark (omega (arith, had.size, place)) ∙ sym (get_or-set_same row n m no_mark in_row)))
      (λ (off : c ≡ n → ⊥). get_or-set_other ms (from + n) (from + c) m no_mark (λ (same : from + c ≡ from + n). off (omega (arith, same)))
      ∙ (had.here c (omega (arith, lt, off)) ∙ sym (get_or-set_other row n c m no_mark off)))
      (cases_eq c n);
  others = λ p out. ⊎_elim
      (λ (low : p < from). get_or-set_other ms (from + n) p m no_mark (λ (same : p ≡ from + n). omega (arith, low, same)) ∙ had.others p (inl low))
      (λ (high : from + (n + 1) ≤ p). get_or-set_other ms (from + n) p m no_mark (λ (same : p ≡ from + n). omega (arith, high, same)) ∙ had.others p (inr (omega (arith, high))))
      out;
}

-- what is written through a slice of a whole list is then the list
pub written_back : {A : Type 0} (n : ℕ) (xs ys : List A) → length ys ≡ n → take n (ys ++ drop (length ys) xs) ≡ ys
written_back n xs ys same = take-append-le n ys (drop (length ys) xs) (omega (arith, same)) ∙ take_all n ys (omega (arith, same))

-- What they say

-- the marks of a slot, as far as there are CPUs
pub marks_from : (a : Settings) (k : KeeperView) (ms : List Mark) (t : ℕ) → IsAtRest a k → MarksAgree a k ms → t < a.slots
    → take a.cpus (drop (t * a.cpus) ms) ≡ take a.cpus (get_or k.marks t [])
marks_from a k ms t at had lt =
    let n = a.cpus in
    let xs = drop (t * n) ms in
    let ys = get_or k.marks t [] in
    let here : length (take n xs) ≡ n = length-take-le n xs (omega (arith, slot_below a t lt, had.size, length-drop (t * n) ms)) in
    let there : length (take n ys) ≡ n = length-take-le n ys (omega (arith, at.sized.mark_rows t (omega (arith, lt, at.sized.marks)), (ranges a at.fit).cpus)) in
    ext_get_or no_mark (take n xs) (take n ys) (here ∙ sym there) (λ c low. let cpu : c < n = omega (arith, here, low) in
    get_or-take n xs c no_mark cpu ∙ (get_or-drop (t * n) ms c no_mark ∙ (had.each t c lt cpu ∙ sym (get_or-take n ys c no_mark cpu))))

-- Looks and the end of a drain: one mark or the state of one row changes.

-- Looks

-- a slot that is retired in the rows, and a CPU
looked_in : {table : TableId} {log : List LogItem} (a : Settings) (k : KeeperView) (rows : List KeptSlot) (t c : ℕ) (e : Entry) (x : OnPlainKeeper) → RowsAgree a k rows → on_keeper table a k rows log ≡ x
    → slot_at x.keeper.slots t ≡ Retired e → c < x.words.settings.cpus → (t < a.slots) × (slot_at k.slots t ≡ Retired e) × (c < a.cpus)
looked_in a k rows t c e x agree is retired low =
    let here = retired_in a k rows t e agree (ap (λ (y : OnPlainKeeper). slot_at y.keeper.slots t) is ∙ retired) in
    (here.0, here.1, subst (λ (y : OnPlainKeeper). c < y.words.settings.cpus) (sym is) low)

-- so it may be looked at
pub may_look : {table : TableId} {log : List LogItem} (a : Settings) (k : KeeperView) (rows : List KeptSlot) (t c : ℕ) (e : Entry) (x : OnPlainKeeper) → IsAtRest a k → RowsAgree a k rows
    → on_keeper table a k rows log ≡ x → slot_at x.keeper.slots t ≡ Retired e → c < x.words.settings.cpus → MayLook k t c
may_look a k rows t c e x rest agree is retired low =
    let it = looked_in a k rows t c e x agree is retired low in
    record { glance = record { rest = rest.rest; cpu = subst (λ (z : Settings). c < z.cpus) (sym rest.settings) it.2 }; retired = (e, it.1) }

-- and its mark is among them
pub look_below : {table : TableId} {log : List LogItem} (a : Settings) (k : KeeperView) (rows : List KeptSlot) (ms : List Mark) (t c p : ℕ) (e : Entry) (x : OnPlainKeeper) → RowsAgree a k rows → MarksAgree a k ms
    → on_keeper table a k rows log ≡ x → slot_at x.keeper.slots t ≡ Retired e → c < x.words.settings.cpus → p ≡ t * a.cpus + c → p < length ms
look_below a k rows ms t c p e x agree marks is retired low place = let it = looked_in a k rows t c e x agree is retired low in mark_below a k ms t c p marks it.0 it.2 place

abbrev pub marked : KeeperView → Event → Reply → ℕ → ℕ → Mark → KeeperView
marked k ev r t c m = record (keeper_after_look k ev r) { marks = with_cell k.marks t c m }

-- after a look that made f of the mark, in the keeper's marks as in the view, these agree
pub looked_keeper : {table : TableId} {log : List LogItem} (a : Settings) (k l : KeeperView) (rows : List KeptSlot) (ms : List Mark) (n : ℕ) (ev : Event) (r : Reply) (t c p : ℕ) (f : Mark → Mark) (q m : Mark) (e : Entry) (x : OnPlainKeeper)
    → IsOurKeeper a k rows n → MarksAgree a k ms → on_keeper table a k rows log ≡ x → slot_at x.keeper.slots t ≡ Retired e → c < x.words.settings.cpus → p ≡ t * a.cpus + c → q ≡ get_or ms p q → m ≡ f q
    → l ≡ marked k ev r t c (f (mark_at k.marks t c)) → Makes ev r (Keeper k) (Keeper l)
    → IsOurKeeper a l rows n × MarksAgree a l (set ms p m)
looked_keeper a k l rows ms n ev r t c p f q m e x our marks is retired low place read made change event =
    let at = our.view in
    let it = looked_in a k rows t c e x our.rows is retired low in
    let v = marked k ev r t c m in
    let now : l ≡ v = change ∙ ap (marked k ev r t c) (sym (made ∙ ap f (mark_read a k ms t c p q marks it.0 it.2 place read))) in (
      keeper_on a l v rows n now (step_is_shown event)
          (assumption (length-set k.marks t (set (get_or k.marks t []) c m) ∙ at.sized.marks, rows_cell k.marks t c m at.sized.mark_rows)) our.changes (rows_stay a k v rows refl refl refl refl our.rows),
      marks_set a k l ms t c p m at marks it.0 it.2 place (ap (λ (x : KeeperView). x.marks) now),
    )

-- the mark that it made is the view's
pub looked_mark : {table : TableId} {log : List LogItem} (a : Settings) (k l : KeeperView) (rows : List KeptSlot) (ms : List Mark) (n : ℕ) (ev : Event) (r : Reply) (t c p : ℕ) (f : Mark → Mark) (q m : Mark) (e : Entry) (x : OnPlainKeeper)
    → IsOurKeeper a k rows n → MarksAgree a k ms → on_keeper table a k rows log ≡ x → slot_at x.keeper.slots t ≡ Retired e → c < x.words.settings.cpus → p ≡ t * a.cpus + c → q ≡ get_or ms p q → m ≡ f q
    → l ≡ marked k ev r t c (f (mark_at k.marks t c)) → m ≡ mark_at l.marks t c
looked_mark a k l rows ms n ev r t c p f q m e x our marks is retired low place read made change =
    let it = looked_in a k rows t c e x our.rows is retired low in
    let within = mark_in a k t c our.view it.0 it.2 in
    made ∙ ap f (mark_read a k ms t c p q marks it.0 it.2 place read) ∙ sym (ap (λ (x : KeeperView). mark_at x.marks t c) change
    ∙ cell_here no_mark k.marks t c (f (mark_at k.marks t c)) within.0 within.1)

-- The end of a drain

abbrev pub row_vacated : KeptSlot → KeptSlot
row_vacated r = record { state = Vacant; total = r.total; keeps = r.keeps; rank = r.rank }

pub vacated_at_rest : (a : Settings) (k : KeeperView) (t : ℕ) (e : Entry) → IsAtRest a k → t < a.slots → slot_at k.slots t ≡ Retired e → IsAtRest a (keeper_after_vacate k t)
vacated_at_rest a k t e at lt retired =
    let same : live_count (set k.slots t Vacant) + 0 ≡ live_count k.slots + 0 = live_count_put k.slots t (Retired e) Vacant (omega (arith, lt, at.sized.slots)) retired in
    let room : length k.history + live_count (set k.slots t Vacant) ≤ a.change_limit = omega (arith, same, at.room) in
    assumption (room, length-set k.slots t Vacant ∙ at.sized.slots, length-set k.counts t (replicate MOST_CPUS 0) ∙ at.sized.counts, rows_put k.counts t (replicate MOST_CPUS 0) refl at.sized.count_rows)

pub vacated_keeper : {log : List LogItem} (a : Settings) (k l : KeeperView) (rows : List KeptSlot) (n t : ℕ) → IsOurKeeper a k rows n
    → IsDrainedOn (record { view = k; slots = states_of rows; log = log }) t
    → l ≡ keeper_after_vacate k t → IsShown l → IsOurKeeper a l (set rows t (row_vacated (row_at rows t))) n
vacated_keeper a k l rows n t our is change is_shown =
    let here = retired_in a k rows t is.retired.0 our.rows is.retired.1 in
    let m = keeper_after_vacate k t in
    keeper_on a l m (set rows t (row_vacated (row_at rows t))) n change is_shown (vacated_at_rest a k t is.retired.0 our.view here.0 here.1) our.changes
    (state_set a k m rows t Vacant (row_at rows t).rank our.view.sized.slots our.rows here.0 refl refl refl (λ _. is.drained.total) (λ e is. cc) (λ u e is. refl))

-- as many marks as there are CPUs, by the view's settings
marks_taken : (a : Settings) (k : KeeperView) (ms : List Mark) (t cpus : ℕ) → IsAtRest a k → cpus ≡ a.cpus → take a.cpus ms ≡ take a.cpus (get_or k.marks t [])
    → take cpus ms ≡ take k.settings.cpus (get_or k.marks t [])
marks_taken a k ms t cpus at same marks =
    ap (λ (n : ℕ). take n ms) same ∙ (marks ∙ ap (λ (z : Settings). take z.cpus (get_or k.marks t [])) (sym at.settings))

-- what the row and the marks say of a drain is what the view says
pub drained_tells : {log : List LogItem} (a : Settings) (k : KeeperView) (rows : List KeptSlot) (ms : List Mark) (t cpus : ℕ) → IsAtRest a k → RowsAgree a k rows → t < a.slots → cpus ≡ a.cpus
    → take a.cpus ms ≡ take a.cpus (get_or k.marks t []) → is_drained_row cpus (row_at rows t) ms ≡ true → IsDrainedOn (record { view = k; slots = states_of rows; log = log }) t
drained_tells a k rows ms t cpus at agree lt same marks is =
    let r = row_at rows t in
    let had = agree.each t lt in
    let p = and_parts (is_retired r.state) (have_passed cpus ms && (are_clear cpus ms && (are_collected cpus ms && total_or_bias r == bias))) is in
    let q = and_parts (have_passed cpus ms) (are_clear cpus ms && (are_collected cpus ms && total_or_bias r == bias)) p.1 in
    let s = and_parts (are_clear cpus ms) (are_collected cpus ms && total_or_bias r == bias) q.1 in
    let v = and_parts (are_collected cpus ms) (total_or_bias r == bias) s.1 in
    let retired = is_retired_tells r.state p.0 in
    let here = state_at rows t ∙ retired.1 in
    let taken : take cpus ms ≡ take k.settings.cpus (get_or k.marks t []) = marks_taken a k ms t cpus at same marks in
    record {
      retired = (retired.0, here);
      drained = record {
        rest = at.rest;
        retired = (retired.0, (retired_in a k rows t retired.0 agree here).1);
        passed = sym (ap (list_all is_passed) taken) ∙ q.0;
        clear = sym (ap (list_all is_clear) taken) ∙ s.0;
        collected = sym (ap (list_all is_collected) taken) ∙ v.0;
        total = sym had.total ∙ eqb-true (total_or_bias r) bias v.1;
      };
    }

pub drained_from : {log : List LogItem} (a : Settings) (k : KeeperView) (rows : List KeptSlot) (ms : List Mark) (t cpus : ℕ) → IsAtRest a k → RowsAgree a k rows → t < a.slots → cpus ≡ a.cpus
    → take a.cpus ms ≡ take a.cpus (get_or k.marks t []) → IsDrainedOn (record { view = k; slots = states_of rows; log = log }) t → is_drained_row cpus (row_at rows t) ms ≡ true
drained_from a k rows ms t cpus at agree lt same marks is =
    let had = agree.each t lt in
    let d = is.drained in
    let taken : take cpus ms ≡ take k.settings.cpus (get_or k.marks t []) = marks_taken a k ms t cpus at same marks in
    let state : (row_at rows t).state ≡ Retired is.retired.0 = sym (state_at rows t) ∙ is.retired.1 in
    let total : total_or_bias (row_at rows t) ≡ bias = had.total ∙ d.total in
    rw (state, taken, d.passed, d.clear, d.collected, total) refl

-- The snapshots of all CPUs are taken, one after the other.

-- what is due before the snapshot of c
abbrev pub due_before : ℕ → ℕ → ℕ → Due
due_before cpus t c = if nat_lt c cpus then Snapshots t c else Rest

-- the marks so far are in the slot t
abbrev pub taking : KeeperView → ℕ → ℕ → ℕ → List Mark → KeeperView
taking k t cpus c marks = record k { marks = set k.marks t marks; due = due_before cpus t c }

-- none is taken
pub taking_first : (k : KeeperView) (t cpus : ℕ) → AreFresh k t → k.due ≡ Snapshots t 0 → 1 ≤ cpus → k ≡ taking k t cpus 0 (replicate MOST_CPUS no_mark)
taking_first k t cpus fresh due some =
    let marks : k.marks ≡ set k.marks t (replicate MOST_CPUS no_mark) = sym (ap (set k.marks t) (sym fresh.marks) ∙ set-get_or k.marks t []) in
    let next : k.due ≡ due_before cpus t 0 = due ∙ ap (λ (b : Bool). if b then Snapshots t 0 else Rest) (sym (lt-ltb 0 cpus some)) in
    λ i. record k { marks = marks i; due = next i }

pub none_taken : AreSnapshots 0 (replicate MOST_CPUS no_mark)
none_taken = record { size = length-replicate MOST_CPUS no_mark; each = λ c lt. absurd (omega (arith, lt)) }

pub taking_next : (k l m : KeeperView) (t cpus c w : ℕ) (marks : List Mark) → AreFresh k t → cpus ≡ k.settings.cpus → l ≡ taking k t cpus c marks → HasSnapshot l t c w m
    → m ≡ taking k t cpus (c + 1) (set marks c (snapshot_mark w))
taking_next k l m t cpus c w marks fresh same at is =
    let x = snapshot_mark w in
    let here : with_cell (set k.marks t marks) t c x ≡ set k.marks t (set marks c x) =
    ap (λ (row : List Mark). set (set k.marks t marks) t (set row c x)) (get_or-set_same k.marks t marks [] fresh.place) ∙ set-set k.marks t marks (set marks c x) in
    is ∙ (ap (λ (y : KeeperView). record y { marks = with_cell y.marks t c x; due = due_before y.settings.cpus t (c + 1) }) at
    ∙ (ap (λ (ms : List (List Mark)). record k { marks = ms; due = due_before k.settings.cpus t (c + 1) }) here
    ∙ ap (λ (n : ℕ). record k { marks = set k.marks t (set marks c x); due = due_before n t (c + 1) }) (sym same)))

pub one_taken : (n w : ℕ) (marks : List Mark) → n < MOST_CPUS → AreSnapshots n marks → AreSnapshots (n + 1) (set marks n (snapshot_mark w))
one_taken n w marks few had = record {
  size = length-set marks n (snapshot_mark w) ∙ had.size;
  each = λ c lt. ⊎_elim
      (λ (is : c ≡ n). (w, ap (λ d. get_or (set marks n (snapshot_mark w)) d no_mark) is ∙ get_or-set_same marks n (snapshot_mark w) no_mark (let size = had.size in omega (arith, size, few))))
      (λ (off : c ≡ n → ⊥). let was = had.each c (omega (arith, lt, off)) in (was.0, get_or-set_other marks n c (snapshot_mark w) no_mark off ∙ was.1))
      (cases_eq c n);
}
