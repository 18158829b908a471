-- Snapshots, looks and collections on the words, where a mark of one CPU changes.
use Rattle.std.proofs.Common.{◌≡◌, ◌≢◌, inr, ⊎_elim, ℕ, zero, suc, ◌+◌, ◌<◌, ◌≤◌, List, [], ◌∷◌, length, get_or, set, sum_by, Bool, true, if◌then◌else◌, refl, sym, ap, ◌∙◌, subst, arith, Some, None, false, nat_lt, cond, ne_eqb}
use Rattle.std.specs.List.{zip}
use Rattle.std.proofs.lemmas.List.Sums.{sum_by-cons}
use Rattle.std.proofs.lemmas.Bool.{cases_eq, lt-ltb, eq-eqb}
use Rattle.std.specs.Prelude.{slice_index}
use mathlib.Core.List.{IsPrefix}
use Rattle.atomic_table.specs.Table.{keeps, stepped}
use Rattle.cpu_words.specs.Types.{Entry, Mark, Due, Change, Settings, Slot, Retired, Rest, Snapshots, Event, Look, Snapshot, Word, Vacant, Adding, PassiveLook, Collect}
use Rattle.registry_values.specs.Common.{no_mark, slot_at, mark_after_look, have_passed, are_clear, mark_after_passive_look, mark_after_collect}
use Rattle.registry_values.proofs.Fit.{ranges}
use Rattle.protocol.specs.Common.{State, with_cell, mark_at, count_at, total_at, AreRows, IsIn, subtraction_due_at, addition_due_at, is_adding_at, section_at, at_rest, step, snapshot_mark, DueHolds, passive_at}
use Rattle.protocol.proofs.Cells.{row_here, row_other, cell_here, cell_other, cell_put}
use Rattle.protocol.proofs.Occupied.{in_within}
use Rattle.protocol.proofs.counts.Sums.{one_self, one_other}
use Rattle.cpu_words.specs.Common.{KeeperView, number_at, keeper_view, KeeperShown, GivesUp, collected_net, collected_one, Good, Keeper, section_of, index, GoesOn, by_number, did, MayGlance, MayLook, MaySnapshot, due_next, LookTold, keeper_after_look, passive_of, count_of, Agrees, MayPassiveLook, LookedPassiveTold, MayCollect, CollectTold}
use Rattle.cpu_words.proofs.by_keeper.KeeperSteps.{with_keeper, leaves_all, keeper_makes, seen_by_keeper, loads, SeenByKeeper, shown_still, KeeperDoes}
use Rattle.cpu_words.proofs.shown.Placing.{agrees_set}

-- A mark of one CPU changes: what was collected, and what the keeper's view shows of it.

-- a sum over the marks and net counts of a slot, as one mark changes
pub sum_marked : (f : Mark × ℕ → ℕ) (ms : List Mark) (ns : List ℕ) (c : ℕ) (m : Mark) → c < length ms → c < length ns
    → sum_by f (zip (set ms c m) ns) + f (get_or ms c no_mark, get_or ns c 0) ≡ sum_by f (zip ms ns) + f (m, get_or ns c 0)
sum_marked f [] ns c m lt there = absurd (omega arith)
sum_marked f (x ∷ ms) [] c m lt there = absurd (omega arith)
sum_marked f (x ∷ ms) (n ∷ ns) zero m lt there = omega (arith, sum_by-cons f (x, n) (zip ms ns), sum_by-cons f (m, n) (zip ms ns))
sum_marked f (x ∷ ms) (n ∷ ns) (suc c) m lt there = omega (arith, sum_marked f ms ns c m (omega arith) (omega arith), sum_by-cons f (x, n) (zip ms ns), sum_by-cons f (x, n) (zip (set ms c m) ns))

pub same_collected : (g : State) (t c : ℕ) (m : Mark) → m.collected ≡ (mark_at g.marks t c).collected → (u d : ℕ) → (mark_at g.marks u d).collected ≡ true
    → (mark_at (with_cell g.marks t c m) u d).collected ≡ true
same_collected g t c m same u d = cell_put no_mark g.marks t c m (λ v e x. (mark_at g.marks v e).collected ≡ true → x.collected ≡ true) u d (λ was. same ∙ was) (λ was. was)

-- of the slot t, and of another slot
pub sum_here : (f : Mark × ℕ → ℕ) (g : State) (t c : ℕ) (m : Mark) → Good g → t < length g.slots → c < g.settings.cpus
    → sum_by f (zip (get_or (with_cell g.marks t c m) t []) (get_or g.nets t [])) + f (mark_at g.marks t c, count_at g.nets c t)
    ≡ sum_by f (zip (get_or g.marks t []) (get_or g.nets t [])) + f (m, count_at g.nets c t)
sum_here f g t c m good lt cpu =
    let shape = good.holds.shape in
    let few = (ranges g.settings good.holds.fit).cpus in
    let in_marks : t < length g.marks = omega (arith, lt, shape.slots, shape.marks) in
    let in_nets : t < length g.nets = omega (arith, lt, shape.slots, shape.nets) in
    ap (λ (ms : List Mark). sum_by f (zip ms (get_or g.nets t [])) + f (mark_at g.marks t c, count_at g.nets c t)) (row_here g.marks t c m in_marks)
    ∙ sum_marked f (get_or g.marks t []) (get_or g.nets t []) c m (omega (arith, shape.mark_rows t in_marks, few, cpu)) (omega (arith, shape.net_rows t in_nets, few, cpu))

pub sum_off : (f : Mark × ℕ → ℕ) (g : State) (t c : ℕ) (m : Mark) (u : ℕ) → u ≢ t
    → sum_by f (zip (get_or (with_cell g.marks t c m) u []) (get_or g.nets u [])) ≡ sum_by f (zip (get_or g.marks u []) (get_or g.nets u []))
sum_off f g t c m u off = ap (λ (ms : List Mark). sum_by f (zip ms (get_or g.nets u []))) (row_other g.marks t c m u off)

-- what is due is as much for the total of each slot
abbrev pub DueAlike : Due → Due → Type 0
DueAlike due was = (u : ℕ) → (addition_due_at u due ≡ addition_due_at u was) × (is_adding_at u due ≡ is_adding_at u was) × (subtraction_due_at u due ≡ subtraction_due_at u was)

pub due_alike : (due was : Due) → due ≡ was → DueAlike due was
due_alike due was same u = (ap (addition_due_at u) same, ap (is_adding_at u) same, ap (subtraction_due_at u) same)

-- the marks of t change at c, and not whether it was collected; what is due is as much for each total
pub gives_up_marked : (g : State) (t c : ℕ) (m : Mark) (due : Due) (given_up : List ℕ) → Good g → c < g.settings.cpus → m.collected ≡ (mark_at g.marks t c).collected → DueAlike due g.due
    → (u : ℕ) (e : Entry) → IsIn e (slot_at g.slots u) → GivesUp g given_up u e.number → GivesUp (record g { marks = with_cell g.marks t c m; due = due }) given_up u e.number
gives_up_marked g t c m due given_up good lt same alike u e here was =
    let a = alike u in
    ⊎_elim
    (λ (is : u ≡ t).
    let lt : t < length g.slots = subst (λ v. v < length g.slots) is (in_within g.slots u e here) in
    let one = at collected_one (λ x. if x then 1 else 0) (λ x n. refl) lt in
    let net = at collected_net (λ x. if x then count_at g.nets c t else 0) (λ x n. refl) lt in
    let p = subst (λ v. sum_by collected_one (zip (get_or (with_cell g.marks t c m) v []) (get_or g.nets v [])) ≡ sum_by collected_one (zip (get_or g.marks v []) (get_or g.nets v []))) (sym is) one in
    let q = subst (λ v. sum_by collected_net (zip (get_or (with_cell g.marks t c m) v []) (get_or g.nets v [])) ≡ sum_by collected_net (zip (get_or g.marks v []) (get_or g.nets v []))) (sym is) net in
    omega (arith, was, a.0, a.1, a.2, p, q))
    (λ (off : u ≢ t). omega (arith, was, a.0, a.1, a.2, sum_off collected_one g t c m u off, sum_off collected_net g t c m u off))
    (cases_eq u t)
  where
    at : (f : Mark × ℕ → ℕ) (v : Bool → ℕ) → ((x : Mark) (n : ℕ) → f (x, count_at g.nets c t) ≡ v x.collected) → t < length g.slots
        → sum_by f (zip (get_or (with_cell g.marks t c m) t []) (get_or g.nets t [])) ≡ sum_by f (zip (get_or g.marks t []) (get_or g.nets t []))
    at f v by lt' = omega (arith, sum_here f g t c m good lt' lt, by (mark_at g.marks t c) 0, by m 0, ap v same)

-- what the keeper's view shows after such a change
pub shown_marked : (g : State) (k : KeeperView) (t c : ℕ) (m : Mark) (due : Due) (own : KeeperView) → Good g → KeeperShown g k → c < g.settings.cpus → m.collected ≡ (mark_at g.marks t c).collected
    → DueAlike due g.due → own.counts ≡ k.counts → own.given_up ≡ k.given_up → own.noted_pass ≡ k.noted_pass
    → KeeperShown (record g { marks = with_cell g.marks t c m; due = due }) (keeper_view (record g { marks = with_cell g.marks t c m; due = due }) own)
shown_marked g k t c m due own good had lt same alike counts given_up noted_pass = record {
  is = refl;
  counts = λ d u vacant. had.counts d u vacant ∙ ap (λ (x : List (List ℕ)). count_at x d u) (sym counts);
  sized = ap length counts ∙ had.sized;
  rows = subst AreRows (sym counts) had.rows;
  live_total = λ u e live. ap (λ (x : List ℕ). total_at g.totals u + number_at x e.number) given_up ∙ had.live_total u e live;
  gives_up = λ u e retired. gives_up_marked g t c m due own.given_up good lt same alike u e (inr retired) (subst (λ (x : List ℕ). GivesUp g x u e.number) (sym given_up) (had.gives_up u e retired));
  later = λ n above. ap (λ (x : List ℕ). number_at x n) given_up ∙ had.later n above;
  beyond = λ d u. cell_put no_mark g.marks t c m (λ v e x. g.settings.cpus ≤ e → x.collected ≡ false) u d (λ past. absurd (omega (arith, past, lt))) (had.beyond d u);
  honest = had.honest;
  noted_pass = subst (λ (x : List Change). IsPrefix x g.history) (sym noted_pass) had.noted_pass;
}

-- Looks and snapshots on the words.

pub look_may : (z : Settings) (k : KeeperView) (t c : ℕ) → MayLook k t c → KeeperDoes z k (section_of c) (λ n. n) (Look (Some t) c) Word (LookTold (Look (Some t) c))
look_may z k t c may s r i at fits =
    let g = r.g in
    let had : KeeperShown g k = (r.shows.fits i (Keeper k) at).1 in
    let seen = seen_by_keeper g k r.good had in
    let lt : c < g.settings.cpus = omega (arith, may.glance.cpu, ap (λ (a : Settings). a.cpus) seen.settings) in
    let w = slice_index s.words (index z (section_of c)) in
    let found : w ≡ section_at g c = r.words.at (section_of c) lt in
    let e = may.retired.0 in
    let retired : slot_at g.slots t ≡ Retired e = sym (ap (λ (x : List Slot). slot_at x t) seen.slots) ∙ may.retired.1 in
    let m : Mark = mark_after_look (mark_at g.marks t c) (section_at g c) in
    let l = record g { marks = with_cell g.marks t c m } in
    let own : KeeperView = keeper_after_look k (Look (Some t) c) (Word w) in
    let made : step g (Look (Some t) c) ≡ Some (record { state = with_keeper g l; reply = Word w }) = rw (sym seen.due ∙ may.glance.rest, retired, lt-ltb c g.settings.cpus lt, found) refl in
    let shown : KeeperShown (with_keeper g l) (keeper_view (with_keeper g l) own) = shown_marked g k t c m g.due own r.good had lt refl (due_alike g.due g.due refl) refl refl refl in
    let done = keeper_makes z s r i k (index z (section_of c)) w l (Look (Some t) c) (Word w) own at made (leaves_all g l refl refl refl refl (same_collected g t c m refl)) (λ n. refl) refl shown
    (loads z _ _ _ _ r.words refl (λ q _. refl)) in
    let change : keeper_view (with_keeper g l) own ≡ record (keeper_after_look k (Look (Some t) c) (Word w)) { marks = with_cell k.marks t c (mark_after_look (mark_at k.marks t c) w) } =
    ap (λ n. record (keeper_view g own) { marks = with_cell g.marks t c (mark_after_look (mark_at g.marks t c) n) }) (sym found)
    ∙ ap (λ (v : KeeperView). record (keeper_after_look v (Look (Some t) c) (Word w)) { marks = with_cell v.marks t c (mark_after_look (mark_at v.marks t c) w) }) (sym had.is) in
    (Keeper (keeper_view (with_keeper g l) own), done.0, (refl, (done.1, change)))

-- a load of a section word for no entry
glance_may : (z : Settings) (k : KeeperView) (c : ℕ) (e : Event) → MayGlance k c
    → ((g : State) → at_rest g.due ≡ true → nat_lt c g.settings.cpus ≡ true → (step g e ≡ Some (record { state = g; reply = Word (section_at g c) })) × (by_number g e ≡ e))
    → KeeperDoes z k (section_of c) (λ n. n) e Word (λ v n l. (l ≡ keeper_after_look v e (Word n)))
glance_may z k c e may steps s r i at fits =
    let g = r.g in
    let had : KeeperShown g k = (r.shows.fits i (Keeper k) at).1 in
    let seen = seen_by_keeper g k r.good had in
    let lt : c < g.settings.cpus = omega (arith, may.cpu, ap (λ (a : Settings). a.cpus) seen.settings) in
    let w = slice_index s.words (index z (section_of c)) in
    let l = g in
    let own : KeeperView = keeper_after_look k e (Word w) in
    let steps_here = steps g (ap at_rest (sym seen.due ∙ may.rest)) (lt-ltb c g.settings.cpus lt) in
    let made : step g e ≡ Some (record { state = with_keeper g l; reply = Word w }) = steps_here.0 ∙ ap (λ n. Some (record { state = g; reply = Word n })) (sym (r.words.at (section_of c) lt)) in
    let done = keeper_makes z s r i k (index z (section_of c)) w l e (Word w) own at made (leaves_all g l refl refl refl refl (λ t d is. is)) (λ n. refl) refl (shown_still g k l own had)
    (loads z _ _ _ _ r.words refl (λ q _. refl)) in (
      Keeper (keeper_view (with_keeper g l) own),
      subst (λ (f : Event). GoesOn z s r (did f (Word w)) (stepped s (index z (section_of c)) w i [] (Keeper (keeper_view (with_keeper g l) own)) keeps)) steps_here.1 done.0,
      (refl, (done.1, ap (λ (v : KeeperView). keeper_after_look v e (Word w)) (sym had.is))),
    )

pub look_now_may : (z : Settings) (k : KeeperView) (c : ℕ) → MayGlance k c → KeeperDoes z k (section_of c) (λ n. n) (Look None c) Word (LookTold (Look None c))
look_now_may z k c may = glance_may z k c (Look None c) may (λ g rest lt. (rw (rest, lt) refl, refl))

pub snapshot_now_may : (z : Settings) (k : KeeperView) (c : ℕ) → MayGlance k c → KeeperDoes z k (section_of c) (λ n. n) (Snapshot None c) Word (LookTold (Snapshot None c))
snapshot_now_may z k c may = glance_may z k c (Snapshot None c) may (λ g rest lt. (rw (rest, lt) refl, refl))

-- snapshots are due, or nothing: no total is to change
alike_after : (z : Settings) (t c : ℕ) (due : Due) → due ≡ Snapshots t c → DueAlike (due_next z t c) due
alike_after z t c due is = subst (DueAlike (due_next z t c)) (sym is) (from (nat_lt (c + 1) z.cpus))
  where
    from : (b : Bool) → DueAlike (if b then Snapshots t (c + 1) else Rest) (Snapshots t c)
    from true u = (refl, refl, refl)
    from false u = (refl, refl, refl)

pub snapshot_may : (z : Settings) (k : KeeperView) (t c : ℕ) → MaySnapshot k t c → KeeperDoes z k (section_of c) (λ n. n) (Snapshot (Some t) c) Word (LookTold (Snapshot (Some t) c))
snapshot_may z k t c may s r i at fits =
    let g = r.g in
    let had : KeeperShown g k = (r.shows.fits i (Keeper k) at).1 in
    let due : g.due ≡ Snapshots t c = sym (seen_by_keeper g k r.good had).due ∙ may in
    let lt : c < g.settings.cpus = (subst (DueHolds g.settings.cpus g.slots) due r.good.holds.references.due_at).0 in
    let w = slice_index s.words (index z (section_of c)) in
    let found : w ≡ section_at g c = r.words.at (section_of c) lt in
    let m : Mark = snapshot_mark (section_at g c) in
    let l = record g { marks = with_cell g.marks t c m; due = due_next g.settings t c } in
    let fresh : false ≡ (mark_at g.marks t c).collected = sym (r.good.holds.balance.fresh c t c due) in
    let made : step g (Snapshot (Some t) c) ≡ Some (record { state = with_keeper g l; reply = Word w }) = rw (due, eq-eqb t t refl, eq-eqb c c refl, found) refl in
    let shown : KeeperShown (with_keeper g l) (keeper_view (with_keeper g l) k) =
    shown_marked g k t c m (due_next g.settings t c) k r.good had lt fresh (alike_after g.settings t c g.due due) refl refl refl in
    let done = keeper_makes z s r i k (index z (section_of c)) w l (Snapshot (Some t) c) (Word w) k at made (leaves_all g l refl refl refl refl (same_collected g t c m fresh)) (λ n. refl) refl shown
    (loads z _ _ _ _ r.words refl (λ q _. refl)) in
    let change : keeper_view (with_keeper g l) k ≡ record k { marks = with_cell k.marks t c (snapshot_mark w); due = due_next k.settings t c } =
    ap (λ n. record (keeper_view g k) { marks = with_cell g.marks t c (snapshot_mark n); due = due_next g.settings t c }) (sym found)
    ∙ ap (λ (v : KeeperView). record v { marks = with_cell v.marks t c (snapshot_mark w); due = due_next v.settings t c }) (sym had.is) in
    (Keeper (keeper_view (with_keeper g l) k), done.0, (refl, (done.1, change)))

-- Passive looks and collections on the words.

-- what the core has where the keeper may look at a slot
record Looking (g : State) (t c : ℕ) : Type 0 where
  cpu : c < g.settings.cpus
  rest : g.due ≡ Rest
  e : Entry
  retired : slot_at g.slots t ≡ Retired e
  slot : t < g.settings.slots

looking : (g : State) (k : KeeperView) (t c : ℕ) → Good g → SeenByKeeper g k → MayLook k t c → Looking g t c
looking g k t c good seen may =
    let retired : slot_at g.slots t ≡ Retired may.retired.0 = sym (ap (λ (x : List Slot). slot_at x t) seen.slots) ∙ may.retired.1 in record {
      cpu = omega (arith, may.glance.cpu, ap (λ (a : Settings). a.cpus) seen.settings);
      rest = sym seen.due ∙ may.glance.rest;
      e = may.retired.0;
      retired = retired;
      slot = omega (arith, in_within g.slots t may.retired.0 (inr retired), good.holds.shape.slots);
    }

-- the marks of all CPUs, as the view has them and as the core has them
row_told : (f : ℕ → List Mark → Bool) (g : State) (k : KeeperView) (t : ℕ) → SeenByKeeper g k → f k.settings.cpus (get_or k.marks t []) ≡ true → f g.settings.cpus (get_or g.marks t []) ≡ true
row_told f g k t seen is = sym (λ i. f (seen.settings i).cpus (get_or (seen.marks i) t [])) ∙ is

pub passive_look_may : (z : Settings) (k : KeeperView) (t c : ℕ) → MayPassiveLook k t c → KeeperDoes z k (passive_of c t) (λ n. n) (PassiveLook t c) Word (LookedPassiveTold (PassiveLook t c))
passive_look_may z k t c may s r i at fits =
    let g = r.g in
    let had : KeeperShown g k = (r.shows.fits i (Keeper k) at).1 in
    let seen = seen_by_keeper g k r.good had in
    let here = looking g k t c r.good seen may.look in
    let place = index z (passive_of c t) in
    let w = slice_index s.words place in
    let found : w ≡ passive_at g.passive c t = r.words.at (passive_of c t) (here.cpu, here.slot) in
    let passed : have_passed g.settings.cpus (get_or g.marks t []) ≡ true = row_told have_passed g k t seen may.passed in
    let m : Mark = mark_after_passive_look (mark_at g.marks t c) (passive_at g.passive c t) in
    let l = record g { marks = with_cell g.marks t c m } in
    let own : KeeperView = keeper_after_look k (PassiveLook t c) (Word w) in
    let made : step g (PassiveLook t c) ≡ Some (record { state = with_keeper g l; reply = Word w }) = rw (here.rest, here.retired, lt-ltb c g.settings.cpus here.cpu, passed, found) refl in
    let shown : KeeperShown (with_keeper g l) (keeper_view (with_keeper g l) own) = shown_marked g k t c m g.due own r.good had here.cpu refl (due_alike g.due g.due refl) refl refl refl in
    let done = keeper_makes z s r i k place w l (PassiveLook t c) (Word w) own at made (leaves_all g l refl refl refl refl (same_collected g t c m refl)) (λ n. refl) refl shown
    (loads z s.words g (with_keeper g l) place r.words refl (λ q _. refl)) in
    let change : keeper_view (with_keeper g l) own ≡ record (keeper_after_look k (PassiveLook t c) (Word w)) { marks = with_cell k.marks t c (mark_after_passive_look (mark_at k.marks t c) w) } =
    ap (λ n. record (keeper_view g own) { marks = with_cell g.marks t c (mark_after_passive_look (mark_at g.marks t c) n) }) (sym found)
    ∙ ap (λ (v : KeeperView). record (keeper_after_look v (PassiveLook t c) (Word w)) { marks = with_cell v.marks t c (mark_after_passive_look (mark_at v.marks t c) w) }) (sym had.is) in
    (Keeper (keeper_view (with_keeper g l) own), done.0, (refl, (done.1, change)))

-- the marks once the count word of c is collected
abbrev marks_collected : State → ℕ → ℕ → List (List Mark)
marks_collected g t c = with_cell g.marks t c (mark_after_collect (mark_at g.marks t c))

-- the state with a word collected
abbrev collecting : State → ℕ → ℕ → State
collecting g t c = record g { counts = with_cell g.counts t c 0; marks = marks_collected g t c; due = Adding t (count_at g.counts c t) }

-- the total of the slot, with the word that is collected, and of another slot
gives_up_collected : (g : State) (t c : ℕ) (given_up : List ℕ) → Good g → Looking g t c → (mark_at g.marks t c).collected ≡ false
    → (u : ℕ) (e : Entry) → slot_at g.slots u ≡ Retired e → GivesUp g given_up u e.number → GivesUp (with_keeper g (collecting g t c)) given_up u e.number
gives_up_collected g t c given_up good here still u e retired was =
    let m : Mark = mark_after_collect (mark_at g.marks t c) in
    let rest = due_alike g.due Rest here.rest u in
    ⊎_elim
    (λ (is : u ≡ t). subst (λ v. GivesUp g given_up v e.number → GivesUp (with_keeper g (collecting g t c)) given_up v e.number) (sym is) (at_it is) was)
    (λ (off : u ≢ t).
    let ne : t ≢ u = λ q. off (sym q) in
    let a : addition_due_at u (Adding t (count_at g.counts c t)) ≡ 0 = ap (λ (b : Bool). cond b (count_at g.counts c t) 0) (ne_eqb t u ne) in
    omega (arith, was, rest.0, rest.1, rest.2, a, one_other t u ne, sum_off collected_one g t c m u off, sum_off collected_net g t c m u off))
    (cases_eq u t)
  where
    at_it : u ≡ t → GivesUp g given_up t e.number → GivesUp (with_keeper g (collecting g t c)) given_up t e.number
    at_it is was =
        let m : Mark = mark_after_collect (mark_at g.marks t c) in
        let lt : t < length g.slots = in_within g.slots t here.e (inr here.retired) in
        let one_old : collected_one (mark_at g.marks t c, count_at g.nets c t) ≡ 0 = ap (λ (b : Bool). cond b 1 0) still in
        let net_old : collected_net (mark_at g.marks t c, count_at g.nets c t) ≡ 0 = ap (λ (b : Bool). cond b (count_at g.nets c t) 0) still in
        let counted = (good.holds.balance.counted c t here.cpu (here.e, inr (here.retired, still))).0 in
        let rest = due_alike g.due Rest here.rest t in
        let a : addition_due_at t (Adding t (count_at g.counts c t)) ≡ count_at g.counts c t = ap (λ (b : Bool). cond b (count_at g.counts c t) 0) (eq-eqb t t refl) in
        let b : is_adding_at t (Adding t (count_at g.counts c t)) ≡ 1 = one_self t t refl in
        omega (arith, was, rest.0, rest.1, rest.2, a, b, sum_here collected_one g t c m good lt here.cpu, sum_here collected_net g t c m good lt here.cpu, one_old, net_old, counted)

-- what the keeper's view shows after a collection
shown_collected : (g : State) (k : KeeperView) (t c : ℕ) → Good g → KeeperShown g k → Looking g t c → (mark_at g.marks t c).collected ≡ false
    → KeeperShown (with_keeper g (collecting g t c)) (keeper_view (with_keeper g (collecting g t c)) k)
shown_collected g k t c good had here still = assumption (
  λ (d u : ℕ) (vacant : slot_at g.slots u ≡ Vacant).
      cell_other 0 g.counts t c 0 u d (λ same _. let q : Vacant ≡ Retired here.e = sym vacant ∙ ap (slot_at g.slots) same ∙ here.retired in cc) ∙ had.counts d u vacant,
  λ (u : ℕ) (e : Entry) (retired : slot_at g.slots u ≡ Retired e). gives_up_collected g t c k.given_up good here still u e retired (had.gives_up u e retired),
  λ (d u : ℕ). cell_put no_mark g.marks t c (mark_after_collect (mark_at g.marks t c)) (λ v e x. g.settings.cpus ≤ e → x.collected ≡ false) u d
      (λ past. absurd (omega (arith, past, here.cpu))) (had.beyond d u),
  had,
)

-- what was collected stays so
still_collected : (g : State) (t c : ℕ) (u d : ℕ) → (mark_at g.marks u d).collected ≡ true → (mark_at (marks_collected g t c) u d).collected ≡ true
still_collected g t c u d =
    cell_put no_mark g.marks t c (mark_after_collect (mark_at g.marks t c)) (λ v e x. (mark_at g.marks v e).collected ≡ true → x.collected ≡ true) u d (λ _. refl) (λ was. was)

-- the words after it
collect_words : (z : Settings) (words : List ℕ) (g : State) (t c : ℕ) → Good g → Looking g t c → Agrees z words g → Agrees z (set words (index z (count_of c t)) 0) (with_keeper g (collecting g t c))
collect_words z words g t c good here agrees =
    let lt : t < length g.counts = omega (arith, here.slot, good.holds.shape.counts) in
    let in_row : c < length (get_or g.counts t []) = omega (arith, here.cpu, good.holds.shape.count_rows t lt, (ranges g.settings good.holds.fit).cpus) in
    agrees_set z words g (with_keeper g (collecting g t c)) (count_of c t) 0 agrees refl (here.cpu, here.slot) (cell_here 0 g.counts t c 0 lt in_row)
    (elim [ count_of d u ↦ λ _ ne. cell_other 0 g.counts t c 0 u d (λ a b. ne (λ i. count_of (b i) (a i))) | _ ↦ λ _ _. refl ])

pub collect_may : (z : Settings) (k : KeeperView) (t c : ℕ) → MayCollect k t c → KeeperDoes z k (count_of c t) (λ _. 0) (Collect t c) Word (CollectTold (Collect t c))
collect_may z k t c may s r i at fits =
    let g = r.g in
    let had : KeeperShown g k = (r.shows.fits i (Keeper k) at).1 in
    let seen = seen_by_keeper g k r.good had in
    let here = looking g k t c r.good seen may.look in
    let place = index z (count_of c t) in
    let w = slice_index s.words place in
    let found : w ≡ count_at g.counts c t = r.words.at (count_of c t) (here.cpu, here.slot) in
    let passed : have_passed g.settings.cpus (get_or g.marks t []) ≡ true = row_told have_passed g k t seen may.passed in
    let clear : are_clear g.settings.cpus (get_or g.marks t []) ≡ true = row_told are_clear g k t seen may.clear in
    let still : (mark_at g.marks t c).collected ≡ false = sym (ap (λ (x : List (List Mark)). (mark_at x t c).collected) seen.marks) ∙ may.uncollected in
    let l = collecting g t c in
    let made : step g (Collect t c) ≡ Some (record { state = with_keeper g l; reply = Word w }) = rw (here.rest, here.retired, lt-ltb c g.settings.cpus here.cpu, passed, clear, still, found) refl in
    let shown = shown_collected g k t c r.good had here still in
    let done = keeper_makes z s r i k place 0 l (Collect t c) (Word w) k at made (leaves_all g l refl refl refl refl (still_collected g t c)) (λ n. refl) refl shown
    (collect_words z s.words g t c r.good here r.words) in
    let change : keeper_view (with_keeper g l) k ≡ record k { marks = with_cell k.marks t c (mark_after_collect (mark_at k.marks t c)); due = Adding t w } =
    ap (λ n. record (keeper_view g k) { marks = marks_collected g t c; due = Adding t n }) (sym found)
    ∙ ap (λ (v : KeeperView). record v { marks = with_cell v.marks t c (mark_after_collect (mark_at v.marks t c)); due = Adding t w }) (sym had.is) in
    (Keeper (keeper_view (with_keeper g l) k), done.0, (refl, (done.1, change)))
