-- The end of a drain on the words: a slot becomes vacant, and an interface gives its driver up.
use Rattle.std.proofs.Common.{◌≡◌, ◌≢◌, ◌⊎◌, inl, inr, ⊎_elim, ℕ, ◌≤◌, ◌<◌, List, [], length, replicate, get_or, set, Option, true, eq-eqb, refl, sym, ap, ◌∙◌, subst, arith, length-set, ◌+◌, ◌-◌, ◌%◌, ◌^◌, Some, None, ◌++◌, set-set}
use Rattle.std.proofs.lemmas.Bool.{cases_eq, cases_lt}
use Rattle.std.proofs.lemmas.List.{append-nil, get_or_past, set-get_or}
use Rattle.std.specs.Prelude.{slice_index}
use mathlib.Core.Option.{some}
use lib.ListN.{get_elem?}
use Rattle.atomic_table.specs.Table.{State as Table}
use Rattle.cpu_words.specs.Types.{MOST_CPUS, Entry, Slot, Vacant, Retired, Mark, Rest, Settings, Live, KeptSub, Done, Hear, Vacate}
use Rattle.registry_values.specs.Common.{bias, slot_at, have_passed, are_clear, are_collected, slot_of, is_iface}
use Rattle.registry_values.proofs.Fit.{ranges}
use Rattle.protocol.specs.Common.{State, mark_at, passive_at, trying_at, count_at, total_at, is_drained, IsIn, Occupies, kept_at, step, after_vacate}
use Rattle.protocol.proofs.keeps.MarkKeeps.{is_drained_tells, vacated}
use Rattle.protocol.proofs.Occupied.{written_cases, in_other, in_vacated, one_number, retired_other, slot_has}
use Rattle.protocol.proofs.Cells.{get_or_all, cell_in_old, slot_other}
use Rattle.protocol.proofs.counts.Bounds.{driver_positive}
use Rattle.protocol.proofs.keeps.ListKeeps.{rows_put}
use Rattle.cpu_words.specs.Common.{KeeperView, KeeperShown, Good, IsDrained, Keeper, total_of, index, keeper_view, one_more, Agrees, did, Makes, KeeperMay, MayKeptSub, HasKeptSub, KeptSubTold, LogItem, View, keeper_of, KeeperHasHeard, Ruled, GoesOn, Moves, MayVacate, keeper_after_vacate, VacateTold, head_word}
use Rattle.cpu_words.proofs.by_keeper.KeeperSteps.{LeavesCpus, seen_by_keeper, with_keeper, keeper_makes, loads, KeeperDoes}
use Rattle.cpu_words.proofs.shown.Seeing.{honest_retired}
use Rattle.cpu_words.proofs.by_keeper.Totals.{total_words, shown_less, later_less}
use Rattle.cpu_words.proofs.shown.Showing.{goes_both, at_same}
use Rattle.cpu_words.proofs.seats.Notes.{hear_keeper_may}

-- The end of a drain on the words: a slot becomes vacant, and what it kept is given up.

-- what the core has of a drained slot and its entry
pub record Drained (g : State) (t : ℕ) (e : Entry) : Type 0 where
  pub rest : g.due ≡ Rest
  pub retired : slot_at g.slots t ≡ Retired e
  pub is : is_drained g t ≡ true
  -- the first CPU is clear, as all are
  pub clear : (mark_at g.marks t 0).clear ≡ true
  -- no CPU has a passive reference: each passive word counts what its CPU is trying; and all count words are 0
  pub passive : (c : ℕ) → passive_at g.passive c t ≡ trying_at g.hands c t
  pub counts : (c : ℕ) → count_at g.counts c t ≡ 0

pub drained_of : (g : State) (k : KeeperView) (t : ℕ) → Good g → KeeperShown g k → (drained : IsDrained k t) → Drained g t drained.retired.0
drained_of g k t good had drained =
    let seen = seen_by_keeper g k good had in
    let e = drained.retired.0 in
    let row : List Mark = get_or g.marks t [] in
    let rest : g.due ≡ Rest = sym seen.due ∙ drained.rest in
    let retired : slot_at g.slots t ≡ Retired e = sym (ap (λ (x : List Slot). slot_at x t) seen.slots) ∙ drained.retired.1 in
    let passed : have_passed g.settings.cpus row ≡ true = sym (λ i. have_passed (seen.settings i).cpus (get_or (seen.marks i) t [])) ∙ drained.passed in
    let clear : are_clear g.settings.cpus row ≡ true = sym (λ i. are_clear (seen.settings i).cpus (get_or (seen.marks i) t [])) ∙ drained.clear in
    let all : are_collected g.settings.cpus row ≡ true = sym (λ i. are_collected (seen.settings i).cpus (get_or (seen.marks i) t [])) ∙ drained.collected in
    let is : is_drained g t ≡ true = rw (rest, retired, passed, clear, all, eq-eqb (total_at g.totals t) bias (sym (ap (λ (x : List ℕ). total_at x t) seen.totals) ∙ drained.total)) refl in
    let told = is_drained_tells g t good.holds is in
    record {
      rest = rest;
      retired = retired;
      is = is;
      clear = told.3 0 (ranges g.settings good.holds.fit).some_cpu;
      passive = λ c. ⊎_elim
          (λ (lt : c < g.settings.cpus). (good.holds.passive.clear c t e retired (told.3 c lt)).1)
          (λ (past : g.settings.cpus ≤ c). omega (arith, good.holds.passive.beyond c t past, good.holds.passive.counted c t))
          (cases_lt c g.settings.cpus);
      counts = λ c. ⊎_elim
          (λ (lt : c < g.settings.cpus). good.holds.balance.emptied c t e retired (told.4 c lt))
          (λ (past : g.settings.cpus ≤ c). good.holds.balance.beyond c t past)
          (cases_lt c g.settings.cpus);
    }

-- the CPUs' views stay
pub vacated_leaves : (g : State) (t : ℕ) (e : Entry) (totals : List ℕ) (keeps : List (Option ℕ)) → Good g → Drained g t e → LeavesCpus g (vacated g t totals keeps)
vacated_leaves g t e totals keeps good drained = record {
  seated = omega arith;
  more = ([], sym (append-nil g.history));
  stay = λ u f here. inl ((in_vacated g.slots t u e f drained.retired here).1, (λ c. refl));
  go = λ u f here. ⊎_elim
      (λ (is : u ≡ t). inr (λ c. ap (passive_at g.passive c) is ∙ (drained.passive c ∙ sym (ap (trying_at g.hands c) is))))
      (λ (off : u ≢ t). inl (in_other g.slots t Vacant f u off here))
      (cases_eq u t);
  collected = λ u c f gone is there. (
    ⊎_elim
        (λ (at : u ≡ t). absurd (left u f at gone there))
        (λ (off : u ≢ t). retired_other g.slots t u Vacant f gone off)
        (cases_eq u t),
    is,
  );
}
  where
    left : (u : ℕ) (f : Entry) → u ≡ t → slot_at g.slots u ≡ Retired f → Occupies (set g.slots t Vacant) f.number → ⊥
    left u f at gone (v, h, here, same) =
        let was = in_vacated g.slots t v e h drained.retired here in
        was.0 ((one_number g.history g.slots u v f h good.holds.slots (inr gone) was.1 same).0 ∙ at)

empty_row : (rows : List (List ℕ)) (t c : ℕ) → count_at (set rows t (replicate MOST_CPUS 0)) c t ≡ 0
empty_row rows t c = ⊎_elim
    (λ (is : (t ≡ t) × (get_or (set rows t (replicate MOST_CPUS 0)) t [] ≡ replicate MOST_CPUS 0)). ap (λ (x : List ℕ). get_or x c 0) is.1 ∙ get_or_all MOST_CPUS 0 c)
    (λ (is : ((t ≡ t → ⊥) ⊎ (length rows ≤ t)) × (get_or (set rows t (replicate MOST_CPUS 0)) t [] ≡ get_or rows t [])). ap (λ (x : List ℕ). get_or x c 0) is.1 ∙ ⊎_elim
    (λ (off : t ≡ t → ⊥). absurd (off refl))
    (λ (past : length rows ≤ t). ap (λ (x : List ℕ). get_or x c 0) (get_or_past rows t [] past))
    is.0)
    (written_cases [] rows t (replicate MOST_CPUS 0) t)

-- the count words of vacant slots, with those of t
pub vacated_counts : (g : State) (k : KeeperView) (t : ℕ) (e : Entry) → KeeperShown g k → Drained g t e → (c u : ℕ) → slot_at (set g.slots t Vacant) u ≡ Vacant
    → count_at g.counts c u ≡ count_at (set k.counts t (replicate MOST_CPUS 0)) c u
vacated_counts g k t e had drained c u vacant = ⊎_elim
    (λ (is : u ≡ t). ap (count_at g.counts c) is ∙ drained.counts c ∙ sym (ap (count_at (set k.counts t (replicate MOST_CPUS 0)) c) is ∙ empty_row k.counts t c))
    (λ (off : u ≢ t). had.counts c u (sym (slot_other g.slots t Vacant u off) ∙ vacant) ∙ sym (cell_in_old 0 k.counts t (replicate MOST_CPUS 0) u c off))
    (cases_eq u t)

-- the other slots
pub stood : (g : State) (t u : ℕ) (e f : Entry) (x : Slot) → Drained g t e → slot_at (set g.slots t Vacant) u ≡ x → IsIn f x → slot_at g.slots u ≡ x
stood g t u e f x drained is here = sym (slot_other g.slots t Vacant u (in_vacated g.slots t u e f drained.retired (subst (IsIn f) (sym is) here)).0) ∙ is

-- A retired interface gives its driver up, on the words.

-- the driver in u, whose reference the slot t kept
pub record Kept (g : State) (t d u : ℕ) (e : Entry) : Type 0 where
  pub drained : Drained g t e
  pub kept : kept_at g.keeps t ≡ Some d
  pub of : slot_of g.slots d ≡ Some u
  pub driver : Entry
  pub here : IsIn driver (slot_at g.slots u)
  pub number : driver.number ≡ d
  pub slot : u < g.settings.slots
  pub some_left : 0 < total_at g.totals u

kept_of : (g : State) (k : KeeperView) (t u : ℕ) (may : MayKeptSub k t u) → Good g → KeeperShown g k → Kept g t may.kept.0 u may.drained.retired.0
kept_of g k t u may good had =
    let seen = seen_by_keeper g k good had in
    let d = may.kept.0 in
    let drained = drained_of g k t good had may.drained in
    let kept : kept_at g.keeps t ≡ Some d = sym (ap (λ (x : List (Option ℕ)). kept_at x t) seen.keeps) ∙ may.kept.1.0 in
    let of : slot_of g.slots d ≡ Some u = sym (ap (λ (x : List Slot). slot_of x d) seen.slots) ∙ may.kept.1.1 in
    let has = slot_has g.slots d u of in
    record {
      drained = drained;
      kept = kept;
      of = of;
      driver = has.1.0;
      here = has.1.1;
      number = has.1.2;
      slot = omega (arith, has.0, good.holds.shape.slots);
      some_left = driver_positive g t d u good.holds kept of drained.is;
    }

-- the state after it, and the view's own counts
abbrev giving_back : State → ℕ → ℕ → State
giving_back g t u = vacated g t (set g.totals u (total_at g.totals u - 1)) (set g.keeps t None)

abbrev own_after : KeeperView → ℕ → ℕ → KeeperView
own_after k t n = record k { counts = set k.counts t (replicate MOST_CPUS 0); given_up = one_more k.given_up n }

shown_kept_sub : (g : State) (k : KeeperView) (t d u : ℕ) (e : Entry) → Good g → KeeperShown g k → (x : Kept g t d u e)
    → KeeperShown (with_keeper g (giving_back g t u)) (keeper_view (with_keeper g (giving_back g t u)) (own_after k t x.driver.number))
shown_kept_sub g k t d u e good had x = record {
  is = refl;
  counts = vacated_counts g k t e had x.drained;
  sized = length-set k.counts t (replicate MOST_CPUS 0) ∙ had.sized;
  rows = rows_put k.counts t (replicate MOST_CPUS 0) refl had.rows;
  live_total = λ v f live.
      let was = stood g t v e f (Live f) x.drained live (inl refl) in
      shown_less g k u x.driver good x.here x.some_left v f (inl was) ∙ had.live_total v f was;
  gives_up = λ v f gone.
      let there = stood g t v e f (Retired f) x.drained gone (inr refl) in
      omega (arith, had.gives_up v f there, shown_less g k u x.driver good x.here x.some_left v f (inr there));
  later = later_less g k u x.driver good had x.here;
  beyond = had.beyond;
  honest = honest_retired g.slots g.lives t e Vacant x.drained.retired had.honest;
  noted_pass = had.noted_pass;
}

pub kept_sub_may : (z : Settings) (k : KeeperView) (t u : ℕ) → MayKeptSub k t u
    → KeeperDoes z k (total_of u) (λ n. (n + (2 ^ 64 - 1)) % 2 ^ 64) (KeptSub t) (λ _. Done) (λ v _ l. KeptSubTold (KeptSub t) v l)
kept_sub_may z k t u may s r i at fits =
    let g = r.g in
    let had : KeeperShown g k = (r.shows.fits i (Keeper k) at).1 in
    let d = may.kept.0 in
    let e = may.drained.retired.0 in
    let x = kept_of g k t u may r.good had in
    let n = x.driver.number in
    let v = total_at g.totals u - 1 in
    let w = slice_index s.words (index z (total_of u)) in
    let next : (w + (2 ^ 64 - 1)) % 2 ^ 64 ≡ v = omega (arith, r.words.at (total_of u) x.slot, x.some_left, fits) in
    let l = giving_back g t u in
    let own : KeeperView = own_after k t n in
    let made : step g (KeptSub t) ≡ Some (record { state = with_keeper g l; reply = Done }) = rw (x.kept, x.of, x.drained.is, x.drained.retired, ap is_iface may.kind) refl in
    let words : Agrees z (set s.words (index z (total_of u)) ((w + (2 ^ 64 - 1)) % 2 ^ 64)) (with_keeper g l) =
    subst (λ m. Agrees z (set s.words (index z (total_of u)) m) (with_keeper g l)) (sym next) (total_words z s.words g l.slots l.keeps l.due u v r.good x.slot r.words) in
    let done = keeper_makes z s r i k (index z (total_of u)) ((w + (2 ^ 64 - 1)) % 2 ^ 64) l (KeptSub t) Done own at made (vacated_leaves g t e (set g.totals u v) (set g.keeps t None) r.good x.drained)
    (λ m. refl) refl (shown_kept_sub g k t d u e r.good had x) words in
    let change : keeper_view (with_keeper g l) own ≡ record k {
      totals = set k.totals u (total_at k.totals u - 1);
      slots = set k.slots t Vacant;
      keeps = set k.keeps t None;
      counts = set k.counts t (replicate MOST_CPUS 0);
      given_up = one_more k.given_up d;
    } =
    ap (λ (y : KeeperView). record y {
      totals = set y.totals u (total_at y.totals u - 1);
      slots = set y.slots t Vacant;
      keeps = set y.keeps t None;
      counts = set y.counts t (replicate MOST_CPUS 0);
      given_up = one_more y.given_up n;
    }) (sym had.is)
    ∙ ap (λ m. record k {
      totals = set k.totals u (total_at k.totals u - 1);
      slots = set k.slots t Vacant;
      keeps = set k.keeps t None;
      counts = set k.counts t (replicate MOST_CPUS 0);
      given_up = one_more k.given_up m;
    }) x.number in
    (Keeper (keeper_view (with_keeper g l) own), done.0, (refl, (done.1, (u, (d, may.kept.1, change)))))

-- a view has one slot for what the slot t keeps
pub kept_sub_change : (k l : KeeperView) (t u : ℕ) → MayKeptSub k t u → KeptSubTold (KeptSub t) k l → HasKeptSub k t u l
kept_sub_change k l t u may told =
    let has : HasKeptSub k t told.0 l = told.1 in
    let d_is : has.0 ≡ may.kept.0 = let q : ◌≡◌ {A = Option ℕ} (Some has.0) (Some may.kept.0) = sym has.1.0 ∙ may.kept.1.0 in cc in
    let u_is : told.0 ≡ u = let q : ◌≡◌ {A = Option ℕ} (Some told.0) (Some u) = sym has.1.1 ∙ ap (slot_of k.slots) d_is ∙ may.kept.1.1 in cc in
    subst (λ x. HasKeptSub k t x l) u_is has

-- Vacate by the keeper's seat: it changes no word, so it is made right before the load of the head that lets the keeper hear.

-- the state after it, and the keeper's view
abbrev emptied : State → ℕ → State
emptied g t = vacated g t g.totals g.keeps

shown_vacated : (g : State) (k : KeeperView) (t : ℕ) (e : Entry) → KeeperShown g k → Drained g t e
    → KeeperShown (with_keeper g (emptied g t)) (keeper_view (with_keeper g (emptied g t)) ((keeper_after_vacate k t)))
shown_vacated g k t e had drained = record {
  is = refl;
  counts = vacated_counts g k t e had drained;
  sized = length-set k.counts t (replicate MOST_CPUS 0) ∙ had.sized;
  rows = rows_put k.counts t (replicate MOST_CPUS 0) refl had.rows;
  live_total = λ u f live. had.live_total u f (stood g t u e f (Live f) drained live (inl refl));
  gives_up = λ u f gone. had.gives_up u f (stood g t u e f (Retired f) drained gone (inr refl));
  later = had.later;
  beyond = had.beyond;
  honest = honest_retired g.slots g.lives t e Vacant drained.retired had.honest;
  noted_pass = had.noted_pass;
}

-- the table with another view of the seat i
abbrev with_view : Table ℕ View → ℕ → View → Table ℕ View
with_view s i v = record s { views = set s.views i v }

-- the rule holds on as a drained slot is made vacant
vacates : (z : Settings) (k : KeeperView) (t : ℕ) → MayVacate k t → (s : Table ℕ View) (r : Ruled z s) (i : ℕ) → get_elem? s.views i ≡ some (Keeper k)
    → GoesOn z s r (did (Vacate t) Done) (with_view s i (Keeper (keeper_after_vacate k t))) × Makes (Vacate t) Done (Keeper k) (Keeper (keeper_after_vacate k t))
vacates z k t may s r i at =
    let g = r.g in
    let had : KeeperShown g k = (r.shows.fits i (Keeper k) at).1 in
    let drained = drained_of g k t r.good had may.drained in
    let e = may.drained.retired.0 in
    let keeps_none : kept_at g.keeps t ≡ None = ap (λ (x : List (Option ℕ)). kept_at x t) (sym (seen_by_keeper g k r.good had).keeps) ∙ may.keeps_nothing in
    let made : step g (Vacate t) ≡ Some (record { state = after_vacate g t; reply = Done }) = rw (keeps_none, drained.is) refl in
    let l = emptied g t in
    let own = (keeper_after_vacate k t) in
    let w = keeper_view (with_keeper g l) own in
    let n = slice_index s.words 0 in
    let done = keeper_makes z s r i k 0 n l (Vacate t) Done own at made (vacated_leaves g t e g.totals g.keeps r.good drained) (λ m. refl) refl (shown_vacated g k t e had drained)
    (loads z s.words g (with_keeper g l) 0 r.words refl (λ q _. refl)) in
    let is : w ≡ keeper_after_vacate k t = ap (λ (v : KeeperView). record v { slots = set v.slots t Vacant; counts = set k.counts t (replicate MOST_CPUS 0) }) (sym had.is) in (
      subst (λ (v : KeeperView). GoesOn z s r (did (Vacate t) Done) (with_view s i (Keeper v))) is
          (subst (λ (ws : List ℕ). GoesOn z s r (did (Vacate t) Done) (record { words = ws; homes = s.homes; views = set s.views i (Keeper w) })) (set-get_or s.words 0 0) done.0),
      subst (λ (v : KeeperView). Makes (Vacate t) Done (Keeper k) (Keeper v)) is done.1,
    )

-- a step that may be made by the view with a change that touches no word may be made by the view before it
moves_after : (z : Settings) (v u : View) (i : ℕ) (f : ℕ → ℕ) (before : List LogItem) (es : ℕ → List LogItem) (tells : ℕ → View → Type 0) (T : Type 0)
    → ((s : Table ℕ View) (r : Ruled z s) (id : ℕ) → get_elem? s.views id ≡ some v → GoesOn z s r before (with_view s id u) × T) → Moves z u i f es tells
    → Moves z v i f (λ n. before ++ es n) (λ n w. T × tells n w)
moves_after z v u i f before es tells T first then s r id at fits =
    let a = first s r id at in
    let b = then (with_view s id u) a.0.ruled id (at_same s.views id v u at) fits in (
      b.0,
      subst (λ (views : List View). GoesOn z s r (before ++ es (slice_index s.words i)) (record { words = set s.words i (f (slice_index s.words i)); homes = s.homes; views = views }))
          (set-set s.views id u b.0) (goes_both z s (with_view s id u) _ r before (es (slice_index s.words i)) a.0 b.1),
      (a.1, b.2),
    )

-- Vacate with a load that lets the keeper hear
pub vacating_may : (z : Settings) (k : KeeperView) (t : ℕ) → MayVacate k t
    → KeeperMay z k (index z head_word) (λ n. n) (λ n. did (Vacate t) Done ++ did (Hear None) Done)
    (λ v n l. Makes (Vacate t) Done (Keeper v) (Keeper l) × Makes (Hear None) Done (Keeper l) (Keeper l) × VacateTold (Vacate t) v l)
vacating_may z k t may s r id at fits =
    let m = keeper_after_vacate k t in
    let done = moves_after z (Keeper k) (Keeper m) (index z head_word) (λ n. n) (did (Vacate t) Done) (λ _. did (Hear None) Done)
    (λ _ w. (w ≡ Keeper (keeper_of w)) × Makes (Hear None) Done (Keeper m) (Keeper (keeper_of w)) × KeeperHasHeard m (keeper_of w))
    (Makes (Vacate t) Done (Keeper k) (Keeper m)) (vacates z k t may) (hears z m may.drained.rest) s r id at fits in
    let same : keeper_of done.0 ≡ m = done.2.1.2.1 in (
      done.0,
      done.1,
      (
        done.2.1.0,
        (
          subst (λ (l : KeeperView). Makes (Vacate t) Done (Keeper k) (Keeper l)) (sym same) done.2.0,
          subst (λ (l : KeeperView). Makes (Hear None) Done (Keeper l) (Keeper (keeper_of done.0))) (sym same) done.2.1.1,
          same,
        ),
      ),
    )
  where
    hears : (z : Settings) (m : KeeperView) → m.due ≡ Rest → Moves z (Keeper m) (index z head_word) (λ n. n) (λ _. did (Hear None) Done)
        (λ _ w. (w ≡ Keeper (keeper_of w)) × Makes (Hear None) Done (Keeper m) (Keeper (keeper_of w)) × KeeperHasHeard m (keeper_of w))
    hears z m rest s r id at fits = let d = hear_keeper_may z m rest s r id at fits in (d.0, d.1, (d.2.0, d.2.1.0, d.2.1.1))
