-- The table at the start, and a CPU gets its seat: the new views are shown by some good state.
use Rattle.std.proofs.Common.{◌≡◌, inl, inr, ℕ, zero, suc, ◌+◌, ◌<◌, List, [], ◌∷◌, ◌++◌, length, replicate, IsTrue, refl, sym, ap, ◌∙◌, subst, arith, length-append, below_more, ◌≢◌, ⊎_elim, ◌≤◌, ◌==◌, eq-eqb, ne_eqb, cond, take, Option, Some, None, Bool, true, false, get_or-set_same}
use Rattle.std.proofs.lemmas.List.{length-replicate, get_or-replicate}
use Rattle.std.specs.Prelude.{slice_index}
use Rattle.std.proofs.lemmas.Bool.{lt-ltb, cases_eq}
use Rattle.std.proofs.Math.Numerals.{add-one}
use Rattle.std.proofs.lemmas.Option.{none-some}
use mathlib.Core.Option.{some, some-ne-none, some-injective}
use mathlib.Core.List.{IsPrefix}
use lib.ListN.{get_elem?}
use Rattle.atomic_table.specs.Seated.{TableId}
use Rattle.atomic_table.specs.Table.{opening as opening_table, Splits}
use Rattle.atomic_table.proofs.Lists.{at_longer, at_last}
use Rattle.cpu_words.specs.Types.{Entry, Settings, MOST_CPUS, RecordWords, Vacant, Mark, Seat, Done, Hand, Rest, Event, Reply, Change, Enter}
use Rattle.registry_values.specs.Common.{are_fit, bias, no_mark, slot_at}
use Rattle.protocol.specs.Common.{no_words, opening, word, is_honest, IsIn, State, begin_at, found_at, at_rest, step, Holds, Outcome, guard, some_outcome, may_enter, after_enter, seen_at}
use Rattle.protocol.proofs.Cells.{get_or_all}
use Rattle.protocol.proofs.keeps.MarkKeeps.{cell_all, rows_all}
use Rattle.protocol.proofs.keeps.Keeping.{opening_holds, step_holds}
use Rattle.protocol.proofs.Occupied.{not_vacant}
use Rattle.cpu_words.specs.Common.{CpuView, Logged, View, Seated, new_keeper, first_view, Shown, Sits, Good, Ruled, KeeperView, Keeper, Cpu, SameHand, cpu_view, new_cpu, CpuShown, KeeperShown, cpu_of, keeper_of, ShowsViews, IsFresh, did, SplitsBy, SplitsOn, IsShownAs, IsShown, Makes, SectionMayHold, IsShownCpu, HasWholePass}
use Rattle.cpu_words.specs.declared.view.InHand.TheVariants.{Empty as NoEntry}
use Rattle.cpu_words.specs.Seats as specs
use Rattle.cpu_words.specs.Logs
use Rattle.cpu_words.specs.Spots
use Rattle.cpu_words.proofs.shown.Placing.{below_size, same_spot, agrees_same}
use Rattle.cpu_words.proofs.logs.Told.{no_act}
use Rattle.cpu_words.proofs.shown.Showing.{SeatsWith, shows_split, goes_to}
use Rattle.cpu_words.proofs.logs.Logs.{tells_nothing, names_nobody, seat_cut}
use Rattle.cpu_words.proofs.by_keeper.KeeperSteps.{with_keeper, beside_stays, beside_words, seen_by_keeper}
use Rattle.cpu_words.proofs.shown.Seeing.{take_whole, seen_of}

-- The state of the core at the start is shown by the words and the keeper's first view; and the seats of the first CPUs.

-- no entry is in a slot at the start
none_in : (z : Settings) (t : ℕ) (e : Entry) → IsIn e (slot_at (replicate z.slots Vacant) t) → ⊥
none_in z t e is = not_vacant e (slot_at (replicate z.slots Vacant) t) (get_or_all z.slots Vacant t) is

pub first_good : (z : Settings) → IsTrue (are_fit z) → Good (opening z)
first_good z fit = record {
  holds = opening_holds z fit;
  fresh = λ c unseated lt. record {
    section = get_or_all {X = ℕ} z.cpus 0 c;
    depth = get_or_all {X = ℕ} z.cpus 0 c;
    seen = get_or_all {X = ℕ} z.cpus 0 c;
    passive = λ t. cell_all {X = ℕ} z.slots MOST_CPUS 0 t c;
    nets = λ t e is. absurd (none_in z t e is);
  };
}

-- the words at the start

no_word : (k : ℕ) → word no_words k ≡ 0
no_word (suc (suc (suc (suc k)))) = refl
no_word k = refl

-- no word but a total is a total

abbrev IsOther : Spots.Spot → Type 0
IsOther (Spots.total_of t) = ⊥
IsOther q = Unit {0}

no_total : (p : Spots.Spot) (t : ℕ) → IsOther p → p ≡ Spots.total_of t → ⊥
no_total p t other same = subst IsOther same other

-- a total is at the place of no other word
apart : (z : Settings) (p : Spots.Spot) → Spots.IsSpot z p → ((t : ℕ) → p ≡ Spots.total_of t → ⊥) → (t : ℕ) → t < z.slots → Spots.index z (Spots.total_of t) ≡ Spots.index z p → ⊥
apart z p here other t lt same = other t (same_spot z (Spots.total_of t) p lt here (sym same))

zero_at : (z : Settings) (words : List ℕ) → specs.AreOpening z words → (p : Spots.Spot) → Spots.IsSpot z p → ((t : ℕ) → p ≡ Spots.total_of t → ⊥) → slice_index words (Spots.index z p) ≡ 0
zero_at z words are p here other = are.unused (Spots.index z p) (below_size z p here) (apart z p here other)

first_words : (z : Settings) (words : List ℕ) → specs.AreOpening z words → (p : Spots.Spot) → Spots.IsSpot z p → slice_index words (Spots.index z p) ≡ Spots.word_at (opening z) p
first_words z words are (Spots.section_of c) here = zero_at z words are (Spots.section_of c) here (λ t e. no_total (Spots.section_of c) t tt e) ∙ sym (get_or_all {X = ℕ} z.cpus 0 c)
first_words z words are (Spots.passive_of c t) here = zero_at z words are (Spots.passive_of c t) here (λ u e. no_total (Spots.passive_of c t) u tt e) ∙ sym (cell_all {X = ℕ} z.slots MOST_CPUS 0 t c)
first_words z words are (Spots.count_of c t) here = zero_at z words are (Spots.count_of c t) here (λ u e. no_total (Spots.count_of c t) u tt e) ∙ sym (cell_all {X = ℕ} z.slots MOST_CPUS 0 t c)
first_words z words are Spots.head_word here = zero_at z words are Spots.head_word here (λ u e. no_total Spots.head_word u tt e)
first_words z words are (Spots.live_of t) here = zero_at z words are (Spots.live_of t) here (λ u e. no_total (Spots.live_of t) u tt e) ∙ sym (get_or_all {X = ℕ} z.slots 0 t)
first_words z words are (Spots.next_of t) here = zero_at z words are (Spots.next_of t) here (λ u e. no_total (Spots.next_of t) u tt e) ∙ sym (get_or_all {X = ℕ} z.slots 0 t)
first_words z words are (Spots.record_of t k) here =
    zero_at z words are (Spots.record_of t k) here (λ u e. no_total (Spots.record_of t k) u tt e) ∙ sym (ap (λ (r : RecordWords). word r k) (get_or_all z.slots no_words t) ∙ no_word k)
first_words z words are (Spots.total_of t) here = are.totals t here ∙ sym (get_or-replicate z.slots t bias 0 here)

-- the keeper's view at the start

pub first_shown : (z : Settings) → Shown (opening z) (first_view z)
first_shown z = record {
  is = refl;
  counts = λ c t vacant. refl;
  sized = length-replicate z.slots (replicate MOST_CPUS 0);
  rows = rows_all z.slots (replicate MOST_CPUS 0) refl;
  live_total = λ t e is. absurd (none_in z t e (inl is));
  gives_up = λ t e is. absurd (none_in z t e (inr is));
  later = λ n above. refl;
  beyond = λ c t past. ap (λ (m : Mark). m.collected) (cell_all z.slots MOST_CPUS no_mark t c);
  honest = λ t. ap (λ (n : ℕ). is_honest n (slot_at (replicate z.slots Vacant) t)) (get_or_all {X = ℕ} z.slots 0 t);
  noted_pass = ([], refl);
}

-- the first seat is the only one
first_alone : {X : Type 0} (a : X) (P : ℕ → X → Type 0) → P 0 a → (i : ℕ) (b : X) → get_elem? (a ∷ []) i ≡ some b → P i b
first_alone a P here zero b e = subst (P 0) (some-injective _ _ e) here
first_alone a P here (suc i) b e = absurd (some-ne-none b (sym e))

opens_without_logs : (z : Settings) (words : List ℕ) → IsTrue (are_fit z) → specs.AreOpening z words → Ruled z (opening_table words [] (first_view z))
opens_without_logs z words fit are = record {
  g = opening z;
  seat = λ _. 0;
  settings = refl;
  good = first_good z fit;
  reached = record { events = []; run = refl; made = refl };
  words = record { size = are.size; settings = refl; at = first_words z words are; unused = λ i free. are.unused i free.0 (λ t lt same. free.1 (Spots.total_of t) lt same) };
  shows = record { fits = first_alone (first_view z) (λ i v. Sits (λ _. 0) i v × Shown (opening z) v) (refl, first_shown z); each = record { keeper = (new_keeper z, refl); cpus = λ c lt. absurd (omega (arith, lt)) }; references = λ n. refl };
}

-- nobody has done anything
pub opens : (z : Settings) (words : List ℕ) → IsTrue (are_fit z) → specs.AreOpening z words → Logs.LoggedRuled z (opening_table words [] (Logs.first_logged z))
unfolding opens_without_logs
opens z words fit are = record {
  run = opens_without_logs z words fit are;
  acts = [];
  are = refl;
  owners = tt;
  logs = first_alone (Logs.first_logged z) (λ i l. Logs.IsStanding l.view → l.log ≡ []) (λ _. refl);
  unseated = λ i le. refl;
  known = first_alone (Logs.first_logged z) (λ i l. Logs.Knows l []) (([], refl), ([], refl));
  told = λ i d first rest is. absurd (no_act first rest (i, d) is);
  tellers = first_alone (Logs.first_logged z) (λ i l. Logs.HasComeIf (λ _. 0) (opening z).seated [] l.teller) tt;
  lists = first_alone (Logs.first_logged z) (λ i l. IsPrefix l.list []) ([], refl);
  sections = first_alone (Logs.first_logged z) (λ i l. Logs.IsStanding l.view → Logs.HasItsSections i l) (λ _. record { lacks = []; are = refl; none = tt });
  heard = λ i l at stands d first rest is hear. absurd (no_act first rest (i, d) is);
  ends = first_alone (Logs.first_logged z) (λ i l. Logs.AreStillThere (Logs.first_logged z ∷ []) l.ends) (λ n e is. absurd (some-ne-none e (sym is)));
}

-- the seats of the first CPUs

pub more_seats : (table : TableId) (z : Settings) (n : ℕ) (seats : List (Seated CpuView)) (new : Seated CpuView) → specs.AreSeats table z n seats → new ≡ specs.cpu_seat table z n
    → specs.AreSeats table z (n + 1) (seats ++ new ∷ [])
more_seats table z n seats new are is =
    let size : length seats ≡ n = are.count in record {
      count = length-append seats (new ∷ []) ∙ ap (λ k. k + 1) size;
      each = below_more _ n (λ c lt. at_longer seats (new ∷ []) c (specs.cpu_seat table z c) (are.each c lt)) (at_last seats new n size ∙ ap some is);
    }

-- A CPU gets its seat: the keeper's seat is cut in two, and the new view is shown since the CPU has made no step.

-- the core with one more CPU seated
abbrev pub one_more_seated : State → State
one_more_seated g = with_keeper g (record g { seated = g.seated + 1 })

-- the CPUs that have no seat yet have made no step
good_seated : (g : State) → Good g → step g (Seat g.seated) ≡ Some (record { state = one_more_seated g; reply = Done }) → Good (one_more_seated g)
good_seated g good made = record {
  holds = step_holds g (one_more_seated g) (Seat g.seated) Done good.holds made;
  fresh = λ c le lt.
      let was = good.fresh c (omega (arith, le)) lt in
      record { section = was.section; depth = was.depth; seen = was.seen; passive = was.passive; nets = was.nets };
}

-- a CPU that is outside has found nothing
found_none : (g : State) (c : ℕ) (o : Option Entry) → Holds g → begin_at g c ≡ None → found_at g c ≡ o → o ≡ None
found_none g c None holds outside is = refl
found_none g c (Some e) holds outside is =
    let p = holds.last_found c e is in
    let q : ◌≡◌ {A = Option ℕ} None (Some p.0) = sym outside ∙ p.1 in
    cc

-- the view of a CPU that has made no step
new_is : (g : State) (c : ℕ) → Good g → g.seated ≤ c → IsFresh g c → new_cpu g.settings c ≡ cpu_view g c ((new_cpu g.settings c))
new_is g c good unseated fresh n =
    let outside = good.holds.seats.outside c unseated in record (new_cpu g.settings c) {
      section = sym fresh.section n;
      begin = sym outside n;
      pass = take (sym fresh.seen n) g.history;
      search = sym (good.holds.seats.unsearching c unseated) n;
      found = sym (found_none g c (found_at g c) good.holds outside refl) n;
    }

new_shown : (g : State) → Good g → g.seated < g.settings.cpus → CpuShown (one_more_seated g) (new_cpu g.settings g.seated)
new_shown g good lt =
    let c = g.seated in
    let self : c ≤ c = omega arith in
    let fresh = good.fresh c self lt in record {
      seated = omega arith;
      is = new_is g c good self fresh;
      hand = subst (λ (h : Hand). SameHand h NoEntry) (sym (good.holds.seats.empty c self)) tt;
      in_hand = tt;
      depth = fresh.depth;
      passive = λ t e here. fresh.passive t;
      gone = λ n off. refl;
      nets = λ t e here. let a = fresh.nets t e here in omega arith;
      later = λ n above. (refl, refl);
      met = λ t e here some_one. absurd (omega (arith, some_one));
      there = λ t some_one. absurd (some_one refl);
      found = λ e is. absurd (let q : ◌≡◌ {A = Option Entry} None (Some e) = is in cc);
      references = λ e among. let lt : among.0 < 0 = among.1 in absurd (omega arith);
      noted_pass = (g.history, refl);
    }

-- the keeper's view tells that the event may be made
pub record Seats (g : State) (k : KeeperView) : Type 0 where
  pub number : k.seated ≡ g.seated
  pub settings : k.settings ≡ g.settings
  pub lt : g.seated < g.settings.cpus
  pub made : step g (Seat g.seated) ≡ Some (record { state = one_more_seated g; reply = Done })
  pub good : Good (one_more_seated g)
  pub new : CpuShown (one_more_seated g) (new_cpu k.settings k.seated)
  pub keeper : KeeperShown (one_more_seated g) (specs.one_seated k)

seats_of : (g : State) (k : KeeperView) → specs.MaySeat k → Good g → KeeperShown g k → Seats g k
seats_of g k may good had =
    let seen = seen_by_keeper g k good had in
    let left : k.seated < k.settings.cpus = may.left in
    let number : k.seated ≡ g.seated = seen.seated in
    let cpus : k.settings.cpus ≡ g.settings.cpus = ap (λ (z : Settings). z.cpus) seen.settings in
    let lt : g.seated < g.settings.cpus = omega arith in
    let rest : at_rest g.due ≡ at_rest Rest = ap at_rest (sym seen.due ∙ may.rest) in
    let made : step g (Seat g.seated) ≡ Some (record { state = one_more_seated g; reply = Done }) = rw (rest, eq-eqb g.seated g.seated refl, lt-ltb g.seated g.settings.cpus lt) refl in record {
      number = number;
      settings = seen.settings;
      lt = lt;
      made = made;
      good = good_seated g good made;
      new = subst (λ (p : Settings × ℕ). CpuShown (one_more_seated g) (new_cpu p.0 p.1)) (λ n. (sym seen.settings n, sym number n)) (new_shown g good lt);
      keeper = assumption (ap specs.one_seated had.is, had);
    }

pub seats_by : (k : KeeperView) → specs.MaySeat k → SplitsBy (Seat k.seated) (Keeper k) (Keeper (specs.one_seated k)) (Cpu (new_cpu k.settings k.seated))
seats_by k may g good had =
    let p = seats_of g k may good had in record {
      after = one_more_seated g;
      reply = Done;
      made = subst (λ c. step g (Seat c) ≡ Some (record { state = one_more_seated g; reply = Done })) (sym p.number) p.made;
      good_after = p.good;
      shown = p.keeper;
      shown_right = p.new;
      count = λ n. refl;
    }

-- The places of the CPUs' seats

-- the CPU c has its seat at i
abbrev pub seat_with : (ℕ → ℕ) → ℕ → ℕ → ℕ → ℕ
seat_with seat c i d = cond (d == c) i (seat d)

-- who is shown is seated: its seat stays
sits_on : (g : State) (seat : ℕ → ℕ) (i j : ℕ) (u : View) → Sits seat j u → Shown g u → Sits (seat_with seat g.seated i) j u
sits_on g seat i j (Keeper k) sits shown = sits
sits_on g seat i j (Cpu y) sits shown =
    let lt : y.id < g.seated = shown.seated in
    sits ∙ sym (ap (λ b. cond b i (seat y.id)) (ne_eqb y.id g.seated (λ e. omega arith)))
sits_on g seat i j v sits shown = tt

shows_reseated : (g : State) (seat : ℕ → ℕ) (i : ℕ) (views : List View) → ShowsViews g seat views → ShowsViews g (seat_with seat g.seated i) views
shows_reseated g seat i views shows = record {
  fits = λ j u e. let had = shows.fits j u e in (sits_on g seat i j u had.0 had.1, had.1);
  each = record {
    keeper = shows.each.keeper;
    cpus = λ c lt.
        let was = shows.each.cpus c lt in
        (was.0, ap (get_elem? views) (ap (λ b. cond b i (seat c)) (ne_eqb c g.seated (λ e. omega (arith, lt, e)))) ∙ was.1, was.2);
  };
  references = shows.references;
}

-- who is seated was so, or is the new CPU
seats_one : (g : State) (seat : ℕ → ℕ) (i : ℕ) (k : KeeperView) → k.seated ≡ g.seated → SeatsWith g.seated (g.seated + 1) (seat_with seat g.seated i) i (specs.next_seat (Keeper k))
seats_one g seat i k number c lt = ⊎_elim
    (λ (same : c ≡ g.seated). inr (ap (λ b. cond b i (seat c)) (eq-eqb c g.seated same), ap Logs.the_cpu (number ∙ sym same)))
    (λ (off : c ≢ g.seated). inl (omega (arith, lt, off)))
    (cases_eq c g.seated)

splits : (z : Settings) (i : ℕ) (k : KeeperView) → specs.MaySeat k → SplitsOn z i (Keeper k) (specs.with_cpu_seated (Keeper k)) (specs.next_seat (Keeper k)) (did (Seat k.seated) Done)
splits z i k may s r at =
    let g = r.g in
    let g' = one_more_seated g in
    let had = r.shows.fits i (Keeper k) at in
    let p = seats_of g k may r.good had.1 in
    let far = length s.views in
    let seat' = seat_with r.seat g.seated far in
    let reseated = shows_reseated g r.seat far s.views r.shows in
    let here : far ≡ seat' k.seated = sym (ap (λ b. cond b far (r.seat k.seated)) (eq-eqb k.seated g.seated p.number)) in
    goes_to z s r g' seat' (Seat k.seated) Done _ _ (subst (λ c. step g (Seat c) ≡ Some (record { state = g'; reply = Done })) (sym p.number) p.made) refl p.good refl (omega arith)
    (λ c lt. ap (λ b. cond b far (r.seat c)) (ne_eqb c g.seated (λ same. omega (arith, lt, same))))
    (agrees_same z s.words g g' r.words refl (λ q _. beside_words g (g.seated + 1) g.locals g.due g.keeps q))
    (shows_split g g' seat' s.views i (Keeper k) (specs.with_cpu_seated (Keeper k)) (specs.next_seat (Keeper k)) reseated at (beside_stays g (g.seated + 1) g.locals g.due g.keeps (omega arith) seat' i had.0)
    (had.0, p.keeper) (here, p.new) (seats_one g r.seat far k p.number) refl (λ n. refl))

-- the same of a seat, whose view is the keeper's

pub seat_splits : (z : Settings) (i : ℕ) (l : Logged) (k : KeeperView) → l ≡ record l { view = Keeper (keeper_of l.view) } → l.ended ≡ false → keeper_of l.view ≡ k → specs.MaySeat k
    → Splits (Logs.LoggedRuled z) i l (Logs.logged_after_split specs.with_cpu_seated Logs.seats_next l) (Logs.fresh specs.next_seat Logs.no_log Logs.no_teller l)
seat_splits z i l k is going view may = seat_cut z i l (Keeper k) specs.with_cpu_seated specs.next_seat Logs.seats_next Logs.no_log Logs.no_teller (did (Seat k.seated) Done)
    (is ∙ ap (λ (u : KeeperView). record l { view = Keeper u }) view) going tt (refl, tt) (refl, tt) (refl, tt) refl (tells_nothing (record l { view = Keeper k }) (did (Seat k.seated) Done))
    (names_nobody (record l { view = Keeper k }) (did (Seat k.seated) Done)) (splits z i k may)

pub seat_splits_by : (v a b : View) (k : KeeperView) → keeper_of v ≡ k → a ≡ specs.with_cpu_seated v → b ≡ specs.next_seat v → specs.MaySeat k
    → SplitsBy (Seat k.seated) (Keeper k) (Keeper (keeper_of a)) (Cpu (cpu_of b))
seat_splits_by v a b k view left right may =
    let q : cpu_of b ≡ new_cpu k.settings k.seated = ap cpu_of right ∙ ap (λ (u : KeeperView). new_cpu u.settings u.seated) view in
    subst (λ (w : KeeperView × CpuView). SplitsBy (Seat k.seated) (Keeper k) (Keeper w.0) (Cpu w.1)) (λ n. (sym (ap keeper_of left ∙ ap specs.one_seated view) n, sym q n)) (seats_by k may)

-- Views that some good state shows: any after a step or a cut, and the keeper's at the start.

pub step_is_shown : {e : Event} {r : Reply} {v w : View} → Makes e r v w → IsShownAs w
step_is_shown made = record { g = made.after; good = made.good_after; shown = made.shown }

pub cut_is_shown : {e : Event} {v left right : View} → SplitsBy e v left right → IsShownAs v → IsShownAs left
cut_is_shown by was =
    let cut = by was.g was.good was.shown in
    record { g = cut.after; good = cut.good_after; shown = cut.shown }

-- the keeper has made no step but the seating of n CPUs
pub seated_is_shown : (z : Settings) → IsTrue (are_fit z) → (n : ℕ) → n ≤ z.cpus → IsShown (specs.keeper_with z n)
seated_is_shown z fit zero few = record { g = opening z; good = first_good z fit; shown = first_shown z }
seated_is_shown z fit (suc n) few =
    let was = seated_is_shown z fit n (omega (arith, few)) in
    subst (λ (m : ℕ). IsShown (specs.keeper_with z m)) (add-one n) (cut_is_shown (seats_by (specs.keeper_with z n) record { rest = refl; left = omega (arith, few) }) was)

-- A CPU's view that some good state shows: a new seat's, and what such a view tells of its section and of the last found entry.

pub new_cpu_is_shown : (z : Settings) → IsTrue (are_fit z) → (c : ℕ) → c < z.cpus → IsShownCpu (new_cpu z c)
new_cpu_is_shown z fit c lt =
    let was = seated_is_shown z fit c (omega (arith, lt)) in
    let seated = seats_by (specs.keeper_with z c) record { rest = refl; left = lt } was.g was.good was.shown in
    record { g = seated.after; good = seated.good_after; shown = seated.shown_right }

-- only one state is left by an event that leaves this one
left_by : (b : Bool) (s t : State) → guard b (some_outcome s Done) ≡ Some (record { state = t; reply = Done }) → t ≡ s
left_by true s t q =
    let same : ◌≡◌ {A = Outcome} (record { state = s; reply = Done }) (record { state = t; reply = Done }) = cc in
    sym (ap (λ (o : Outcome). o.state) same)
left_by false s t q = absurd (none-some _ q)

-- as a section begins, the pass is the whole history
pub entered_whole : (c : ℕ) (x y : CpuView) → x.id ≡ c → Makes (Enter c) Done (Cpu x) (Cpu y) → HasWholePass y
entered_whole c x y id made =
    let g = made.g in
    let after : made.after ≡ after_enter g c = left_by (may_enter g c) (after_enter g c) made.after made.made in
    let history : made.after.history ≡ g.history = ap (λ (s : State). s.history) after in
    let within : c < length g.seen = subst (λ d. d < length g.seen) id (seen_of g x made.good made.before).in_seen in
    let sees : seen_at made.after c ≡ length made.after.history =
    ap (λ (s : State). seen_at s c) after ∙ (get_or-set_same g.seen c (length g.history) 0 within ∙ ap (λ (h : List Change). length h) (sym history)) in
    let pass : y.pass ≡ take (seen_at made.after y.id) made.after.history = (seen_of made.after y made.good_after made.shown).pass in (
      record { g = made.after; good = made.good_after; shown = made.shown },
      pass ∙ (ap (λ d. take (seen_at made.after d) made.after.history) (made.same.1 ∙ id) ∙ (ap (λ n. take n made.after.history) sees ∙ take_whole made.after.history)),
    )

-- the last found entry may be held by the open section, and has its slot
pub found_is_in : (x : CpuView) (e : Entry) (s : IsShownCpu x) → x.found ≡ Some e → SectionMayHold s.g.history e x × IsIn e (slot_at s.g.slots e.slot)
found_is_in x e s is =
    let seen = seen_of s.g x s.good s.shown in
    let held = s.good.holds.last_found x.id e (sym seen.found ∙ is) in
    ((held.0, seen.begin ∙ held.1, held.2), s.good.holds.held x.id held.0 e held.1 held.2)
