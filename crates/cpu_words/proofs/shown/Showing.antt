-- Reached states, and the views of a table: how they are shown on as one of them changes, is cut in two, or is joined into another.
use Rattle.std.proofs.Common.{◌≡◌, ℕ, List, [], ◌∷◌, ◌++◌, Option, Some, None, refl, sym, ap, ◌∙◌, append_assoc, length, length-append, arith, ◌≢◌, ⊎_elim, zero, suc, ◌<◌, sum_by, ◌⊎◌, inl, inr, ◌+◌, ◌≤◌, set, subst, length-set}
use Rattle.std.proofs.lemmas.List.Sums.{sum_by-cons, sum_by_push}
use Rattle.std.proofs.lemmas.Bool.{cases_eq}
use Rattle.atomic_table.specs.Table.{State as Table}
use mathlib.Core.Option.{some, some-ne-none, some-injective}
use lib.ListN.{get_elem?}
use Rattle.atomic_table.proofs.Lists.{at_set, at_longer, at_last}
use Rattle.cpu_words.specs.Types.{Settings, Event, Reply, Done, LocalPlace, Free, Standing, Lifted}
use Rattle.protocol.specs.Common.{State, opening, Outcome, step, Run, run_of_events, empty_run, run_with_event, after, local_at, standing_of, one_if}
use Rattle.protocol.proofs.counts.Sums.{one_other, one_self}
use Rattle.cpu_words.specs.Common.{LogItem, View, Reached, Ruled, GoesOn, by_number, did, log_with, log_from, log_of_events, CpuView, KeeperView, Keeper, Cpu, Reference, Spent, Shown, Sits, reference_to, HaveViews, ShowsViews, Maker, the_keeper, the_cpu, another, who, Good, Spot, word_at, JoinsOn, number_of_id, reference_of, ReferenceView, is_to, Agrees}
use Rattle.cpu_words.specs.Steps.{JoinMakes}
use Rattle.cpu_words.proofs.shown.Placing.{agrees_same}

-- Reached states: what one event more makes of a reached state and of what was done.

ran_push : (r : Run) (es : List Event) (e : Event) → run_of_events r (es ++ e ∷ []) ≡ run_with_event (run_of_events r es) (step (run_of_events r es).state e)
ran_push r [] e = refl
ran_push r (f ∷ es) e = ran_push (run_with_event r (step r.state f)) es e

noted_push : (s : State) (e : Event) (o : Option Outcome) (a b : List LogItem) → log_with s e o (a ++ b) ≡ log_with s e o a ++ b
noted_push s e None a b = refl
noted_push s e (Some o) a b = refl

log_push : (r : Run) (es : List Event) (e : Event) (h : State) (rep : Reply) → step (run_of_events r es).state e ≡ Some (record { state = h; reply = rep })
    → log_from r (es ++ e ∷ []) ≡ log_from r es ++ did (by_number (run_of_events r es).state e) rep
log_push r [] e h rep made = ap (λ (o : Option Outcome). log_with r.state e o []) made
log_push r (f ∷ fs) e h rep made =
    let next = run_with_event r (step r.state f) in
    ap (log_with r.state f (step r.state f)) (log_push next fs e h rep made) ∙ noted_push r.state f (step r.state f) (log_from next fs) (did (by_number (run_of_events next fs).state e) rep)

pub more : (z : Settings) (g h : State) (e : Event) (rep : Reply) (reached : Reached z g) → step g e ≡ Some (record { state = h; reply = rep })
    → (next : Reached z h) × (log_of_events z next.events ≡ log_of_events z reached.events ++ did (by_number g e) rep)
more z g h e rep reached made =
    let r : Run = run_of_events (empty_run (opening z)) reached.events in
    let here : step r.state e ≡ Some (record { state = h; reply = rep }) = ap (λ (s : State). step s e) (sym reached.run) ∙ made in
    let run : h ≡ after (opening z) (reached.events ++ e ∷ []) =
    sym (ap (λ (x : Run). x.state) (ran_push (empty_run (opening z)) reached.events e) ∙ ap (λ (o : Option Outcome). (run_with_event r o).state) here) in
    let longer = log_push (empty_run (opening z)) reached.events e h rep here in
    let all : length (log_of_events z (reached.events ++ e ∷ [])) ≡ length (reached.events ++ e ∷ []) =
    omega (arith, ap (λ (ds : List LogItem). length ds) longer, length-append (log_of_events z reached.events) (did (by_number r.state e) rep), length-append reached.events (e ∷ []), reached.made) in
    (record { events = reached.events ++ e ∷ []; run = run; made = all }, longer ∙ ap (λ (s : State). log_of_events z reached.events ++ did (by_number s e) rep) (sym reached.run))

-- one going on after another
pub goes_both : (z : Settings) (s t u : Table ℕ View) (r : Ruled z s) (first second : List LogItem) (a : GoesOn z s r first t) → GoesOn z t a.ruled second u → GoesOn z s r (first ++ second) u
goes_both z s t u r first second a b = record {
  ruled = b.ruled;
  goes_on = b.goes_on ∙ (ap (λ (ds : List LogItem). ds ++ second) a.goes_on ∙ append_assoc (log_of_events z r.reached.events) first second);
  seated = let p = a.seated in let q = b.seated in omega arith;
  seats = λ c lt. b.seats c (let p = a.seated in omega (arith, lt, p)) ∙ a.seats c lt;
}

-- Where a live local reference stands.

-- a place where a live reference to n stands
pub standing_place : (n : ℕ) (locals : List LocalPlace) → 0 < sum_by (standing_of n) locals → (id : ℕ) × (local_at locals id ≡ Standing n)
standing_place n [] some_one = absurd (omega arith)
standing_place n (Free ∷ ps) some_one = let a = sum_by-cons (standing_of n) Free ps in let p = standing_place n ps (omega arith) in (suc p.0, p.1)
standing_place n (Lifted c ∷ ps) some_one = let a = sum_by-cons (standing_of n) (Lifted c) ps in let p = standing_place n ps (omega arith) in (suc p.0, p.1)
standing_place n (Standing m ∷ ps) some_one = ⊎_elim
    (λ (same : m ≡ n). (zero, ap Standing same))
    (λ (off : m ≢ n). let a = sum_by-cons (standing_of n) (Standing m) ps in let b = one_other m n off in let p = standing_place n ps (omega arith) in (suc p.0, p.1))
    (cases_eq m n)

-- The views of a table: how they are shown on as one of them changes, is cut in two, or is joined into another.

sum_at : (f : View → ℕ) (l : List View) (i : ℕ) (v w : View) → get_elem? l i ≡ some v → sum_by f (set l i w) + f v ≡ sum_by f l + f w
sum_at f [] i v w e = absurd (some-ne-none v (sym e))
sum_at f (x ∷ xs) zero v w e = omega (arith, sum_by-cons f x xs, sum_by-cons f w xs, ap f (some-injective x v e))
sum_at f (x ∷ xs) (suc i) v w e = omega (arith, sum_by-cons f x xs, sum_by-cons f x (set xs i w), sum_at f xs i v w e)

pub weight_at : (f : View → ℕ) (l : List View) (i : ℕ) (v : View) → get_elem? l i ≡ some v → f v ≤ sum_by f l
weight_at f [] i v e = absurd (some-ne-none v (sym e))
weight_at f (x ∷ xs) zero v e = omega (arith, sum_by-cons f x xs, ap f (some-injective x v e))
weight_at f (x ∷ xs) (suc i) v e = omega (arith, sum_by-cons f x xs, weight_at f xs i v e)

-- how many live references to n the core has
abbrev pub standing_in : ℕ → State → ℕ
standing_in n g = sum_by (standing_of n) g.locals

-- the core has the references of the view
abbrev pub IsBacked : State → View → Type 0
IsBacked g v = (n : ℕ) → reference_to n v ≤ standing_in n g

pub backed : (g : State) (seat : ℕ → ℕ) (views : List View) (i : ℕ) (v : View) → ShowsViews g seat views → get_elem? views i ≡ some v → IsBacked g v
backed g seat views i v shows at n = let a = weight_at (reference_to n) views i v at in let b = shows.references n in omega arith

-- Whose views are there: a change of a view leaves it its owner's

abbrev HasOwner : List View → ℕ → Maker → Type 0
HasOwner views j m = (u : View) × (get_elem? views j ≡ some u) × (who u ≡ m)

keeper_is : (u : View) → who u ≡ the_keeper → (k : KeeperView) × (u ≡ Keeper k)
keeper_is (Keeper k) own = (k, refl)
keeper_is (Cpu x) own = absurd (let q : the_cpu x.id ≡ the_keeper = own in cc)
keeper_is v own = absurd (let q : another ≡ the_keeper = own in cc)

cpu_is : (u : View) (c : ℕ) → who u ≡ the_cpu c → (x : CpuView) × (u ≡ Cpu x) × (x.id ≡ c)
cpu_is (Keeper k) c own = absurd (let q : the_keeper ≡ the_cpu c = own in cc)
cpu_is (Cpu x) c own = (x, refl, (let q : the_cpu x.id ≡ the_cpu c = own in cc))
cpu_is v c own = absurd (let q : another ≡ the_cpu c = own in cc)

-- each seat that has an owner in the one list has it in the other
abbrev OwnersStay : List View → List View → Type 0
OwnersStay views later = (j : ℕ) (u : View) → get_elem? views j ≡ some u → (who u ≡ another → ⊥) → HasOwner later j (who u)

have_on : (seat : ℕ → ℕ) (n : ℕ) (views later : List View) → OwnersStay views later → HaveViews seat n views → HaveViews seat n later
have_on seat n views later stay have = record {
  keeper =
      let was = have.keeper in
      let is = stay 0 (Keeper was.0) was.1 (λ e. let q : the_keeper ≡ another = e in cc) in
      let own = keeper_is is.0 is.2 in
      (own.0, is.1 ∙ ap some own.1);
  cpus = λ c lt.
      let was = have.cpus c lt in
      let is = stay (seat c) (Cpu was.0) was.1 (λ e. let q : the_cpu (was.0).id ≡ another = e in cc) in
      let own = cpu_is is.0 (was.0).id is.2 in
      (own.0, is.1 ∙ ap some own.1, own.2 ∙ was.2);
}

-- one view changes, and is its owner's as before; or it was no owner's
owners_set : (views : List View) (i j : ℕ) (v w u : View) → get_elem? views i ≡ some v → (who w ≡ who v) ⊎ (who v ≡ another) → get_elem? views j ≡ some u → (who u ≡ another → ⊥)
    → HasOwner (set views i w) j (who u)
owners_set [] i j v w u at same there owned = absurd (some-ne-none v (sym at))
owners_set (x ∷ xs) zero zero v w u at same there owned =
    let one : v ≡ u = sym (some-injective x v at) ∙ some-injective x u there in
    (w, refl, ⊎_elim (λ (own : who w ≡ who v). own ∙ ap who one) (λ (none : who v ≡ another). absurd (owned (sym (ap who one) ∙ none))) same)
owners_set (x ∷ xs) zero (suc j) v w u at same there owned = (u, there, refl)
owners_set (x ∷ xs) (suc i) zero v w u at same there owned = (u, there, refl)
owners_set (x ∷ xs) (suc i) (suc j) v w u at same there owned = owners_set xs i j v w u at same there owned

have_set : (seat : ℕ → ℕ) (n m : ℕ) (views : List View) (i : ℕ) (v w : View) → m ≡ n → get_elem? views i ≡ some v → (who w ≡ who v) ⊎ (who v ≡ another) → HaveViews seat n views
    → HaveViews seat m (set views i w)
have_set seat n m views i v w more at same have = subst (λ (k : ℕ). HaveViews seat k (set views i w)) (sym more)
    (have_on seat n views (set views i w) (λ j u there owned. owners_set views i j v w u at same there owned) have)

-- who is seated was so, or has the new view at the end
abbrev pub SeatsWith : ℕ → ℕ → (ℕ → ℕ) → ℕ → View → Type 0
SeatsWith n m seat i w = (c : ℕ) → c < m → (c < n) ⊎ ((seat c ≡ i) × (who w ≡ the_cpu c))

have_push : (seat : ℕ → ℕ) (n m : ℕ) (views : List View) (w : View) → SeatsWith n m seat (length views) w → HaveViews seat n views → HaveViews seat m (views ++ w ∷ [])
have_push seat n m views w seats have = record {
  keeper = let was = have.keeper in (was.0, at_longer views (w ∷ []) 0 (Keeper was.0) was.1);
  cpus = λ c lt. ⊎_elim
      (λ (old : c < n). let was = have.cpus c old in (was.0, at_longer views (w ∷ []) (seat c) (Cpu was.0) was.1, was.2))
      (λ (new : (seat c ≡ length views) × (who w ≡ the_cpu c)).
      let own = cpu_is w c new.1 in
      (own.0, at_last views w (seat c) (sym new.0) ∙ ap some own.1, own.2))
      (seats c lt);
}

-- an item of a pushed list is an old one, or the new one at the end
pub at_end : {X : Type 0} (l : List X) (a b : X) (j : ℕ) → get_elem? (l ++ a ∷ []) j ≡ some b → (get_elem? l j ≡ some b) ⊎ ((j ≡ length l) × (a ≡ b))
at_end [] a b zero e = inr (refl, some-injective a b e)
at_end [] a b (suc j) e = absurd (some-ne-none b (sym e))
at_end (x ∷ xs) a b zero e = inl e
at_end (x ∷ xs) a b (suc j) e = ⊎_elim (λ h. inl h) (λ (h : (j ≡ length xs) × (a ≡ b)). inr (ap suc h.0, h.1)) (at_end xs a b j e)

-- each other view is shown on
abbrev pub Stay : State → State → (ℕ → ℕ) → ℕ → Type 0
Stay g g' seat i = (j : ℕ) (u : View) → j ≢ i → Sits seat j u → Shown g u → IsBacked g u → Shown g' u

-- one view changes, and is its owner's as before
pub shows_set : (g g' : State) (seat : ℕ → ℕ) (views : List View) (i : ℕ) (v w : View)
    → ShowsViews g seat views → get_elem? views i ≡ some v → Stay g g' seat i → Sits seat i w × Shown g' w → g'.seated ≡ g.seated → who w ≡ who v
    → ((n : ℕ) → reference_to n w + standing_in n g ≡ reference_to n v + standing_in n g') → ShowsViews g' seat (set views i w)
shows_set g g' seat views i v w shows at stay mine seated same count = record {
  fits = λ j u e. ⊎_elim
      (λ (x : (j ≡ i) × (w ≡ u)). subst (λ (y : ℕ × View). Sits seat y.0 y.1 × Shown g' y.1) (λ k. (sym x.0 k, x.1 k)) mine)
      (λ (x : (j ≢ i) × (get_elem? views j ≡ some u)). let was = shows.fits j u x.1 in (was.0, stay j u x.0 was.0 was.1 (backed g seat views j u shows x.1)))
      (at_set views i j w u e);
  each = have_set seat g.seated g'.seated views i v w seated at (inl same) shows.each;
  references = λ n. let a = sum_at (reference_to n) views i v w at in let b = shows.references n in let c = count n in omega arith;
}

-- one view is cut in two: the left part is the owner's, and the right one is nobody's, or that of a CPU that gets its seat
pub shows_split : (g g' : State) (seat : ℕ → ℕ) (views : List View) (i : ℕ) (v left right : View)
    → ShowsViews g seat views → get_elem? views i ≡ some v → Stay g g' seat i → Sits seat i left × Shown g' left → Sits seat (length views) right × Shown g' right
    → SeatsWith g.seated g'.seated seat (length views) right → who left ≡ who v
    → ((n : ℕ) → reference_to n left + reference_to n right + standing_in n g ≡ reference_to n v + standing_in n g') → ShowsViews g' seat (set views i left ++ right ∷ [])
shows_split g g' seat views i v left right shows at stay mine new seats same count =
    let size : length (set views i left) ≡ length views = length-set views i left in record {
      fits = λ j u e. ⊎_elim
          (λ (was : get_elem? (set views i left) j ≡ some u). ⊎_elim
          (λ (x : (j ≡ i) × (left ≡ u)). subst (λ (y : ℕ × View). Sits seat y.0 y.1 × Shown g' y.1) (λ k. (sym x.0 k, x.1 k)) mine)
          (λ (x : (j ≢ i) × (get_elem? views j ≡ some u)). let had = shows.fits j u x.1 in (had.0, stay j u x.0 had.0 had.1 (backed g seat views j u shows x.1)))
          (at_set views i j left u was))
          (λ (x : (j ≡ length (set views i left)) × (right ≡ u)). subst (λ (y : ℕ × View). Sits seat y.0 y.1 × Shown g' y.1) (λ k. (sym (x.0 ∙ size) k, x.1 k)) new)
          (at_end (set views i left) right u j e);
      each = have_push seat g.seated g'.seated (set views i left) right (subst (λ (n : ℕ). SeatsWith g.seated g'.seated seat n right) (sym size) seats)
          (have_set seat g.seated g.seated views i v left refl at (inl same) shows.each);
      references = λ n. let a =
          sum_at (reference_to n) views i v left at in let b = shows.references n in let c = count n in let d = sum_by_push (reference_to n) (set views i left) right in omega arith;
    }

-- one view is put into another, and is spent: it is neither the keeper's nor a CPU's
pub shows_join : (g g' : State) (seat : ℕ → ℕ) (views : List View) (i : ℕ) (v : View) (o : ℕ) (u both : View)
    → ShowsViews g seat views → get_elem? views i ≡ some v → o ≢ i → get_elem? views o ≡ some u → Stay g g' seat i → Sits seat i both × Shown g' both → g'.seated ≡ g.seated
    → (who both ≡ who v) × (who u ≡ another)
    → ((n : ℕ) → reference_to n both + standing_in n g ≡ reference_to n v + reference_to n u + standing_in n g') → get_elem? (set views i both) o ≡ some u
    → ShowsViews g' seat (set (set views i both) o Spent)
shows_join g g' seat views i v o u both shows at apart there stay mine seated same count there' = record {
  fits = λ j y e. ⊎_elim
      (λ (x : (j ≡ o) × (Spent ≡ y)). subst (λ (z : View). Sits seat j z × Shown g' z) x.1 (tt, tt))
      (λ (x : (j ≢ o) × (get_elem? (set views i both) j ≡ some y)). ⊎_elim
      (λ (z : (j ≡ i) × (both ≡ y)). subst (λ (p : ℕ × View). Sits seat p.0 p.1 × Shown g' p.1) (λ k. (sym z.0 k, z.1 k)) mine)
      (λ (z : (j ≢ i) × (get_elem? views j ≡ some y)). let had = shows.fits j y z.1 in (had.0, stay j y z.0 had.0 had.1 (backed g seat views j y shows z.1)))
      (at_set views i j both y x.1))
      (at_set (set views i both) o j Spent y e);
  each = have_set seat g'.seated g'.seated (set views i both) o u Spent refl there' (inr same.1) (have_set seat g.seated g'.seated views i v both seated at (inl same.0) shows.each);
  references = λ n. omega (arith, sum_at (reference_to n) views i v both at, sum_at (reference_to n) (set views i both) o u Spent there', shows.references n, count n);
}

-- where the reference of a seat stands
pub reference_place : (g : State) (v : ReferenceView) → IsBacked g (Reference v) → (id : ℕ) × (local_at g.locals id ≡ Standing v.entry.number)
reference_place g v backs =
    let n = v.entry.number in
    let one : one_if (is_to n v.entry) ≡ 1 = one_self n n refl in
    let some_one : one_if (is_to n v.entry) ≤ standing_in n g = backs n in
    standing_place n g.locals (omega arith)

-- a place that was written
pub at_same : (l : List View) (i : ℕ) (v w : View) → get_elem? l i ≡ some v → get_elem? (set l i w) i ≡ some w
at_same [] i v w e = absurd (some-ne-none v (sym e))
at_same (u ∷ us) zero v w e = refl
at_same (u ∷ us) (suc i) v w e = at_same us i v w e

-- what was in the list before another place was written
pub was_there : {X : Type 0} (l : List X) (i o : ℕ) (a b : X) → o ≢ i → get_elem? (set l i a) o ≡ some b → get_elem? l o ≡ some b
was_there l i o a b apart there = ⊎_elim
    (λ (q : (o ≡ i) × (a ≡ b)). absurd (apart q.0))
    (λ (q : (o ≢ i) × (get_elem? l o ≡ some b)). q.1)
    (at_set l i o a b there)

-- one event more, to the state g and the table t that shows it
pub goes_to : (z : Settings) (s : Table ℕ View) (r : Ruled z s) (g : State) (seat : ℕ → ℕ) (e : Event) (rep : Reply) (ds : List LogItem) (t : Table ℕ View)
    → step r.g e ≡ Some (record { state = g; reply = rep }) → did (by_number r.g e) rep ≡ ds → Good g → g.settings ≡ r.g.settings → r.g.seated ≤ g.seated
    → ((c : ℕ) → c < r.g.seated → seat c ≡ r.seat c) → Agrees z t.words g → ShowsViews g seat t.views → GoesOn z s r ds t
goes_to z s r g seat e rep ds t made named good settings seated seats words shows =
    let reached = more z r.g g e rep r.reached made in record {
      ruled = record { g = g; seat = seat; settings = settings ∙ r.settings; good = good; reached = reached.0; words = words; shows = shows };
      goes_on = reached.1 ∙ ap (λ (l : List LogItem). log_of_events z r.reached.events ++ l) named;
      seated = seated;
      seats = seats;
    }

-- A reference is put into another view: what its event makes and leaves, and that a run goes on with it.

pub record JoinLeaves (e : ℕ → Event) (g : State) (v u both : View) : Type 0 where
  pub makes : JoinMakes e g v u both
  pub named : by_number g (e makes.id) ≡ e (number_of_id g makes.id)
  pub settings : makes.after.settings ≡ g.settings
  pub seated : makes.after.seated ≡ g.seated
  pub words : (q : Spot) → word_at makes.after q ≡ word_at g q
  pub stay : (seat : ℕ → ℕ) (i : ℕ) → Sits seat i v → Stay g makes.after seat i

abbrev pub JoinsSo : (ℕ → Event) → View → View → View → Type 0
JoinsSo e v u both = (g : State) → Good g → Shown g v → Shown g u → IsBacked g u → JoinLeaves e g v u both

pub joins_on : (z : Settings) (i : ℕ) (v : View) (o : ℕ) (u both : View) (e : ℕ → Event) → JoinsSo e v u both → (who both ≡ who v) × (who u ≡ another) → ((seat : ℕ → ℕ) → Sits seat i v → Sits seat i both)
    → JoinsOn z i v o u both Spent (did (e (reference_of u).entry.number) Done)
joins_on z i v o u both e joins owners sits s r at apart there =
    let g = r.g in
    let had = r.shows.fits i v at in
    let was = was_there s.views i o both u apart there in
    let leaves = joins g r.good had.1 (r.shows.fits o u was).1 (backed g r.seat s.views o u r.shows was) in
    let law = leaves.makes in
    goes_to z s r law.after r.seat (e law.id) Done _ _ law.made (ap (λ (f : Event). did f Done) (leaves.named ∙ ap e law.names)) law.good_after leaves.settings (omega (arith, leaves.seated)) (λ c lt. refl)
    (agrees_same z s.words g law.after r.words leaves.settings (λ q _. leaves.words q))
    (shows_join g law.after r.seat s.views i v o u both r.shows at apart was (leaves.stay r.seat i had.0) (sits r.seat had.0, law.shown) leaves.seated owners law.count there)
