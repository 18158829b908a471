-- The balance over all seats: each hand of the core is that of the one seat of its CPU, so the core's balance is that of the seats.
use Rattle.std.proofs.Common.{◌≡◌, ◌≢◌, ⊎_elim, ℕ, zero, suc, ◌+◌, ◌*◌, ◌<◌, ◌≤◌, List, [], ◌∷◌, get_or, ltb, Bool, cond, Option, sum_by, refl, sym, ap, ◌∙◌, subst, arith}
use Rattle.std.proofs.lemmas.Bool.{cases_lt, cases_eq, lt-ltb, le-ltb}
use Rattle.std.proofs.lemmas.List.Sums.{sum_by-cons}
use mathlib.Core.Option.{some, some-ne-none, some-injective}
use lib.ListN.{get_elem?}
use Rattle.cpu_words.specs.Types.{Entry, Settings, Slot, Due, Hand}
use Rattle.registry_values.specs.Common.{bias, slot_at}
use Rattle.protocol.specs.declared.state.Hand.TheVariants.{Empty as EmptyHand, Taking as TakingHand, Giving as GivingHand, Back as BackHand, Trying as TryingHand}
use Rattle.protocol.specs.Common.{State, hand_at, count_at, total_at, IsIn, one_if_used, itself, in_hand, kept_of, addition_due_at, is_adding_at, subtraction_due_at}
use Rattle.protocol.proofs.Occupied.{in_within}
use Rattle.cpu_words.specs.Common.{InHand, Empty, Taking, Giving, Back, Trying, KeeperView, View, Keeper, Cpu, count_of, total_of, SameHand, CpuShown, Shown, Agrees, Sits, ShowsViews, Good, sum_below, count_word, total_word, in_hand_to, hand_to, held_by_seats, HasOneSeat, IsBalanced, SeatsBalance}
use Rattle.cpu_words.proofs.by_keeper.KeeperSteps.{SeenByKeeper, seen_by_keeper}
use Rattle.cpu_words.proofs.logs.Totalled.{sum_first, sum_other}

-- Sums over numbers

below_none : (f : ℕ → ℕ) (n : ℕ) → ((c : ℕ) → f c ≡ 0) → sum_below f n ≡ 0
below_none f zero none = refl
below_none f (suc n) none = omega (arith, below_none f n none, none n)

-- the sum over a list in which nothing counts from m on
list_below : {X : Type 0} (f : X → ℕ) (d : X) (xs : List X) (m : ℕ) → f d ≡ 0 → ((i : ℕ) → m ≤ i → f (get_or xs i d) ≡ 0) → sum_by f xs ≡ sum_below (λ c. f (get_or xs c d)) m
list_below f d [] m none past = sym (below_none (λ c. f d) m (λ c. none))
list_below f d (x ∷ xs) zero none past = omega (arith, sum_by-cons f x xs, list_below f d xs zero none (λ i le. past (suc i) (omega arith)), past 0 (omega arith))
list_below f d (x ∷ xs) (suc m) none past = omega (arith, sum_by-cons f x xs, list_below f d xs m none (λ i le. past (suc i) (omega (arith, le))), sum_first (λ c. f (get_or (x ∷ xs) c d)) m)

-- Sums over views

-- two sums of the same terms
views_same : (f g : View → ℕ) (views : List View) → ((j : ℕ) (u : View) → get_elem? views j ≡ some u → g u ≡ f u) → sum_by g views ≡ sum_by f views
views_same f g [] same = refl
views_same f g (x ∷ xs) same = omega (arith, sum_by-cons f x xs, sum_by-cons g x xs, views_same f g xs (λ j u at. same (suc j) u at), same 0 x refl)

-- of the same terms but at one place
views_but_one : (f g : View → ℕ) (views : List View) (i : ℕ) (v : View) → get_elem? views i ≡ some v → ((j : ℕ) (u : View) → j ≢ i → get_elem? views j ≡ some u → g u ≡ f u)
    → sum_by g views + f v ≡ sum_by f views + g v
views_but_one f g [] i v at same = absurd (some-ne-none v (sym at))
views_but_one f g (x ∷ xs) zero v at same =
    let is : x ≡ v = some-injective x v at in
    omega (arith, sum_by-cons f x xs, sum_by-cons g x xs, views_same f g xs (λ j u there. same (suc j) u (λ e. absurd (omega (arith, e))) there), ap f is, ap g is)
views_but_one f g (x ∷ xs) (suc i) v at same =
    let rest = views_but_one f g xs i v at (λ j u ne there. same (suc j) u (λ e. ne (omega (arith, e))) there) in
    omega (arith, sum_by-cons f x xs, sum_by-cons g x xs, rest, same 0 x (λ e. absurd (omega (arith, e))) refl)

-- Hands

-- what is in a view's hand is in the core's
same_in_hand : (n : ℕ) (h : Hand) (k : InHand) → SameHand h k → in_hand_to n k ≡ in_hand n h
same_in_hand n EmptyHand Empty same = refl
same_in_hand n (TakingHand m) (Taking e) same = ap (λ (a : ℕ). in_hand n (TakingHand a)) (sym same)
same_in_hand n (GivingHand m id) (Giving e) same = ap (λ (a : ℕ). in_hand n (TakingHand a)) (sym same)
same_in_hand n (BackHand m id) (Back e) same = ap (λ (a : ℕ). in_hand n (TakingHand a)) (sym same)
same_in_hand n (TryingHand t m) (Trying e) same = refl
same_in_hand n h k same = absurd same

-- the hands of the CPUs below m alone
abbrev hand_below : ℕ → ℕ → View → ℕ
hand_below n m (Cpu x) = cond (ltb x.id m) (in_hand_to n x.hand) 0
hand_below n m v = 0

none_below : (n : ℕ) (u : View) → hand_below n 0 u ≡ 0
none_below n (Cpu x) = ap (λ (b : Bool). cond b (in_hand_to n x.hand) 0) (le-ltb x.id 0 (omega arith))
none_below n v = refl

none_of_all : (n : ℕ) (views : List View) → sum_by (hand_below n 0) views ≡ 0
none_of_all n [] = refl
none_of_all n (x ∷ xs) = omega (arith, sum_by-cons (hand_below n 0) x xs, none_below n x, none_of_all n xs)

-- one CPU more changes no other view's
other_below : (seat : ℕ → ℕ) (n m j : ℕ) (u : View) → Sits seat j u → j ≢ seat m → hand_below n (suc m) u ≡ hand_below n m u
other_below seat n m j (Cpu x) sits ne = ap (λ (b : Bool). cond b (in_hand_to n x.hand) 0) (⊎_elim
    (λ (less : x.id < m). lt-ltb x.id (suc m) (omega (arith, less)) ∙ sym (lt-ltb x.id m less))
    (λ (more : m ≤ x.id).
    let off : x.id ≢ m = λ same. ne (sits ∙ ap seat same) in
    ⊎_elim
    (λ (same : x.id ≡ m). absurd (off same))
    (λ (apart : x.id ≢ m). le-ltb x.id (suc m) (omega (arith, more, apart)) ∙ sym (le-ltb x.id m more))
    (cases_eq x.id m))
    (cases_lt x.id m))
other_below seat n m j v sits ne = refl

-- the hands of the first m CPUs
hands_below : (g : State) (seat : ℕ → ℕ) (views : List View) (n m : ℕ) → ShowsViews g seat views → m ≤ g.seated → sum_by (hand_below n m) views ≡ sum_below (λ c. in_hand n (hand_at g c)) m
hands_below g seat views n zero shows le = none_of_all n views
hands_below g seat views n (suc m) shows le =
    let own = shows.each.cpus m (omega (arith, le)) in
    let x = own.0 in
    let one = views_but_one (hand_below n m) (hand_below n (suc m)) views (seat m) (Cpu x) own.1 (λ j u ne there. other_below seat n m j u (shows.fits j u there).0 ne) in
    let id : x.id ≡ m = own.2 in
    let before : hand_below n m (Cpu x) ≡ 0 = ap (λ (b : Bool). cond b (in_hand_to n x.hand) 0) (le-ltb x.id m (omega (arith, id))) in
    let after : hand_below n (suc m) (Cpu x) ≡ in_hand_to n x.hand = ap (λ (b : Bool). cond b (in_hand_to n x.hand) 0) (lt-ltb x.id (suc m) (omega (arith, id))) in
    let shown : CpuShown g x = (shows.fits (seat m) (Cpu x) own.1).1 in
    omega (arith, one, before, after, same_in_hand n (hand_at g x.id) x.hand shown.hand ∙ ap (λ (c : ℕ). in_hand n (hand_at g c)) id, hands_below g seat views n m shows (omega (arith, le)))

-- each CPU that has a view is below the seated ones
all_below : (g : State) (n : ℕ) (u : View) → Shown g u → hand_to n u ≡ hand_below n g.seated u
all_below g n (Cpu x) shown = sym (ap (λ (b : Bool). cond b (in_hand_to n x.hand) 0) (lt-ltb x.id g.seated shown.seated))
all_below g n v shown = refl

-- the hands of all seats are those of the core: a CPU without a seat has an empty one
hands_of_all : (g : State) (seat : ℕ → ℕ) (views : List View) (n : ℕ) → Good g → ShowsViews g seat views → sum_by (hand_to n) views ≡ sum_by (in_hand n) g.hands
hands_of_all g seat views n good shows =
    views_same (hand_below n g.seated) (hand_to n) views (λ j u at. all_below g n u (shows.fits j u at).1)
    ∙ hands_below g seat views n g.seated shows (omega arith)
    ∙ sym (list_below (in_hand n) EmptyHand g.hands g.seated refl (λ c le. ap (in_hand n) (good.holds.seats.empty c le)))

-- Words

counts_of_all : (z : Settings) (words : List ℕ) (g : State) (t : ℕ) (f : ℕ → ℕ) → Good g → Agrees z words g → t < g.settings.slots → f 0 ≡ 0
    → sum_by f (get_or g.counts t []) ≡ sum_below (λ c. f (count_word z words t c)) g.settings.cpus
counts_of_all z words g t f good agrees slot none =
    list_below f 0 (get_or g.counts t []) g.settings.cpus none (λ c le. ap f (good.holds.balance.beyond c t le) ∙ none)
    ∙ sum_other (λ c. f (count_word z words t c)) (λ c. f (count_at g.counts c t)) g.settings.cpus (λ c lt. ap f (sym (agrees.at (count_of c t) (lt, slot))))

-- Seats

one_seat : (g : State) (seat : ℕ → ℕ) (views : List View) (c : ℕ) → ShowsViews g seat views → c < g.seated → HasOneSeat views c
one_seat g seat views c shows lt =
    let own = shows.each.cpus c lt in record {
      place = seat c;
      view = own.0;
      at = own.1;
      id = own.2;
      only = λ j x there id. (shows.fits j (Cpu x) there).0 ∙ ap seat id;
    }

-- the balance where the words and the views show a state
balanced : (z : Settings) (g : State) (seat : ℕ → ℕ) (words : List ℕ) (views : List View) (k : KeeperView) (t : ℕ) (e : Entry) → Good g → Agrees z words g → ShowsViews g seat views → SeenByKeeper g k
    → IsIn e (slot_at g.slots t)
    → IsBalanced z g.settings.cpus words views k t e.number
balanced z g seat words views k t e good agrees shows seen here = record {
  balance = balance;
  at_rest = λ rest.
      let even = subst (λ (d : Due). sum_below (count_word z words t) g.settings.cpus + total_word z words t + addition_due_at t d
      ≡ held_by_seats views k e.number + subtraction_due_at t d + bias * (1 + sum_below (λ c. one_if_used (count_word z words t c)) g.settings.cpus + is_adding_at t d)) rest balance in
      omega (arith, even);
  hands = λ c lt. one_seat g seat views c shows (subst (λ (m : ℕ). c < m) seen.seated lt);
  seated = λ j x at. subst (λ (m : ℕ). x.id < m) (sym seen.seated) (shows.fits j (Cpu x) at).1.seated;
}
  where
    row : List ℕ
    row = get_or g.counts t []

    balance : sum_below (count_word z words t) g.settings.cpus + total_word z words t + addition_due_at t k.due
        ≡ held_by_seats views k e.number + subtraction_due_at t k.due + bias * (1 + sum_below (λ c. one_if_used (count_word z words t c)) g.settings.cpus + is_adding_at t k.due)
    balance =
        let slot : t < g.settings.slots = omega (arith, in_within g.slots t e here, good.holds.shape.slots) in
        let even = (good.holds.balance.balance t e here).even in
        let counts : sum_by itself row ≡ sum_below (count_word z words t) g.settings.cpus = counts_of_all z words g t itself good agrees slot refl in
        let total : total_word z words t ≡ total_at g.totals t = agrees.at (total_of t) slot in
        let hands = hands_of_all g seat views e.number good shows in
        let kept = ap (λ (l : List (Option ℕ)). sum_by (kept_of e.number) l) seen.keeps in
        let adding = ap (addition_due_at t) seen.due in
        let subtracting = ap (subtraction_due_at t) seen.due in
        omega (arith, even, counts, counts_of_all z words g t one_if_used good agrees slot refl, total, shows.references e.number, hands, kept, adding, ap (is_adding_at t) seen.due, subtracting)

pub seats_balance : SeatsBalance
seats_balance z s i t k e r at here =
    let g = r.g in
    let seen : SeenByKeeper g k = seen_by_keeper g k r.good (r.shows.fits i (Keeper k) at).1 in
    let is : IsIn e (slot_at g.slots t) = subst (λ (l : List Slot). IsIn e (slot_at l t)) seen.slots here in
    subst (λ (a : Settings). IsBalanced z a.cpus s.words s.views k t e.number) r.settings (balanced z g r.seat s.words s.views k t e r.good r.words r.shows seen is)
