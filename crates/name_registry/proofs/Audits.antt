-- What the code of an audit makes, in any state of the views.
use Rattle.std.proofs.Common.{◌≡◌, ◌≢◌, inl, inr, ⊎_elim, ℕ, zero, suc, ◌+◌, ◌*◌, ◌<◌, ◌≤◌, Bool, true, ◌&&◌, ℤ, pos, ◌+ℤ◌, List, [], ◌∷◌, ◌++◌, length, get_or, map, cond, false, refl, sym, ap, ◌∙◌, subst, arith, add-one}
use Rattle.std.specs.List.{All}
use Rattle.std.proofs.lemmas.Bool.{eq-eqb, ne_eqb}
use Rattle.std.proofs.lemmas.Int.{ints}
use Rattle.std.proofs.lemmas.List.{append-nil, map-append, length-map}
use Rattle.std.proofs.lemmas.Simd.{map-map}
use Rattle.std.proofs.lemmas.List.Elements.{All-append, All-cons, All-head, All-nil, All-tail}
use mathlib.Core.Logic.{dite}
use mathlib.Core.Option.{some, some-injective, some-ne-none}
use native.Mathlib.Decide.{ℕ_discrete}
use lib.ListN.{get_elem?}
use Rattle.atomic_table.specs.Seated.{TableId}
use Rattle.name_registry.specs.Types.{Balance, Entry, Mark, Settings, Slot, Vacant, Live, Retired, MOST_CPUS, MOST_SLOTS, CpuView, LogItem, KeeperView, KeptSlot, NumberedCount}
use Rattle.registry_values.specs.Common.{Tally, is_retired, less_bias, sum_of, tally_shown, bias, slot_at}
use Rattle.protocol.specs.Common.{IsIn, greatest_limit, mark_at, total_at}
use Rattle.registry_values.proofs.Fit.{ranges}
use Rattle.protocol.proofs.History.{attached_within}
use Rattle.protocol.proofs.Occupied.{attached_in}
use Rattle.cpu_words.specs.Common.{number_at}
use Rattle.cpu_words.proofs.by_keeper.KeeperSteps.{seen_by_keeper}
use Rattle.passive_list.specs.Common.{Memory, NetAgree, OnCpu, place_at, IsOurKeeper, OnKeeper, OnPlainKeeper, on_keeper, row_at, states_of, total_or_bias}
use Rattle.passive_list.proofs.Rows.{live_in, retired_in, none_at_rest, total_near}
use Rattle.local_count.specs.{net_by}
use Rattle.local_count.proofs.References.{place_count}
use Rattle.name_registry.specs.Common.{AreAllCpus, Listed, Occupies, each_at, each_below, is_collected, local_met, locals_met, net_met, net_of, place_of, places_below, tallies_met, tally_met}

-- The CPUs

-- a CPU of the slice
pub cpu_at : (xs : List OnCpu) (k : ℕ) (x d : OnCpu) → get_elem? xs k ≡ some x → (k < length xs) × (get_or xs k d ≡ x)
cpu_at [] k x d at = absurd (some-ne-none x (sym at))
cpu_at (y ∷ xs) zero x d at = (omega arith, some-injective y x at)
cpu_at (y ∷ xs) (suc k) x d at = let rest = cpu_at xs k x d at in (omega (arith, rest.0), rest.1)

-- An occupied slot

-- what the keeper has of an entry's slot
pub record Has (a : Settings) (x : OnKeeper) (rows : List KeptSlot) (t n : ℕ) : Type 0 where
  pub entry : Entry
  pub number : entry.number ≡ n
  pub there : IsIn entry (slot_at x.view.slots t)
  pub within : t < a.slots
  pub few : t < MOST_SLOTS
  pub begun : 0 < n
  pub total : total_or_bias (row_at rows t) ≡ total_at x.view.totals t
  pub low : bias ≤ total_at x.view.totals t + MOST_CPUS * greatest_limit
  pub high : total_at x.view.totals t ≤ bias + MOST_CPUS * greatest_limit

-- an entry that the keeper has in a slot is there in its view
pub in_view : (a : Settings) (k : KeeperView) (rows : List KeptSlot) (n t : ℕ) (e : Entry) → IsOurKeeper a k rows n → IsIn e (slot_at (states_of rows) t)
    → (t < a.slots) × IsIn e (slot_at k.slots t)
in_view a k rows n t e our is = ⊎_elim
    (λ (live : slot_at (states_of rows) t ≡ Live e). let here = live_in a k rows t e our.rows live in (here.0, inl here.1))
    (λ (gone : slot_at (states_of rows) t ≡ Retired e). let here = retired_in a k rows t e our.rows gone in (here.0, inr here.1))
    is

pub has : {log : List LogItem} (a : Settings) (k : KeeperView) (rows : List KeptSlot) (n : ℕ) (x : OnKeeper) (t m : ℕ) → IsOurKeeper a k rows n
    → record { view = k; slots = states_of rows; log = log } ≡ x → Occupies x t m → Has a x rows t m
has a k rows n x t m our is there =
    let e = there.0 in
    let here = in_view a k rows n t e our (subst (λ (y : OnKeeper). IsIn e (slot_at y.slots t)) (sym is) there.1) in
    let g = our.is_shown.g in
    let good = our.is_shown.good in
    let attached = attached_in g.history g.slots t e good.holds.slots (subst (λ (y : List Slot). IsIn e (slot_at y t)) (seen_by_keeper g k good our.is_shown.shown).slots here.1) in
    let one = (attached_within g.history e attached.0).0 in
    let most = (ranges a our.view.fit).slots in
    let near = total_near g k t e good our.is_shown.shown (none_at_rest k.due t our.view.rest) here.1 in
    subst (λ (y : OnKeeper). Has a y rows t m) is record {
      entry = e;
      number = there.2;
      there = here.1;
      within = here.0;
      few = omega (arith, here.0, most);
      begun = omega (arith, one, there.2);
      total = (our.rows.each t here.0).total;
      low = omega (arith, near.0);
      high = near.1;
    }

-- no word past the last CPU is collected
pub none_past : {table : TableId} {log : List LogItem} (a : Settings) (k : KeeperView) (rows : List KeptSlot) (n t c : ℕ) (x : OnPlainKeeper) → IsOurKeeper a k rows n → on_keeper table a k rows log ≡ x
    → x.words.settings.cpus ≤ c → is_collected x.keeper t c ≡ false
none_past {table} {log} a k rows n t c x our is past =
    let seen = seen_by_keeper our.is_shown.g k our.is_shown.good our.is_shown.shown in
    let same = ap (λ (z : Settings). z.cpus) (sym our.view.settings ∙ seen.settings) in
    let ours : a.cpus ≤ c = subst (λ (y : OnPlainKeeper). y.words.settings.cpus ≤ c) (sym is) past in
    let none : (mark_at k.marks t c).collected ≡ false =
    ap (λ (ms : List (List Mark)). (mark_at ms t c).collected) seen.marks ∙ our.is_shown.shown.beyond c t (omega (arith, same, ours)) in
    subst (λ (y : OnPlainKeeper). is_collected y.keeper t c ≡ false) is (ap (λ b. is_retired (slot_at (states_of rows) t) && b) none ∙ off (is_retired (slot_at (states_of rows) t)))
  where
    off : (b : Bool) → b && false ≡ false
    off true = refl
    off false = refl

-- Of one CPU

-- what its place says of a number is its net count, where it met it there last
pub net_is : (x : CpuView) (depth made : ℕ) (mm : Memory) (known_log log : List LogItem) (places : List NumberedCount) (t n w : ℕ) → NetAgree x places → 0 < n → w ≡ net_by (place_at places t) n
    → less_bias w ≡ net_met t n (record { view = x; depth = depth; made = made; memory = mm; known_log = known_log; log = log })
net_is x depth made mm known_log log places t n w agree begun is =
    let place = place_count x places t n w agree begun is in
    let net = net_of n (record { view = x; depth = depth; made = made; memory = mm; known_log = known_log; log = log }) in
    dite (ℕ_discrete (number_at x.met t) n)
    (λ (same : number_at x.met t ≡ n). omega (arith, ints, place.met same) ∙ sym (ap (λ b. cond b net (pos 0)) (eq-eqb (number_at x.met t) n same)))
    (λ (off : number_at x.met t ≢ n). omega (arith, ints, place.other off) ∙ sym (ap (λ b. cond b net (pos 0)) (ne_eqb (number_at x.met t) n off)))

pub local_is : (k : OnKeeper) (x : OnCpu) (t n c : ℕ) (z : ℤ) → x.view.id ≡ c → is_collected k t c ≡ false → z ≡ net_met t n x → z ≡ local_met k t n x
local_is k x t n c z id counting is = is ∙ sym (ap (λ b. cond b (pos 0) (net_met t n x)) (ap (is_collected k t) id ∙ counting))

-- Of each occupied slot below a number

pub each_none : {X : Type 0} (f : ℕ → ℕ → X) (slots : List Slot) (t : ℕ) (x : Slot) (ys : List X) → x ≡ slot_at slots t → x ≡ Vacant → ys ≡ each_below f slots t → ys ≡ each_below f slots (t + 1)
each_none {X} f slots t x ys at is so_far =
    so_far ∙ (sym (append-nil (each_below f slots t)) ∙ (ap (λ (y : Slot). each_below f slots t ++ each_at f t y) (sym is ∙ at) ∙ ap (each_below f slots) (sym (add-one t))))

each_one : {X : Type 0} (f : ℕ → ℕ → X) (t : ℕ) (x : Slot) (e : Entry) → IsIn e x → each_at f t x ≡ f e.number t ∷ []
each_one f t x e is = ⊎_elim (λ (live : x ≡ Live e). ap (each_at f t) live) (λ (gone : x ≡ Retired e). ap (each_at f t) gone) is

pub each_more : {X : Type 0} (f : ℕ → ℕ → X) (slots : List Slot) (t : ℕ) (x : Slot) (e : Entry) (ys : List X) (y : X) → x ≡ slot_at slots t → IsIn e x → ys ≡ each_below f slots t → y ≡ f e.number t
    → ys ++ y ∷ [] ≡ each_below f slots (t + 1)
each_more {X} f slots t x e ys y at is so_far one =
    (λ i. so_far i ++ one i ∷ []) ∙ (ap (λ (zs : List X). each_below f slots t ++ zs) (sym (each_one f t x e is) ∙ ap (each_at f t) at) ∙ ap (each_below f slots) (sym (add-one t)))

-- what is alike of each is alike of all
pub each_same : {X : Type 0} (f h : ℕ → ℕ → X) (slots : List Slot) (n : ℕ) → ((t : ℕ) (e : Entry) → IsIn e (slot_at slots t) → f e.number t ≡ h e.number t)
    → each_below f slots n ≡ each_below h slots n
each_same f h slots zero same = refl
each_same {X} f h slots (suc t) same = let before = each_same f h slots t same in let here = at (slot_at slots t) refl in λ i. before i ++ here i
  where
    at : (x : Slot) → slot_at slots t ≡ x → each_at f t x ≡ each_at h t x
    at Vacant is = refl
    at (Live e) is = ap (λ (y : X). y ∷ []) (same t e (inl is))
    at (Retired e) is = ap (λ (y : X). y ∷ []) (same t e (inr is))

pub each_all : {X : Type 0} (P : X → Type 0) (f : ℕ → ℕ → X) (slots : List Slot) (n : ℕ) → ((t : ℕ) (e : Entry) → IsIn e (slot_at slots t) → P (f e.number t)) → All P (each_below f slots n)
each_all P f slots zero each = All-nil P
each_all P f slots (suc t) each = All-append P (each_below f slots t) (each_at f t (slot_at slots t)) (each_all P f slots t each) (at (slot_at slots t) refl)
  where
    at : (x : Slot) → slot_at slots t ≡ x → All P (each_at f t x)
    at Vacant is = All-nil P
    at (Live e) is = All-cons P (f e.number t) [] (each t e (inl is)) (All-nil P)
    at (Retired e) is = All-cons P (f e.number t) [] (each t e (inr is)) (All-nil P)

pub each_map : {X Y : Type 0} (v : X → Y) (f : ℕ → ℕ → X) (slots : List Slot) (n : ℕ) → map v (each_below f slots n) ≡ each_below (λ m t. v (f m t)) slots n
each_map v f slots zero = refl
each_map {X} {Y} v f slots (suc t) =
    map-append v (each_below f slots t) (each_at f t (slot_at slots t)) ∙ (let before = each_map v f slots t in let here = at (slot_at slots t) in λ i. before i ++ here i)
  where
    at : (x : Slot) → map v (each_at f t x) ≡ each_at (λ m u. v (f m u)) t x
    at Vacant = refl
    at (Live e) = refl
    at (Retired e) = refl

-- What is shown of the list

pub all_shown : {X Y : Type 0} (f : X → Y) (P : Y → Type 0) (list : List X) → All P (map f list) → All (λ (x : X). P (f x)) list
all_shown f P [] all = All-nil (λ x. P (f x))
all_shown f P (x ∷ list) all = All-cons (λ y. P (f y)) x list (All-head P (f x) (map f list) all) (all_shown f P list (All-tail P (f x) (map f list) all))

-- what is so of each entry's tally is so of each balance
pub all_met : {X : Type 0} (shown : X → Tally) (P : Tally → Type 0) (k : OnKeeper) (xs : List OnCpu) (slots : ℕ) (list : List X) → map shown list ≡ tallies_met k xs slots
    → ((t : ℕ) (e : Entry) → IsIn e (slot_at k.slots t) → P (tally_met k xs e.number t))
    → All (λ (b : X). P (shown b)) list
all_met shown P k xs slots list is each = all_shown shown P list (subst (All P) (sym is) (each_all P (tally_met k xs) k.slots slots each))

pub places_met : (k : OnKeeper) (xs : List OnCpu) (slots : ℕ) (list : List Balance) → map tally_shown list ≡ tallies_met k xs slots → map place_of list ≡ places_below k slots
places_met k xs slots list is = sym (map-map listed tally_shown list) ∙ (ap (map listed) is ∙ each_map listed (tally_met k xs) k.slots slots)
  where
    listed : Tally → Listed
    listed y = record { number = y.number; slot = y.slot; total = y.total }

pub sums_met : (k : OnKeeper) (xs : List OnCpu) (slots : ℕ) (list : List Balance) → map tally_shown list ≡ tallies_met k xs slots
    → All (λ (b : Balance). b.held ≡ sum_of b.locals.items +ℤ b.total) list
sums_met k xs slots list is = all_met tally_shown (λ (y : Tally). y.held ≡ sum_of y.locals +ℤ y.total) k xs slots list is (λ t e there. refl)

pub counts_met : (k : OnKeeper) (xs : List OnCpu) (cpus slots : ℕ) (list : List Balance) → AreAllCpus cpus xs → map tally_shown list ≡ tallies_met k xs slots
    → All (λ (b : Balance). length b.locals.items ≡ cpus) list
counts_met k xs cpus slots list all is = all_met tally_shown (λ (y : Tally). length y.locals ≡ cpus) k xs slots list is (λ t e there. length-map xs (local_met k t e.number) ∙ all.count)

pub tally_is : (k : OnKeeper) (xs : List OnCpu) (n t : ℕ) (held total : ℤ) (locals : List ℤ) → locals ≡ locals_met k xs t n → total ≡ less_bias (total_at k.view.totals t)
    → held ≡ sum_of locals +ℤ total
    → record { number = n; slot = t; held = held; locals = locals; total = total } ≡ tally_met k xs n t
tally_is k xs n t held total locals l d h = λ i. record { number = n; slot = t; held = (h ∙ (λ j. sum_of (l j) +ℤ d j)) i; locals = l i; total = d i }
