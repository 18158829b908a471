-- How an audit goes over what it is lent: CPU by CPU, and slot by slot.
use Rattle.std.proofs.Common.{◌≡◌, ◌≢◌, ℕ, zero, suc, ◌+◌, ◌<◌, ◌≤◌, ◌^◌, ℤ, pos, neg_ℤ, ◌≤ℤ◌, List, [], ◌∷◌, ◌++◌, length, get_or, set, map, take, drop, Option, Some, None, inl, inr, ⊎_elim, refl, sym, ap, ◌∙◌, subst, arith, add-one, length-append, length-set}
use Rattle.std.specs.Prelude.{IsSome}
use Rattle.std.specs.List.{All}
use Rattle.std.proofs.lemmas.Bool.{cases_lt}
use Rattle.std.proofs.lemmas.List.{drop-drop, drop-set-lt, get_or-drop, get_or-map, get_or-set_other, get_or-set_same, length-map, map-append, map_more, set-get_or, take_more_set}
use Rattle.std.proofs.lemmas.List.Elements.{All-get_or}
use mathlib.Core.List.{map-id}
use mathlib.Core.Logic.{dite}
use mathlib.Core.Option.{some, some-injective}
use native.Mathlib.Decide.{ℕ_discrete}
use lib.ListN.{get_elem?}
use Rattle.atomic_table.proofs.Lists.{at_index}
use Rattle.registry_values.specs.Common.{Tally, slot_at}
use Rattle.protocol.specs.Common.{IsIn}
use Rattle.cpu_words.specs.Common.{Named}
use Rattle.passive_list.specs.Common.{OnCpu, OnKeeper}
use Rattle.name_registry.specs.Types.{Entry, Settings, Slot, Vacant, Live, Retired, MOST_CPUS}
use Rattle.name_registry.specs.Common.{AreAllCpus, AreAllThere, AreOf, AreThere, AreTold, WritesNext, each_at, entries_in, listed_at, local_met, occupied, places_below}
use Rattle.name_registry.specs.Auditing.{IsOccupied}
use Rattle.name_registry.proofs.Audits.{each_more, each_none}

-- What is lent in one place of the list

module _ {L : Type 0} (ls : List L) (n : ℕ) (d : L) (lt : n < length ls) where
  pub cpu_there : (cpu : L → OnCpu) → get_elem? (map cpu ls) n ≡ some (cpu (get_or ls n d))
  cpu_there cpu = let x = cpu (get_or ls n d) in at_index (map cpu ls) n x (omega (arith, lt, length-map ls cpu)) (sym (get_or-map cpu ls n d x lt))

  pub is_cpu_there : (cpu : L → OnCpu) (x : OnCpu) → get_elem? (map cpu ls) n ≡ some x → cpu (get_or ls n d) ≡ x
  is_cpu_there cpu x at = some-injective (cpu (get_or ls n d)) x (sym (cpu_there cpu) ∙ at)

  pub table_there : (table : L → Option Named) → get_or (map table ls) n None ≡ table (get_or ls n d)
  table_there table = get_or-map table ls n d None lt

  -- it was lent, and is as it was
  pub set_back : (l : L) → l ≡ get_or ls n d → set ls n l ≡ ls
  set_back l same = ap (set ls n) same ∙ set-get_or ls n d

-- there is a CPU, with this number
abbrev pub IsHere : List (Option Named) → List OnCpu → ℕ → Type 0
IsHere ts xs k = IsSome (get_or ts k None) × ((x : OnCpu) → get_elem? xs k ≡ some x → x.view.id ≡ k)

-- where all are of one table
pub all_of : {L : Type 0} (w : Named) (ls : List L) → AreOf w (map (λ (l : L). Some w) ls)
all_of w [] c lt = absurd (omega (arith, lt))
all_of w (l ∷ ls) zero lt = refl
all_of w (l ∷ ls) (suc c) lt = all_of w ls c (omega (arith, lt))

pub of_there : (w : Named) (ts : List (Option Named)) → AreOf w ts → AreThere ts
of_there w ts of c lt = subst IsSome (sym (of c lt)) refl

-- where the CPUs themselves are lent

pub all_lent : (w : Named) (y z : Settings) (xs : List OnCpu) → AreAllThere y.cpus (map (λ (x : OnCpu). Some w) xs) (map (λ (x : OnCpu). x) xs) → y ≡ z → AreAllCpus z.cpus xs
all_lent w y z xs all is = subst (λ (p : Settings × List OnCpu). AreAllCpus p.0.cpus p.1) (λ i. (is i, map-id xs i)) all.all

pub not_lent : (w : Named) (y z : Settings) (xs : List OnCpu) → (AreAllThere y.cpus (map (λ (x : OnCpu). Some w) xs) (map (λ (x : OnCpu). x) xs) → ⊥) → y ≡ z → AreAllCpus z.cpus xs → ⊥
not_lent w y z xs missing is all = missing (record {
  all = subst (λ (p : Settings × List OnCpu). AreAllCpus p.0.cpus p.1) (λ i. (sym is i, sym (map-id xs) i)) all;
  there = of_there w _ (all_of w xs);
})

pub of_cpus : (R : List OnCpu → List OnCpu → Type 0) (us vs xs ys : List OnCpu) → us ≡ xs → vs ≡ ys → R (map (λ (x : OnCpu). x) us) (map (λ (x : OnCpu). x) vs) → R xs ys
of_cpus R us vs xs ys was is said = subst (λ (p : List OnCpu × List OnCpu). R p.0 p.1) (λ i. ((map-id us ∙ was) i, (map-id vs ∙ is) i)) said

-- Of one entry, the CPUs' counts

-- those of the first c CPUs are there
pub record AreLocals (k : OnKeeper) (t n : ℕ) (xs : List OnCpu) (c : ℕ) (row : List ℤ) : Type 0 where
  pub size : length row ≡ MOST_CPUS
  pub value : take c row ≡ map (local_met k t n) (take c xs)
  pub range : (i : ℕ) → i < c → (neg_ℤ (pos (2 ^ 50)) ≤ℤ get_or row i (pos 0)) × (get_or row i (pos 0) ≤ℤ pos (2 ^ 50))

pub local_more : (k : OnKeeper) (t n : ℕ) (xs : List OnCpu) (c : ℕ) (row : List ℤ) (x : OnCpu) (z : ℤ) → c < MOST_CPUS → c < length xs → x ≡ get_or xs c x → z ≡ local_met k t n x
    → (neg_ℤ (pos (2 ^ 50)) ≤ℤ z) × (z ≤ℤ pos (2 ^ 50)) → AreLocals k t n xs c row → AreLocals k t n xs (c + 1) (set row c z)
local_more k t n xs c row x z few within at is range so_far =
    let f = local_met k t n in
    let lt : c < length row = omega (arith, few, so_far.size) in
    let here : z ≡ f (get_or xs c x) = is ∙ ap f at in
    record {
      size = length-set row c z ∙ so_far.size;
      value = take_more_set row c z lt ∙ ((λ i. so_far.value i ++ here i ∷ []) ∙ sym (map_more f xs c x within));
      range = λ i low. dite (ℕ_discrete i c)
          (λ (same : i ≡ c). subst (λ (y : ℤ). (neg_ℤ (pos (2 ^ 50)) ≤ℤ y) × (y ≤ℤ pos (2 ^ 50)))
          (sym (ap (λ j. get_or (set row c z) j (pos 0)) same ∙ get_or-set_same row c z (pos 0) lt)) range)
          (λ (off : i ≢ c). subst (λ (y : ℤ). (neg_ℤ (pos (2 ^ 50)) ≤ℤ y) × (y ≤ℤ pos (2 ^ 50))) (sym (get_or-set_other row c i z (pos 0) off))
          (so_far.range i (omega (arith, low, off))));
    }

-- How many entries there are

-- one slot more
pub occupied_next : (k : OnKeeper) (t : ℕ) → occupied k (t + 1) ≡ occupied k t + entries_in (slot_at k.slots t)
occupied_next k t = ap (occupied k) (add-one t) ∙ (length-append (places_below k t) (each_at (listed_at k) t (slot_at k.slots t)) ∙ ap (λ n. occupied k t + n) (here (slot_at k.slots t)))
  where
    here : (x : Slot) → length (each_at (listed_at k) t x) ≡ entries_in x
    here Vacant = refl
    here (Live e) = refl
    here (Retired e) = refl

pub one_at_most : (x : Slot) → entries_in x ≤ 1
one_at_most x = grind arith

pub occupied_few : (k : OnKeeper) (t : ℕ) → occupied k t ≤ t
occupied_few k zero = omega arith
occupied_few k (suc t) = omega (arith, occupied_few k t, ap (occupied k) (sym (add-one t)) ∙ occupied_next k t, one_at_most (slot_at k.slots t))

pub occupied_grows : (k : OnKeeper) (m n : ℕ) → m ≤ n → occupied k m ≤ occupied k n
occupied_grows k m zero le = let is : m ≡ 0 = omega (arith, le) in omega (arith, ap (occupied k) is)
occupied_grows k m (suc n) le = ⊎_elim
    (λ (lt : m < suc n). omega (arith, occupied_grows k m n (omega (arith, lt)), ap (occupied k) (sym (add-one n)) ∙ occupied_next k n))
    (λ (ge : suc n ≤ m). let is : m ≡ suc n = omega (arith, le, ge) in omega (arith, ap (occupied k) is))
    (cases_lt m (suc n))

one_entry : (x : Slot) (e : Entry) → IsIn e x → entries_in x ≡ 1
one_entry x e is = ⊎_elim (λ (live : x ≡ Live e). ap entries_in live) (λ (gone : x ≡ Retired e). ap entries_in gone) is

-- a slot with an entry has its place in the list
pub has_place : (k : OnKeeper) (t slots : ℕ) (e : Entry) → t < slots → IsIn e (slot_at k.slots t) → occupied k t < occupied k slots
has_place k t slots e lt is = omega (arith, occupied_next k t, one_entry (slot_at k.slots t) e is, occupied_grows k (t + 1) slots (omega (arith, lt)))

-- where there is one, some slot has it
pub some_occupied : (k : OnKeeper) (slots : ℕ) → 0 < occupied k slots → IsOccupied k
some_occupied k zero lt = absurd (omega (arith, lt))
some_occupied k (suc t) lt = at (some_occupied k t) (slot_at k.slots t) refl
  where
    at : (0 < occupied k t → IsOccupied k) → (x : Slot) → slot_at k.slots t ≡ x → IsOccupied k
    at before Vacant is = before (omega (arith, lt, ap (occupied k) (sym (add-one t)) ∙ occupied_next k t, ap entries_in is))
    at before (Live e) is = (t, e, inl is)
    at before (Retired e) is = (t, e, inr is)

-- a place that is to be written is as it was at first
pub place_fits : {P : Type 0} (F : P → Type 0) (first list : List P) (at : ℕ) → All F first → drop at list ≡ drop at first → length list ≡ length first → (p : P) → at < length list
    → F (get_or list at p)
place_fits {P} F first list at all rest size p lt = subst F (there first ∙ sym (ap (λ (ps : List P). get_or ps 0 p) rest) ∙ sym (there list)) (All-get_or F first at p (omega (arith, lt, size)) all)
  where
    there : (ps : List P) → get_or ps at p ≡ get_or (drop at ps) 0 p
    there ps = sym (get_or-drop at ps 0 p ∙ ap (λ i. get_or ps i p) (omega arith))

-- The list of balances, slot by slot

module _ {P : Type 0} (shown : P → Tally) (said : ℕ → ℕ → Tally) (k : OnKeeper) where
  pub none_told : (first list : List P) → list ≡ first → AreTold shown said k 0 0 first list
  none_told first list same = record { place = refl; met = refl; rest = ap (drop 0) same; size = ap length same }

  more_entry : (t at at' : ℕ) (e : Entry) (first list new : List P) → at < length list → IsIn e (slot_at k.slots t) → WritesNext shown said k t at list at' new
      → AreTold shown said k t at first list → AreTold shown said k (t + 1) at' first new
  more_entry t at at' e first list new lt is next told =
      let had = next.some e is in
      let p = had.1 in
      let more : take at' new ≡ take at list ++ p ∷ [] = (λ i. take (had.0 i) (had.2 i)) ∙ take_more_set list at p lt in
      record {
        place = had.0 ∙ omega (arith, told.place, occupied_next k t, one_entry (slot_at k.slots t) e is);
        met = ap (map shown) more ∙ (map-append shown (take at list) (p ∷ [])
            ∙ each_more said k.slots t (slot_at k.slots t) e (map shown (take at list)) (shown p) refl is told.met had.3);
        rest = (λ i. drop (had.0 i) (had.2 i)) ∙ (drop-set-lt (at + 1) list at p (omega arith)
            ∙ (sym (drop-drop 1 at list) ∙ (ap (drop 1) told.rest ∙ (drop-drop 1 at first ∙ ap (λ n. drop n first) (sym had.0)))));
        size = ap length had.2 ∙ (length-set list at p ∙ told.size);
      }

  pub told_more : (t slots at at' : ℕ) (first list new : List P) → t < slots → occupied k slots ≤ length first → WritesNext shown said k t at list at' new
      → AreTold shown said k t at first list → AreTold shown said k (t + 1) at' first new
  told_more t slots at at' first list new lt room next told = by (slot_at k.slots t) refl
    where
      place : (e : Entry) → IsIn e (slot_at k.slots t) → at < length list
      place e is = omega (arith, told.place, told.size, room, has_place k t slots e lt is)

      by : (x : Slot) → slot_at k.slots t ≡ x → AreTold shown said k (t + 1) at' first new
      by Vacant is =
          let had = next.none is in
          record {
            place = had.0 ∙ omega (arith, told.place, occupied_next k t, ap entries_in is);
            met = (λ i. map shown (take (had.0 i) (had.1 i))) ∙ each_none said k.slots t (slot_at k.slots t) (map shown (take at list)) refl is told.met;
            rest = (λ i. drop (had.0 i) (had.1 i)) ∙ (told.rest ∙ ap (λ n. drop n first) (sym had.0));
            size = ap length had.1 ∙ told.size;
          }
      by (Live e) is = more_entry t at at' e first list new (place e (inl is)) (inl is) next told
      by (Retired e) is = more_entry t at at' e first list new (place e (inr is)) (inr is) next told
