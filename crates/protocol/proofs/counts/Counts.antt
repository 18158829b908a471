-- Each event keeps the balance of all slots.
use Rattle.std.proofs.Common.{◌≡◌, ℕ, ◌+◌, ◌-◌, ◌<◌, ◌≤◌, ◌⊎◌, inl, inr, List, [], length, get_or, set, replicate, Option, Some, None, Bool, true, false, IsTrue, cond, nat_lt, ◌==◌, refl, sym, ap, subst, ◌∙◌, arith, sum_by, length-set}
use Rattle.std.proofs.lemmas.Bool.{cond_both, cases_eq, cases_lt, cases_Bool, eq-eqb, ne_eqb}
use Rattle.std.proofs.lemmas.List.{get_or-replicate, get_or_past, length-replicate}
use Rattle.protocol.specs.Types.{Entry, Settings, MOST_CPUS, Slot, Vacant, Live, Retired, Mark}
use Rattle.protocol.specs.Common.{Hand, Empty, Taking, Giving, Back, LocalPlace, Free, Standing, Lifted, Due, Rest, Snapshots, Adding, Subtracting, State, with_cell, mark_at, count_at, total_at, kept_at, local_at, least_id, with_local, IsIn, AreRows, HasShape, Balances, IsCounting, CountsHold}
use Rattle.protocol.specs.Invariant
use Rattle.registry_values.specs.Common.{are_fit, bias, no_mark, mark_after_collect, slot_at}
use Rattle.registry_values.proofs.Fit.{ranges}
use Rattle.protocol.proofs.counts.Sums.{one_self, one_other, standing_within, lifted_within, local_changed, hand_changed, kept_changed, local_added, AreWords, word_floor, counted_up, counted_down, added, subtracted, published, collected as word_collected}
use Rattle.protocol.proofs.Cells.{by_place, row_here, row_other, cell_here, cell_other, cell_cases, cell_in_new, cell_in_old, get_or_all, one_in, slot_here, slot_other, not_vacated, total_here, total_other}
use Rattle.protocol.proofs.Occupied.{not_vacant, in_within}
use Rattle.protocol.proofs.Either.{either}
use Rattle.protocol.proofs.keeps.MarkKeeps.{cell_all}

-- the lengths and limits that the lemmas need
pub record CountsFit (z : Settings) (slots : List Slot) (marks : List (List Mark)) (counts nets : List (List ℕ)) (totals : List ℕ) (hands : List Hand) (keeps : List (Option ℕ)) : Type 0 where
  pub cpu_limit : z.cpus ≤ MOST_CPUS
  pub limit : z.count_limit ≤ Invariant.greatest_limit
  pub slot_length : length slots ≡ z.slots
  pub mark_length : length marks ≡ z.slots
  pub mark_rows : AreRows marks
  pub count_length : length counts ≡ z.slots
  pub count_rows : AreRows counts
  pub net_length : length nets ≡ z.slots
  pub net_rows : AreRows nets
  pub total_length : length totals ≡ z.slots
  pub hand_length : length hands ≡ z.cpus
  pub keep_length : length keeps ≡ z.slots

pub counts_fit : (s : State) → IsTrue (are_fit s.settings) → HasShape s → CountsFit s.settings s.slots s.marks s.counts s.nets s.totals s.hands s.keeps
counts_fit s fit shape = grind (arith, ranges)

-- a word is in its row
in_rows : {n : ℕ} (slots : List Slot) (rows : List (List ℕ)) → length slots ≡ n → length rows ≡ n → AreRows rows → (t : ℕ) (e : Entry) → IsIn e (slot_at slots t)
    → (t < length rows) × (length (get_or rows t []) ≡ MOST_CPUS)
in_rows slots rows sized size are t e is = let within : t < length rows = omega (arith, in_within slots t e is, sized, size) in (within, are t within)

-- a word of an occupied slot counts, or is collected
pub counting_cases : (slots : List Slot) (marks : List (List Mark)) (c t : ℕ) (e : Entry) → IsIn e (slot_at slots t)
    → IsCounting slots marks c t ⊎ ((slot_at slots t ≡ Retired e) × ((mark_at marks t c).collected ≡ true))
counting_cases slots marks c t e is = either is
    (λ live. inl (e, inl live))
    (λ gone. either (cases_Bool (mark_at marks t c).collected) (λ on_it. inr (gone, on_it)) (λ off. inl (e, inr (gone, off))))

-- a word that counts isn't collected
pub not_both : (slots : List Slot) (marks : List (List Mark)) (c t : ℕ) (e : Entry) → IsCounting slots marks c t → slot_at slots t ≡ Retired e → (mark_at marks t c).collected ≡ true → ⊥
not_both slots marks c t e counting gone done = grind arith

-- the same balance, of other terms for its numbers
pub moved : {row row2 : List ℕ} {total total2 held held2 adding adding2 is_adding is_adding2 : ℕ} → Balances row total held adding is_adding → row2 ≡ row → total2 ≡ total → held2 ≡ held
    → adding2 ≡ adding → is_adding2 ≡ is_adding → Balances row2 total2 held2 adding2 is_adding2
moved {row} {row2} {total} {total2} {held} {held2} {adding} {adding2} {is_adding} {is_adding2} b rows totals helds addings are_adding = grind arith

-- a reference to n is one to the entry in t
at_slot : (slots : List Slot) (t n : ℕ) (e : Entry) → IsIn e (slot_at slots t) → e.number ≡ n → ((u : ℕ) (f : Entry) → IsIn f (slot_at slots u) → f.number ≡ n → u ≡ t) → (u : ℕ) (f : Entry)
    → IsIn f (slot_at slots u) → Invariant.one_if (n == f.number) ≡ Invariant.one_if (t == u)
at_slot slots t n e is number one u f in_ = by_place (λ (k : ℕ). IsIn f (slot_at slots k) → Invariant.one_if (n == f.number) ≡ Invariant.one_if (t == k)) t u
    (λ here. one_self n f.number (sym number ∙ sym (ap (λ (g : Entry). g.number) (one_in e f (slot_at slots t) is here))) ∙ sym (one_self t t refl))
    (λ off there. one_other n f.number (λ same. off (one u f there (sym same))) ∙ sym (one_other t u (λ same. off (sym same))))
    in_

-- Events that need no length or limit

module _ {z : Settings} {slots : List Slot} {marks : List (List Mark)} {counts nets : List (List ℕ)} {totals : List ℕ} {hands : List Hand} {keeps : List (Option ℕ)} {due : Due} {locals : List LocalPlace}
    (on : CountsHold z slots marks counts nets totals hands keeps due locals) where
  -- a word that is the net count counts
  pub is_counting : (c t : ℕ) (e : Entry) → c < z.cpus → IsIn e (slot_at slots t) → count_at counts c t ≡ count_at nets c t → IsCounting slots marks c t
  is_counting c t e lt is same = either (counting_cases slots marks c t e is)
      (λ on_it. on_it)
      (λ off. absurd (omega (arith, same, on.used c t e lt is, on.emptied c t e off.0 off.1)))

  pub rebalanced : (totals2 : List ℕ) (hands2 : List Hand) (keeps2 : List (Option ℕ)) (due2 : Due) (locals2 : List LocalPlace)
      → ((t : ℕ) (e : Entry) → IsIn e (slot_at slots t) → Balances (get_or counts t []) (total_at totals2 t) (Invariant.held_at locals2 hands2 keeps2 due2 e.number t) (Invariant.addition_due_at t due2) (Invariant.is_adding_at t due2))
      → ((t : ℕ) → slot_at slots t ≡ Vacant → total_at totals2 t ≡ total_at totals t) → ((t d : ℕ) → due2 ≡ Snapshots t d → (k : ℕ) × (due ≡ Snapshots t k))
      → CountsHold z slots marks counts nets totals2 hands2 keeps2 due2 locals2
  rebalanced totals2 hands2 keeps2 due2 locals2 balances totals_stay due_was = grind arith

  -- the references held stay as many
  pub held_stays : (hands2 : List Hand) (keeps2 : List (Option ℕ)) (locals2 : List LocalPlace)
      → ((n : ℕ) → sum_by (Invariant.standing_of n) locals2 + sum_by (Invariant.in_hand n) hands2 + sum_by (Invariant.kept_of n) keeps2 ≡ sum_by (Invariant.standing_of n) locals + sum_by (Invariant.in_hand n) hands + sum_by (Invariant.kept_of n) keeps)
      → CountsHold z slots marks counts nets totals hands2 keeps2 due locals2
  held_stays hands2 keeps2 locals2 same = rebalanced totals hands2 keeps2 due locals2
      (λ t e is. moved (on.balance t e is) refl refl (omega (arith, same e.number)) refl refl)
      (λ t is. refl) (λ t d is. (d, is))

  -- a hand that holds nothing becomes another that holds nothing
  pub hand_unheld : (c : ℕ) (h k : Hand) → c < length hands → get_or hands c Empty ≡ h → ((m : ℕ) → Invariant.in_hand m h ≡ 0) → ((m : ℕ) → Invariant.in_hand m k ≡ 0)
      → CountsHold z slots marks counts nets totals (set hands c k) keeps due locals
  hand_unheld c h k lt hand before later = held_stays (set hands c k) keeps locals
      (λ m. omega (arith, hand_changed m hands c h k lt hand, before m, later m))

  pub split_ref : (c n : ℕ) → c < length hands → get_or hands c Empty ≡ Taking n
      → CountsHold z slots marks counts nets totals (set hands c Empty) keeps due (with_local locals (least_id locals) (Standing n))
  split_ref c n lt hand = held_stays (set hands c Empty) keeps (with_local locals (least_id locals) (Standing n))
      (λ m. omega (arith, hand_changed m hands c (Taking n) Empty lt hand, local_added m locals (Standing n)))

  pub join_ref : (c n id : ℕ) → c < length hands → get_or hands c Empty ≡ Empty → local_at locals id ≡ Standing n
      → CountsHold z slots marks counts nets totals (set hands c (Giving n id)) keeps due (set locals id (Lifted c))
  join_ref c n id lt hand at = held_stays (set hands c (Giving n id)) keeps (set locals id (Lifted c))
      (λ m. omega (arith, hand_changed m hands c Empty (Giving n id) lt hand, local_changed m locals id (Standing n) (Lifted c) (standing_within locals id n at) at))

  pub found_collected : (c n id : ℕ) → c < length hands → get_or hands c Empty ≡ Giving n id → CountsHold z slots marks counts nets totals (set hands c (Back n id)) keeps due locals
  found_collected c n id lt hand = held_stays (set hands c (Back n id)) keeps locals
      (λ m. omega (arith, hand_changed m hands c (Giving n id) (Back n id) lt hand))

  pub split_back : (c n id : ℕ) → c < length hands → get_or hands c Empty ≡ Back n id → local_at locals id ≡ Lifted c
      → CountsHold z slots marks counts nets totals (set hands c Empty) keeps due (set locals id (Standing n))
  split_back c n id lt hand at = held_stays (set hands c Empty) keeps (set locals id (Standing n))
      (λ m. omega (arith, hand_changed m hands c (Back n id) Empty lt hand, local_changed m locals id (Lifted c) (Standing n) (lifted_within locals id c at) at))

  pub keep : (t n id : ℕ) → t < length keeps → kept_at keeps t ≡ None → local_at locals id ≡ Standing n
      → CountsHold z slots marks counts nets totals hands (set keeps t (Some n)) due (set locals id Free)
  keep t n id lt none at = held_stays hands (set keeps t (Some n)) (set locals id Free)
      (λ m. omega (arith, kept_changed m keeps t None (Some n) lt none, local_changed m locals id (Standing n) Free (standing_within locals id n at) at))

  pub join_keeper : (t n id : ℕ) (e : Entry) → due ≡ Rest → IsIn e (slot_at slots t) → e.number ≡ n → ((u : ℕ) (f : Entry) → IsIn f (slot_at slots u) → f.number ≡ n → u ≡ t)
      → local_at locals id ≡ Standing n → CountsHold z slots marks counts nets totals hands keeps (Subtracting t) (set locals id Free)
  join_keeper t n id e rest is number one at = rebalanced totals hands keeps (Subtracting t) (set locals id Free)
      (λ u f in_. moved (on.balance u f in_) refl refl
      (omega (arith, at_slot slots t n e is number one u f in_, local_changed f.number locals id (Standing n) Free (standing_within locals id n at) at, ap (Invariant.subtraction_due_at u) rest))
      (sym (ap (Invariant.addition_due_at u) rest)) (sym (ap (Invariant.is_adding_at u) rest)))
      (λ u is. refl) (λ u d snap. absurd (let q : Subtracting t ≡ Snapshots u d = snap in cc))

  -- marks change, but not what was collected
  pub remarked : (marks2 : List (List Mark)) → ((c t : ℕ) → (mark_at marks2 t c).collected ≡ (mark_at marks t c).collected) → CountsHold z slots marks2 counts nets totals hands keeps due locals
  remarked marks2 same = grind arith

  -- one mark is written
  pub one_marked : (c t : ℕ) (m : Mark) → m.collected ≡ (mark_at marks t c).collected → CountsHold z slots (with_cell marks t c m) counts nets totals hands keeps due locals
  one_marked c t m same = grind (arith, remarked, cell_cases)

  -- what is due changes, but to no other slot's snapshots, and to no addition
  pub snapshots_go_on : (t c : ℕ) (due2 : Due) → due ≡ Snapshots t c → ((due2 ≡ Rest) ⊎ ((d : ℕ) × (due2 ≡ Snapshots t d))) → CountsHold z slots marks counts nets totals hands keeps due2 locals
  snapshots_go_on t c due2 was next = rebalanced totals hands keeps due2 locals (λ u f in_. grind (arith, next, was, on.balance u f in_)) (λ u is. refl)
      (λ u d snap. (c, grind (arith, next, was, snap)))

  pub vacate : (t : ℕ) → t < length slots → total_at totals t ≡ bias → CountsHold z (set slots t Vacant) marks counts nets totals hands keeps due locals
  vacate t lt drained =
      let old : (u : ℕ) → (u ≡ t → ⊥) → slot_at (set slots t Vacant) u ≡ slot_at slots u = λ u off. slot_other slots t Vacant u off in
      let was_in : (u : ℕ) (f : Entry) → IsIn f (slot_at (set slots t Vacant) u) → IsIn f (slot_at slots u) = λ u f in_. subst (IsIn f) (old u (not_vacated slots t u f lt in_)) in_ in
      record {
        counted = λ j u below counting. grind (arith, not_vacated slots t u counting.0 lt, old u, on.counted j u below);
        used = λ j u f below in_. on.used j u f below (was_in u f in_);
        emptied = λ j u f gone done. on.emptied j u f (sym (old u (not_vacated slots t u f lt (inr gone))) ∙ gone) done;
        beyond = on.beyond;
        limited = λ j u f in_. on.limited j u f (was_in u f in_);
        balance = λ u f in_. on.balance u f (was_in u f in_);
        vacant = grind (arith, length-set);
        fresh = on.fresh;
      }

  -- a store to a count word of a vacant slot
  pub count_store : (c t v : ℕ) → c < z.cpus → slot_at slots t ≡ Vacant → CountsHold z slots marks (with_cell counts t c v) nets totals hands keeps due locals
  count_store c t v lt vacant =
      let away : (u : ℕ) (f : Entry) → IsIn f (slot_at slots u) → u ≡ t → ⊥ = λ u f in_ same. not_vacant f (slot_at slots u) (ap (slot_at slots) same ∙ vacant) in_ in
      let old : (u j : ℕ) (f : Entry) → IsIn f (slot_at slots u) → count_at (with_cell counts t c v) j u ≡ count_at counts j u =
      λ u j f in_. cell_other 0 counts t c v u j (λ same _. away u f in_ same) in
      record {
        counted = λ j u below counting. grind (arith, on.counted j u below counting, old u j counting.0);
        used = on.used;
        emptied = λ j u f gone done. old u j f (inr gone) ∙ on.emptied j u f gone done;
        beyond = λ j u ge. cell_other 0 counts t c v u j (λ _ here. omega (arith, here, lt, ge)) ∙ on.beyond j u ge;
        limited = on.limited;
        balance = λ u f in_. moved (on.balance u f in_) (row_other counts t c v u (away u f in_)) refl refl refl refl;
        vacant = on.vacant;
        fresh = on.fresh;
      }

module _ {z : Settings} {slots : List Slot} {marks : List (List Mark)} {counts nets : List (List ℕ)} {totals : List ℕ} {hands : List Hand} {keeps : List (Option ℕ)} {due : Due} {locals : List LocalPlace}
    (on : CountsHold z slots marks counts nets totals hands keeps due locals) where
  -- the snapshot of c is taken
  pub snapshot : (c t : ℕ) (m : Mark) → due ≡ Snapshots t c → m.collected ≡ false
      → CountsHold z slots (with_cell marks t c m) counts nets totals hands keeps (cond (nat_lt (c + 1) z.cpus) (Snapshots t (c + 1)) Rest) locals
  snapshot c t m was open_ =
      snapshots_go_on (one_marked on c t m (open_ ∙ sym (on.fresh c t c was))) t c (cond (nat_lt (c + 1) z.cpus) (Snapshots t (c + 1)) Rest) was
      (cond_both (nat_lt (c + 1) z.cpus) (Snapshots t (c + 1)) Rest (λ next. (next ≡ Rest) ⊎ ((d : ℕ) × (next ≡ Snapshots t d)))
      (λ (_ : nat_lt (c + 1) z.cpus ≡ true). inr (c + 1, refl)) (λ (_ : nat_lt (c + 1) z.cpus ≡ false). inl refl))

-- and those that do

module _ {z : Settings} {slots : List Slot} {marks : List (List Mark)} {counts nets : List (List ℕ)} {totals : List ℕ} {hands : List Hand} {keeps : List (Option ℕ)} {due : Due} {locals : List LocalPlace}
    (on : CountsHold z slots marks counts nets totals hands keeps due locals) (fit : CountsFit z slots marks counts nets totals hands keeps) where
  -- no word of an occupied slot goes further than its limit
  pub are_words : (t : ℕ) (e : Entry) → IsIn e (slot_at slots t) → AreWords (get_or counts t [])
  are_words t e is = (
    (in_rows slots counts fit.slot_length fit.count_length fit.count_rows t e is).1,
    λ c. either (cases_lt c z.cpus)
        (λ lt. either (counting_cases slots marks c t e is)
        (λ on_it. omega (arith, (on.counted c t lt on_it).0, on.limited c t e is, fit.limit))
        (λ off. omega (arith, on.emptied c t e off.0 off.1)))
        (λ ge. omega (arith, on.beyond c t ge)),
  )

  pub total_sub : (t : ℕ) (e : Entry) → due ≡ Subtracting t → IsIn e (slot_at slots t) → CountsHold z slots marks counts nets (set totals t (total_at totals t - 1)) hands keeps Rest locals
  total_sub t e was is =
      let lt : t < length totals = omega (arith, in_within slots t e is, fit.slot_length, fit.total_length) in
      rebalanced on (set totals t (total_at totals t - 1)) hands keeps Rest locals
      (λ u f in_. by_place (λ (k : ℕ). IsIn f (slot_at slots k) → Balances (get_or counts k []) (total_at (set totals t (total_at totals t - 1)) k) (Invariant.held_at locals hands keeps Rest f.number k) 0 0) t u
      (λ here. moved
      (subtracted (get_or counts t []) (total_at totals t) (Invariant.held_at locals hands keeps Rest f.number t) (are_words t f here)
      (moved (on.balance t f here) refl refl (omega (arith, ap (Invariant.subtraction_due_at t) was, one_self t t refl)) (sym (ap (Invariant.addition_due_at t) was)) (sym (ap (Invariant.is_adding_at t) was))))
      refl (total_here totals t (total_at totals t - 1) lt) refl refl refl)
      (λ off there. moved (on.balance u f there) refl (total_other totals t (total_at totals t - 1) u off) (omega (arith, ap (Invariant.subtraction_due_at u) was, one_other t u (λ same. off (sym same))))
      (sym (ap (Invariant.addition_due_at u) was)) (sym (ap (Invariant.is_adding_at u) was)))
      in_)
      (λ u vacant. total_other totals t (total_at totals t - 1) u (λ same. not_vacant e (slot_at slots t) (ap (slot_at slots) (sym same) ∙ vacant) is))
      (λ u d snap. absurd (let q : Rest ≡ Snapshots u d = snap in cc))

  pub total_add : (t old : ℕ) (e : Entry) → due ≡ Adding t old → IsIn e (slot_at slots t)
      → CountsHold z slots marks counts nets (set totals t (total_at totals t + old - bias)) hands keeps Rest locals
  total_add t old e was is =
      let lt : t < length totals = omega (arith, in_within slots t e is, fit.slot_length, fit.total_length) in
      let v : ℕ = total_at totals t + old - bias in
      rebalanced on (set totals t v) hands keeps Rest locals
      (λ u f in_. by_place (λ (k : ℕ). IsIn f (slot_at slots k) → Balances (get_or counts k []) (total_at (set totals t v) k) (Invariant.held_at locals hands keeps Rest f.number k) 0 0) t u
      (λ here. moved
      (added (get_or counts t []) (total_at totals t) (Invariant.held_at locals hands keeps Rest f.number t) old (are_words t f here)
      (moved (on.balance t f here) refl refl (omega (arith, ap (Invariant.subtraction_due_at t) was))
      (sym (ap (Invariant.addition_due_at t) was ∙ ap (λ (b : Bool). cond b old 0) (eq-eqb t t refl))) (sym (ap (Invariant.is_adding_at t) was ∙ one_self t t refl))))
      refl (total_here totals t v lt) refl refl refl)
      (λ off there. moved (on.balance u f there) refl (total_other totals t v u off) (omega (arith, ap (Invariant.subtraction_due_at u) was))
      (sym (ap (Invariant.addition_due_at u) was ∙ ap (λ (b : Bool). cond b old 0) (ne_eqb t u (λ same. off (sym same))))) (sym (ap (Invariant.is_adding_at u) was ∙ one_other t u (λ same. off (sym same)))))
      in_)
      (λ u vacant. total_other totals t v u (λ same. not_vacant e (slot_at slots t) (ap (slot_at slots) (sym same) ∙ vacant) is))
      (λ u d snap. absurd (let q : Rest ≡ Snapshots u d = snap in cc))

  -- a word that counts and its net count change alike
  pub recounted : (c t w v : ℕ) (e : Entry) (hands2 : List Hand) (locals2 : List LocalPlace) → c < z.cpus → IsIn e (slot_at slots t) → IsCounting slots marks c t → w ≡ v → 0 < w
      → v ≤ bias + z.count_limit → Balances (set (get_or counts t []) c w) (total_at totals t) (Invariant.held_at locals2 hands2 keeps due e.number t) (Invariant.addition_due_at t due) (Invariant.is_adding_at t due)
      → ((u : ℕ) (f : Entry) → (u ≡ t → ⊥) → IsIn f (slot_at slots u) → Invariant.held_at locals2 hands2 keeps due f.number u ≡ Invariant.held_at locals hands keeps due f.number u)
      → CountsHold z slots marks (with_cell counts t c w) (with_cell nets t c v) totals hands2 keeps due locals2
  recounted c t w v e hands2 locals2 lt is counting same some most balances others =
      let cs = in_rows slots counts fit.slot_length fit.count_length fit.count_rows t e is in
      let ns = in_rows slots nets fit.slot_length fit.net_length fit.net_rows t e is in
      let cl : c < length (get_or counts t []) = omega (arith, cs.1, lt, fit.cpu_limit) in
      let nl : c < length (get_or nets t []) = omega (arith, ns.1, lt, fit.cpu_limit) in
      let count : count_at (with_cell counts t c w) c t ≡ w = cell_here 0 counts t c w cs.0 cl in
      let net : count_at (with_cell nets t c v) c t ≡ v = cell_here 0 nets t c v ns.0 nl in
      let counts_old : (u j : ℕ) → (u ≡ t → j ≡ c → ⊥) → count_at (with_cell counts t c w) j u ≡ count_at counts j u = λ u j off. cell_other 0 counts t c w u j off in
      let nets_old : (u j : ℕ) → (u ≡ t → j ≡ c → ⊥) → count_at (with_cell nets t c v) j u ≡ count_at nets j u = λ u j off. cell_other 0 nets t c v u j off in
      record {
        counted = grind arith;
        used = λ j u f below in_. grind (arith, cases_eq u t, cases_eq j c, on.used j u f below in_, nets_old u j, net, same, some);
        emptied = grind (arith, not_both);
        beyond = λ j u ge. counts_old u j (λ _ here. omega (arith, here, lt, ge)) ∙ on.beyond j u ge;
        limited = λ j u f in_. grind (arith, cases_eq u t, cases_eq j c, on.limited j u f in_, nets_old u j, net, most);
        balance = λ u f in_. by_place (λ x. IsIn f (slot_at slots x)
            → Balances (get_or (with_cell counts t c w) x []) (total_at totals x) (Invariant.held_at locals2 hands2 keeps due f.number x) (Invariant.addition_due_at x due) (Invariant.is_adding_at x due)) t u
            (λ here. moved balances (row_here counts t c w cs.0) refl (ap (λ (g : Entry). Invariant.held_at locals2 hands2 keeps due g.number t) (one_in e f (slot_at slots t) is here)) refl refl)
            (λ off there. moved (on.balance u f there) (row_other counts t c w u off) refl (others u f off there) refl refl)
            in_;
        vacant = on.vacant;
        fresh = on.fresh;
      }

  -- one reference more
  pub count_add : (c t n : ℕ) (e : Entry) → c < z.cpus → IsIn e (slot_at slots t) → e.number ≡ n → ((u : ℕ) (f : Entry) → IsIn f (slot_at slots u) → f.number ≡ n → u ≡ t)
      → IsCounting slots marks c t → get_or hands c Empty ≡ Empty → count_at nets c t < bias + z.count_limit
      → CountsHold z slots marks (with_cell counts t c (count_at counts c t + 1)) (with_cell nets t c (count_at nets c t + 1)) totals (set hands c (Taking n)) keeps due locals
  count_add c t n e lt is number one counting hand less =
      let was = on.counted c t lt counting in
      let cs = in_rows slots counts fit.slot_length fit.count_length fit.count_rows t e is in
      let hl : c < length hands = omega (arith, lt, fit.hand_length) in
      recounted c t (count_at counts c t + 1) (count_at nets c t + 1) e (set hands c (Taking n)) locals lt is counting (omega (arith, was.0)) (omega arith) (omega (arith, less))
      (moved (counted_up (get_or counts t []) _ _ _ _ c (count_at counts c t) (omega (arith, cs.1, lt, fit.cpu_limit)) refl was.1 (on.balance t e is)) refl refl
      (omega (arith, hand_changed e.number hands c Empty (Taking n) hl hand, one_self n e.number (sym number))) refl refl)
      (λ u f off in_. omega (arith, hand_changed f.number hands c Empty (Taking n) hl hand, one_other n f.number (λ here. off (one u f in_ (sym here)))))

  -- one less
  pub count_down : (c t n id : ℕ) (e : Entry) → c < z.cpus → IsIn e (slot_at slots t) → e.number ≡ n → ((u : ℕ) (f : Entry) → IsIn f (slot_at slots u) → f.number ≡ n → u ≡ t)
      → IsCounting slots marks c t → get_or hands c Empty ≡ Giving n id → local_at locals id ≡ Lifted c
      → CountsHold z slots marks (with_cell counts t c (count_at counts c t - 1)) (with_cell nets t c (count_at nets c t - 1)) totals (set hands c Empty) keeps due (set locals id Free)
  count_down c t n id e lt is number one counting hand at =
      let was = on.counted c t lt counting in
      let cs = in_rows slots counts fit.slot_length fit.count_length fit.count_rows t e is in
      let hl : c < length hands = omega (arith, lt, fit.hand_length) in
      let ll = lifted_within locals id c at in
      let floor = word_floor (get_or counts t []) _ _ _ _ c (are_words t e is) (omega (arith, lt, fit.cpu_limit)) was.1 (on.balance t e is) in
      let far : 1 < count_at counts c t = omega (arith, floor) in
      let changed : Invariant.held_at locals hands keeps due e.number t ≡ Invariant.held_at (set locals id Free) (set hands c Empty) keeps due e.number t + 1
      = omega (arith, hand_changed e.number hands c (Giving n id) Empty hl hand, local_changed e.number locals id (Lifted c) Free ll at, one_self n e.number (sym number)) in
      recounted c t (count_at counts c t - 1) (count_at nets c t - 1) e (set hands c Empty) (set locals id Free) lt is counting (omega (arith, was.0)) (omega (arith, far))
      (omega (arith, on.limited c t e is))
      (counted_down (get_or counts t []) _ _ _ _ c (count_at counts c t) (omega (arith, cs.1, lt, fit.cpu_limit)) refl far (moved (on.balance t e is) refl refl (sym changed) refl refl))
      (λ u f off in_.
      omega (arith, hand_changed f.number hands c (Giving n id) Empty hl hand, local_changed f.number locals id (Lifted c) Free ll at, one_other n f.number (λ here. off (one u f in_ (sym here)))))

  -- a word is swapped for 0
  pub collect : (c t : ℕ) (e : Entry) → c < z.cpus → due ≡ Rest → slot_at slots t ≡ Retired e → (mark_at marks t c).collected ≡ false
      → CountsHold z slots (with_cell marks t c (mark_after_collect (mark_at marks t c))) (with_cell counts t c 0) nets totals hands keeps (Adding t (count_at counts c t)) locals
  collect c t e lt rest gone open_ =
      let is : IsIn e (slot_at slots t) = inr gone in
      let counting : IsCounting slots marks c t = (e, inr (gone, open_)) in
      let m : Mark = mark_after_collect (mark_at marks t c) in
      let w : ℕ = count_at counts c t in
      let was = on.counted c t lt counting in
      let words = are_words t e is in
      let cs = in_rows slots counts fit.slot_length fit.count_length fit.count_rows t e is in
      let cl : c < length (get_or counts t []) = omega (arith, cs.1, lt, fit.cpu_limit) in
      let tm : t < length marks = omega (arith, in_within slots t e is, fit.slot_length, fit.mark_length) in
      let ml : c < length (get_or marks t []) = omega (arith, fit.mark_rows t tm, lt, fit.cpu_limit) in
      let mark : mark_at (with_cell marks t c m) t c ≡ m = cell_here no_mark marks t c m tm ml in
      let marks_old : (u j : ℕ) → (u ≡ t → j ≡ c → ⊥) → mark_at (with_cell marks t c m) u j ≡ mark_at marks u j = λ u j off. cell_other no_mark marks t c m u j off in
      let counts_old : (u j : ℕ) → (u ≡ t → j ≡ c → ⊥) → count_at (with_cell counts t c 0) j u ≡ count_at counts j u = λ u j off. cell_other 0 counts t c 0 u j off in
      let a_word : (x : ℕ) → Invariant.addition_due_at x (Adding t w) ≡ cond (t == x) w 0 = λ x. refl in
      record {
        counted = λ j u below there. grind (arith, cases_eq u t, cases_eq j c, on.counted j u below, marks_old u j, counts_old u j, mark, not_both slots (with_cell marks t c m) c t e);
        used = on.used;
        emptied = grind (arith, cell_here);
        beyond = λ j u ge. counts_old u j (λ _ here. omega (arith, here, lt, ge)) ∙ on.beyond j u ge;
        limited = on.limited;
        balance = λ u f in_. by_place (λ x. IsIn f (slot_at slots x)
            → Balances (get_or (with_cell counts t c 0) x []) (total_at totals x) (Invariant.held_at locals hands keeps (Adding t w) f.number x) (Invariant.addition_due_at x (Adding t w)) (Invariant.is_adding_at x (Adding t w))) t u
            (λ here. moved
            (word_collected (get_or counts t []) (total_at totals t) (Invariant.held_at locals hands keeps (Adding t w) f.number t) c w cl refl was.1 (words.1 c)
            (moved (on.balance t f here) refl refl (omega (arith, ap (Invariant.subtraction_due_at t) rest)) (sym (ap (Invariant.addition_due_at t) rest)) (sym (ap (Invariant.is_adding_at t) rest))))
            (row_here counts t c 0 cs.0) refl refl (ap (λ (b : Bool). cond b w 0) (eq-eqb t t refl)) (one_self t t refl))
            (λ off there. moved (on.balance u f there) (row_other counts t c 0 u off) refl (omega (arith, ap (Invariant.subtraction_due_at u) rest))
            (ap (λ (b : Bool). cond b w 0) (ne_eqb t u (λ here. off (sym here))) ∙ sym (ap (Invariant.addition_due_at u) rest)) (one_other t u (λ here. off (sym here)) ∙ sym (ap (Invariant.is_adding_at u) rest)))
            in_;
        vacant = on.vacant;
        fresh = λ j u d snap. absurd (let q : Adding t w ≡ Snapshots u d = snap in cc);
      }

  pub publish : (t : ℕ) (e : Entry) → t < length slots → slot_at slots t ≡ Vacant → due ≡ Rest → ((c : ℕ) → c < z.cpus → count_at counts c t ≡ bias) → Invariant.held_at locals hands keeps due e.number t ≡ 0
      → CountsHold z (set slots t (Live e)) marks counts (set nets t (replicate MOST_CPUS bias)) totals hands keeps due locals
  publish t e lt vacant rest words none =
      let tn : t < length nets = omega (arith, lt, fit.slot_length, fit.net_length) in
      let tc : t < length counts = omega (arith, lt, fit.slot_length, fit.count_length) in
      let here : slot_at (set slots t (Live e)) t ≡ Live e = slot_here slots t (Live e) lt in
      let is : IsIn e (slot_at (set slots t (Live e)) t) = inl here in
      let net_new : (j : ℕ) → count_at (set nets t (replicate MOST_CPUS bias)) j t ≡ get_or (replicate MOST_CPUS bias) j 0 = λ j. cell_in_new 0 nets t (replicate MOST_CPUS bias) j tn in
      let net_old : (u j : ℕ) → (u ≡ t → ⊥) → count_at (set nets t (replicate MOST_CPUS bias)) j u ≡ count_at nets j u = λ u j off. cell_in_old 0 nets t (replicate MOST_CPUS bias) u j off in
      let slot_old : (u : ℕ) → (u ≡ t → ⊥) → slot_at (set slots t (Live e)) u ≡ slot_at slots u = λ u off. slot_other slots t (Live e) u off in
      let biased : (j : ℕ) → j < z.cpus → get_or (replicate MOST_CPUS bias) j 0 ≡ bias = λ j below. get_or-replicate MOST_CPUS j bias 0 (omega (arith, below, fit.cpu_limit)) in
      record {
        counted = λ j u below counting. grind (arith, cases_eq u t, on.counted j u below, slot_old u, net_old u j, net_new j, biased j below, words j below);
        used = λ j u f below in_. grind (arith, cases_eq u t, on.used j u f below, slot_old u, net_old u j, net_new j, biased j below);
        emptied = grind arith;
        beyond = on.beyond;
        limited = λ j u f in_. grind (arith, cases_eq u t, on.limited j u f, slot_old u, net_old u j, net_new j, at_most j);
        balance = λ u f in_. by_place (λ x. IsIn f (slot_at (set slots t (Live e)) x)
            → Balances (get_or counts x []) (total_at totals x) (Invariant.held_at locals hands keeps due f.number x) (Invariant.addition_due_at x due) (Invariant.is_adding_at x due)) t u
            (λ there. moved (published (get_or counts t []) (fit.count_rows t tc) (λ j. either (cases_lt j z.cpus)
            (λ below. inr (words j below))
            (λ ge. inl (on.beyond j t ge))))
            refl (on.vacant t lt vacant) (ap (λ (g : Entry). Invariant.held_at locals hands keeps due g.number t) (one_in e f (slot_at (set slots t (Live e)) t) is there) ∙ none) (ap (Invariant.addition_due_at t) rest)
            (ap (Invariant.is_adding_at t) rest))
            (λ off there. on.balance u f (subst (IsIn f) (slot_old u off) there))
            in_;
        vacant = grind (arith, length-set);
        fresh = on.fresh;
      }
    where
      at_most : (j : ℕ) → get_or (replicate MOST_CPUS bias) j 0 ≤ bias
      at_most j = grind (arith, cases_lt j MOST_CPUS, get_or-replicate MOST_CPUS j bias 0, get_or_past (replicate MOST_CPUS bias) j 0, length-replicate MOST_CPUS bias)

  pub unpublish : (t : ℕ) (e : Entry) → due ≡ Rest → slot_at slots t ≡ Live e
      → CountsHold z (set slots t (Retired e)) (set marks t (replicate MOST_CPUS no_mark)) counts nets totals hands keeps (Snapshots t 0) locals
  unpublish t e rest live =
      let is : IsIn e (slot_at slots t) = inl live in
      let lt = in_within slots t e is in
      let tm : t < length marks = omega (arith, lt, fit.slot_length, fit.mark_length) in
      let here : slot_at (set slots t (Retired e)) t ≡ Retired e = slot_here slots t (Retired e) lt in
      let marks2 : List (List Mark) = set marks t (replicate MOST_CPUS no_mark) in
      let mark_new : (j : ℕ) → mark_at marks2 t j ≡ no_mark = λ j. cell_in_new no_mark marks t (replicate MOST_CPUS no_mark) j tm ∙ get_or_all MOST_CPUS no_mark j in
      let mark_old : (u j : ℕ) → (u ≡ t → ⊥) → mark_at marks2 u j ≡ mark_at marks u j = λ u j off. cell_in_old no_mark marks t (replicate MOST_CPUS no_mark) u j off in
      let slot_old : (u : ℕ) → (u ≡ t → ⊥) → slot_at (set slots t (Retired e)) u ≡ slot_at slots u = λ u off. slot_other slots t (Retired e) u off in
      let was_in : (u : ℕ) (f : Entry) → IsIn f (slot_at (set slots t (Retired e)) u) → IsIn f (slot_at slots u) =
      λ u f in_. grind (arith, cases_eq u t, slot_old u, here, live) in
      record {
        counted = grind arith;
        used = λ j u f below in_. on.used j u f below (was_in u f in_);
        emptied = grind arith;
        beyond = on.beyond;
        limited = λ j u f in_. on.limited j u f (was_in u f in_);
        balance = λ u f in_. moved (on.balance u f (was_in u f in_)) refl refl (omega (arith, ap (Invariant.subtraction_due_at u) rest)) (sym (ap (Invariant.addition_due_at u) rest)) (sym (ap (Invariant.is_adding_at u) rest));
        vacant = grind (arith, length-set);
        fresh = grind arith;
      }

  -- an interface's slot is vacant, and the reference that it kept to the driver in u is subtracted
  pub kept_sub : (t u n : ℕ) (e : Entry) → t < length slots → (t ≡ u → ⊥) → due ≡ Rest → kept_at keeps t ≡ Some n → IsIn e (slot_at slots u) → e.number ≡ n
      → ((v : ℕ) (f : Entry) → IsIn f (slot_at slots v) → f.number ≡ n → v ≡ u) → total_at totals t ≡ bias
      → CountsHold z (set slots t Vacant) marks counts nets (set totals u (total_at totals u - 1)) hands (set keeps t None) due locals
  kept_sub t u n e lt apart rest kept is number one drained =
      let lu : u < length totals = omega (arith, in_within slots u e is, fit.slot_length, fit.total_length) in
      let lk : t < length keeps = omega (arith, lt, fit.slot_length, fit.keep_length) in
      let v : ℕ = total_at totals u - 1 in
      vacate (rebalanced on (set totals u v) hands (set keeps t None) due locals
      (λ x f in_. by_place (λ (k : ℕ). IsIn f (slot_at slots k) → Balances (get_or counts k []) (total_at (set totals u v) k) (Invariant.held_at locals hands (set keeps t None) due f.number k)
      (Invariant.addition_due_at k due) (Invariant.is_adding_at k due)) u x
      (λ here.
      let same : n ≡ f.number = sym number ∙ sym (ap (λ (g : Entry). g.number) (one_in e f (slot_at slots u) is here)) in
      moved (subtracted (get_or counts u []) (total_at totals u) (Invariant.held_at locals hands (set keeps t None) due f.number u) (are_words u f here)
      (moved (on.balance u f here) refl refl (omega (arith, kept_changed f.number keeps t (Some n) None lk kept, one_self n f.number same)) (sym (ap (Invariant.addition_due_at u) rest))
      (sym (ap (Invariant.is_adding_at u) rest))))
      refl (total_here totals u v lu) refl (ap (Invariant.addition_due_at u) rest) (ap (Invariant.is_adding_at u) rest))
      (λ off there. moved (on.balance x f there) refl (total_other totals u v x off)
      (omega (arith, kept_changed f.number keeps t (Some n) None lk kept, one_other n f.number (λ same. off (one x f there (sym same))))) refl refl)
      in_)
      (λ x vacant. total_other totals u v x (λ same. not_vacant e (slot_at slots u) (ap (slot_at slots) (sym same) ∙ vacant) is))
      (λ x d snap. (d, snap)))
      t lt (total_other totals u v t apart ∙ drained)

-- all slots are vacant
pub opening : (z : Settings) → CountsHold z (replicate z.slots Vacant) (replicate z.slots (replicate MOST_CPUS no_mark)) (replicate z.slots (replicate MOST_CPUS 0))
    (replicate z.slots (replicate MOST_CPUS 0)) (replicate z.slots bias) (replicate z.cpus Empty) (replicate z.slots None) Rest []
opening z =
    let none : (t : ℕ) (e : Entry) → IsIn e (slot_at (replicate z.slots Vacant) t) → ⊥ = λ t e is. not_vacant e (slot_at (replicate z.slots Vacant) t) (get_or_all z.slots Vacant t) is in
    record {
      counted = λ c t lt counting. absurd (none t counting.0 (either counting.1 (λ live. inl live) (λ back. inr back.0)));
      used = λ c t e lt is. absurd (none t e is);
      emptied = λ c t e is done. absurd (none t e (inr is));
      beyond = λ c t ge. cell_all {X = ℕ} z.slots MOST_CPUS 0 t c;
      limited = λ c t e is. absurd (none t e is);
      balance = λ t e is. absurd (none t e is);
      vacant = λ t lt is. get_or-replicate z.slots t bias 0 (omega (arith, lt, length-replicate {A = Slot} z.slots Vacant));
      fresh = λ c t d snap. absurd (let q : Rest ≡ Snapshots t d = snap in cc);
    }
