-- What an audit says is held of an entry are the local references held to it, by the balance of its slot in the state that shows the views.
use Rattle.std.proofs.Common.{◌≡◌, inl, inr, ⊎_elim, ℕ, zero, suc, ◌+◌, ◌*◌, ◌<◌, ◌≤◌, ◌&&◌, ℤ, pos, ◌+ℤ◌, List, [], ◌∷◌, Some, length, get_or, fold, cond, sum_by, Bool, true, false, refl, sym, ap, ◌∙◌, subst, arith}
use Rattle.std.proofs.lemmas.Int.{ints}
use Rattle.std.proofs.lemmas.List.Sums.{sum_by-cons}
use mathlib.Core.Option.{some}
use lib.ListN.{get_elem?}
use Rattle.name_registry.specs.Types.{Entry, Mark, Settings, Slot, Live, Retired}
use Rattle.registry_values.specs.Common.{bias, is_retired, slot_at}
use Rattle.protocol.specs.Common.{IsCounting, IsIn, itself, one_if_used, State, count_at, mark_at, total_at, number_in, BalancesAtRest, held_of, occupant_of}
use Rattle.protocol.proofs.counts.Sums.{words-at-zero}
use Rattle.cpu_words.proofs.by_keeper.KeeperSteps.{seen_by_keeper}
use Rattle.passive_list.specs.Common.{OnCpu, OnKeeper}
use Rattle.name_registry.specs.Common.{AreAllCpus, AreShown, IsKeeperOf, acquired_of, is_collected, local_of, locals_of, net_of, released_of, tally_of}

-- what a CPU's count word w says: its local count, over the bias where the word is in use
abbrev Says : OnKeeper → ℕ → ℕ → ℕ → OnCpu → Type 0
Says k t n w x = local_of k t n x +ℤ pos (bias * one_if_used w) ≡ pos w

says_none : (k : OnKeeper) (t n w : ℕ) (x : OnCpu) → is_collected k t x.view.id ≡ true → w ≡ 0 → Says k t n w x
says_none k t n w x collected none =
    let local : local_of k t n x ≡ pos 0 = ap (λ b. cond b (pos 0) (net_of n x)) collected in
    let unused : one_if_used w ≡ 0 = ap one_if_used none in
    omega (arith, ints, local, unused, none)

says_net : (k : OnKeeper) (t n w : ℕ) (x : OnCpu) → is_collected k t x.view.id ≡ false → 0 < w → w + released_of n x ≡ bias + acquired_of n x → Says k t n w x
says_net k t n zero x kept used net = absurd (omega (arith, used))
says_net k t n (suc w) x kept used net =
    let local : local_of k t n x ≡ net_of n x = ap (λ b. cond b (pos 0) (net_of n x)) kept in
    let one : one_if_used (suc w) ≡ 1 = refl in
    omega (arith, ints, local, one, net)

sums : (k : OnKeeper) (t n : ℕ) (ws : List ℕ) (xs : List OnCpu) (a : ℤ) → ((c : ℕ) (x : OnCpu) → get_elem? xs c ≡ some x → Says k t n (get_or ws c 0) x) → ((c : ℕ) → length xs ≤ c → get_or ws c 0 ≡ 0)
    → fold ◌+ℤ◌ a (locals_of k xs t n) +ℤ pos (bias * sum_by one_if_used ws) ≡ a +ℤ pos (sum_by itself ws)
sums k t n ws [] a each past = let none = words-at-zero ws (λ c. past c (omega arith)) in omega (arith, ints, none.0, none.1)
sums k t n [] (x ∷ xs) a each past =
    let rest = sums k t n [] xs (a +ℤ local_of k t n x) (λ c y at. each (suc c) y at) (λ c le. refl) in
    let one = each 0 x refl in
    omega (arith, ints, rest, one)
sums k t n (w ∷ ws) (x ∷ xs) a each past =
    let rest = sums k t n ws xs (a +ℤ local_of k t n x) (λ c y at. each (suc c) y at) (λ c le. past (suc c) (omega (arith, le))) in
    let one = each 0 x refl in
    omega (arith, ints, rest, one, sum_by-cons itself w ws, sum_by-cons one_if_used w ws)

-- in a state that shows the views, each CPU's word says its local count

module _ (a : Settings) (k : OnKeeper) (xs : List OnCpu) (g : State) (t : ℕ) (e : Entry) (shown : AreShown g k xs) (rest : BalancesAtRest g) where
  counting : (c : ℕ) (x : OnCpu) → get_elem? xs c ≡ some x → x.view.id ≡ c → IsIn e (slot_at g.slots t) → IsCounting g.slots g.marks c t → is_collected k t x.view.id ≡ false
      → Says k t e.number (count_at g.counts c t) x
  counting c x at id here counts kept =
      let word = rest.counted c t (omega (arith, (shown.cpus c x at).seated, shown.good.holds.seats.within, id)) counts in
      let net = (shown.cpus c x at).nets t e here in
      says_net k t e.number (count_at g.counts c t) x kept word.1 (subst (λ m. m + released_of e.number x ≡ bias + acquired_of e.number x) (ap (λ i. count_at g.nets i t) id ∙ sym word.0) net)

  says_live : slot_at k.slots t ≡ Live e → slot_at g.slots t ≡ Live e → (c : ℕ) (x : OnCpu) → get_elem? xs c ≡ some x → x.view.id ≡ c → Says k t e.number (count_at g.counts c t) x
  says_live live here c x at id = counting c x at id (inl here) (e, inl here) (ap (λ (y : Slot). is_retired y && (mark_at k.view.marks t x.view.id).collected) live)

  says_retired : slot_at k.slots t ≡ Retired e → slot_at g.slots t ≡ Retired e → (c : ℕ) (x : OnCpu) → get_elem? xs c ≡ some x → x.view.id ≡ c → Says k t e.number (count_at g.counts c t) x
  says_retired gone here c x at id = by (mark_at g.marks t c).collected refl
    where
      marks : (mark_at k.view.marks t x.view.id).collected ≡ (mark_at g.marks t c).collected
      marks = ap (λ i. (mark_at k.view.marks t i).collected) id ∙ ap (λ (y : List (List Mark)). (mark_at y t c).collected) (seen_by_keeper g k.view shown.good shown.keeper).marks

      is : is_collected k t x.view.id ≡ (mark_at g.marks t c).collected
      is = ap (λ (y : Slot). is_retired y && (mark_at k.view.marks t x.view.id).collected) gone ∙ marks

      by : (b : Bool) → (mark_at g.marks t c).collected ≡ b → Says k t e.number (count_at g.counts c t) x
      by true set = says_none k t e.number (count_at g.counts c t) x (is ∙ set) (shown.good.holds.balance.emptied c t e here set)
      by false unset = counting c x at id (inr here) (e, inr (here, unset)) (is ∙ unset)

  held_by : AreAllCpus a.cpus xs → a.cpus ≡ g.settings.cpus → total_at k.view.totals t ≡ total_at g.totals t → occupant_of g t ≡ Some e.number
      → ((c : ℕ) (x : OnCpu) → get_elem? xs c ≡ some x → x.view.id ≡ c → Says k t e.number (count_at g.counts c t) x) → (tally_of k xs e.number t).held ≡ pos (held_of g e.number)
  held_by all cpus total occupied each =
      let sum = sums k t e.number (get_or g.counts t []) xs (pos 0) (λ c x at. each c x at (all.each c x at)) (λ c le. rest.beyond c t (omega (arith, le, all.count, cpus))) in
      omega (arith, ints, sum, rest.balanced t e.number occupied, total)

-- what is held of an entry of the keeper's are the references held to it
pub references_held : (a : Settings) (k : OnKeeper) (xs : List OnCpu) (g : State) (t : ℕ) (e : Entry) → IsKeeperOf a k → AreAllCpus a.cpus xs → AreShown g k xs → BalancesAtRest g
    → IsIn e (slot_at k.slots t)
    → (tally_of k xs e.number t).held ≡ pos (held_of g e.number)
references_held a k xs g t e known all shown rest is =
    let seen = seen_by_keeper g k.view shown.good shown.keeper in
    let cpus : a.cpus ≡ g.settings.cpus = ap (λ (z : Settings). z.cpus) (sym known.view.settings ∙ seen.settings) in
    let total = ap (λ (y : List ℕ). total_at y t) seen.totals in
    let at_g : slot_at k.view.slots t ≡ slot_at g.slots t = ap (λ (y : List Slot). slot_at y t) seen.slots in
    ⊎_elim
    (λ (live : slot_at k.slots t ≡ Live e).
    let here : slot_at g.slots t ≡ Live e = sym at_g ∙ (known.slots t ∙ live) in
    held_by a k xs g t e shown rest all cpus total (ap number_in here) (says_live a k xs g t e shown rest live here))
    (λ (gone : slot_at k.slots t ≡ Retired e).
    let here : slot_at g.slots t ≡ Retired e = sym at_g ∙ (known.slots t ∙ gone) in
    held_by a k xs g t e shown rest all cpus total (ap number_in here) (says_retired a k xs g t e shown rest gone here))
    is
