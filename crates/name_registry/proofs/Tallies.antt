-- What an audit says is held of an entry is its tally: by any state that shows the views, by the log, and at rest by the balance of its slot.
use Rattle.std.proofs.Common.{◌≡◌, ◌≢◌, inl, inr, ⊎_elim, ℕ, zero, suc, ◌+◌, ◌*◌, ◌≤◌, ◌&&◌, ℤ, pos, ◌+ℤ◌, List, [], ◌∷◌, length, get_or, map, fold, cond, sum_by, Bool, true, false, Some, refl, sym, ap, ◌∙◌, subst, arith, ◌-ℤ◌, if◌then◌else◌, ◌++◌, Option}
use Rattle.std.specs.List.{All, zip}
use Rattle.std.proofs.lemmas.Bool.{eq-eqb, ne_eqb, false≢true}
use Rattle.std.proofs.lemmas.Int.{ints}
use Rattle.std.proofs.lemmas.Option.{none-some, same_Some}
use Rattle.std.proofs.lemmas.List.Sums.{sum_by-cons}
use mathlib.Core.Logic.{dite}
use mathlib.Core.Option.{some}
use native.Mathlib.Decide.{ℕ_discrete}
use lib.ListN.{get_elem?}
use Rattle.atomic_table.specs.Seated.{TableId}
use Rattle.name_registry.specs.Types.{Balance, Entry, Settings, Rest, Mark, Slot, Vacant, Live, Retired, KeeperView, LogItem, Change, KeptSlot, Cpu, Keeper, Due}
use Rattle.registry_values.specs.Common.{Tally, tally_shown, bias, is_retired, slot_at, no_mark, less_bias}
use Rattle.protocol.specs.Common.{IsIn, addition_due_at, is_adding_at, subtraction_due_at, State, mark_at, count_at, total_at, at_rest, opening, after, held_of, held_at, itself, one_if_used}
use Rattle.protocol.proofs.Occupied.{in_within}
use Rattle.cpu_words.specs.Common.{IsPlaceCount, number_at, collected_net, collected_one, CpuShown, KeeperShown, Good, with_note, keeper_with_note, AreCountsOf, is_drawn, occupant_of, word_if, given_up, sum_collected, words_collected, occupant, RunsLawfully}
use Rattle.cpu_words.proofs.by_cpu.Locals.{place_is}
use Rattle.cpu_words.proofs.by_keeper.KeeperSteps.{seen_by_keeper, SeenByKeeper}
use Rattle.cpu_words.proofs.logs.Totalled.{given_by_log}
use Rattle.cpu_words.proofs.laws.Safety.{runs_lawfully}
use Rattle.passive_list.specs.Common.{OnCpu, IsOurKeeper, OnKeeper, OnPlainKeeper, on_keeper}
use Rattle.passive_list.proofs.Rows.{slots_agree}
use Rattle.name_registry.specs.Common.{AreAllCpus, AreAlike, AreShown, IsAuditOf, IsKeeperOf, IsTallied, acquired_of, is_collected, local_by, local_met, local_of, locals_of, net_met, net_of, released_of, tallies_met, tally, tally_by, tally_met, tally_of, IsAuditBy, audited, audited_at, audited_below, each_at, local_in, net_unless, tallies_below, tally_in, total_in, counts_of}
use Rattle.name_registry.specs.Auditing
use Rattle.name_registry.proofs.Audits.{all_met, each_same}
use Rattle.name_registry.proofs.Held.{references_held}

-- The sum over the CPUs

-- what the keeper has of one CPU: its mark, and its net count
abbrev nothing : Mark × ℕ
nothing = (no_mark, 0)

-- the pair says whether the CPU's word was collected, and the net count that was
record IsDrawn (k : OnKeeper) (t n : ℕ) (p : Mark × ℕ) (x : OnCpu) : Type 0 where
  mark : is_collected k t x.view.id ≡ p.0.collected
  net : p.0.collected ≡ true → p.1 + released_of n x ≡ bias + acquired_of n x

-- what is local and what was collected is what the CPU acquired less what it released
one_cpu : (k : OnKeeper) (t n : ℕ) (p : Mark × ℕ) (x : OnCpu) → IsDrawn k t n p x → local_of k t n x +ℤ pos (collected_net p + released_of n x) ≡ pos (acquired_of n x + bias * collected_one p)
one_cpu k t n p x drawn = by p.0.collected refl
  where
    by : (b : Bool) → p.0.collected ≡ b → local_of k t n x +ℤ pos (collected_net p + released_of n x) ≡ pos (acquired_of n x + bias * collected_one p)
    by true is =
        let local : local_of k t n x ≡ pos 0 = ap (λ b. cond b (pos 0) (net_of n x)) (drawn.mark ∙ is) in
        let net : collected_net p ≡ p.1 = ap (λ b. cond b p.1 0) is in
        let one : collected_one p ≡ 1 = ap (λ b. cond b 1 0) is in
        omega (arith, ints, local, net, one, drawn.net is)
    by false is =
        let local : local_of k t n x ≡ net_of n x = ap (λ b. cond b (pos 0) (net_of n x)) (drawn.mark ∙ is) in
        let net : collected_net p ≡ 0 = ap (λ b. cond b p.1 0) is in
        let one : collected_one p ≡ 0 = ap (λ b. cond b 1 0) is in
        omega (arith, ints, local, net, one)

-- past the CPUs nothing was collected
none_past : (row : List (Mark × ℕ)) → ((c : ℕ) → (get_or row c nothing).0.collected ≡ false) → (sum_by collected_net row ≡ 0) × (sum_by collected_one row ≡ 0)
none_past [] none = (refl, refl)
none_past (p ∷ row) none =
    let rest = none_past row (λ c. none (suc c)) in
    let net : collected_net p ≡ 0 = ap (λ b. cond b p.1 0) (none 0) in
    let one : collected_one p ≡ 0 = ap (λ b. cond b 1 0) (none 0) in
    (omega (arith, sum_by-cons collected_net p row, net, rest.0), omega (arith, sum_by-cons collected_one p row, one, rest.1))

sums : (k : OnKeeper) (t n : ℕ) (row : List (Mark × ℕ)) (xs : List OnCpu) (a : ℤ) → ((c : ℕ) (x : OnCpu) → get_elem? xs c ≡ some x → IsDrawn k t n (get_or row c nothing) x)
    → ((c : ℕ) → length xs ≤ c → (get_or row c nothing).0.collected ≡ false)
    → fold ◌+ℤ◌ a (locals_of k xs t n) +ℤ pos (sum_by collected_net row + sum_by (released_of n) xs) ≡ a +ℤ pos (sum_by (acquired_of n) xs + bias * sum_by collected_one row)
sums k t n row [] a each past = let none = none_past row (λ c. past c (omega arith)) in omega (arith, ints, none.0, none.1)
sums k t n [] (x ∷ xs) a each past =
    let rest = sums k t n [] xs (a +ℤ local_of k t n x) (λ c y at. each (suc c) y at) (λ c le. refl) in
    let one = one_cpu k t n nothing x (each 0 x refl) in
    omega (arith, ints, rest, one, sum_by-cons (released_of n) x xs, sum_by-cons (acquired_of n) x xs)
sums k t n (p ∷ row) (x ∷ xs) a each past =
    let rest = sums k t n row xs (a +ℤ local_of k t n x) (λ c y at. each (suc c) y at) (λ c le. past (suc c) (omega (arith, le))) in
    let one = one_cpu k t n p x (each 0 x refl) in
    omega (arith, ints, rest, one, sum_by-cons (released_of n) x xs, sum_by-cons (acquired_of n) x xs, sum_by-cons collected_net p row, sum_by-cons collected_one p row)

-- Of a slot in such a state

pub known_keeper : {table : TableId} {log : List LogItem} (a : Settings) (k : KeeperView) (rows : List KeptSlot) (n : ℕ) (x : OnPlainKeeper) → IsOurKeeper a k rows n → on_keeper table a k rows log ≡ x
    → IsKeeperOf x.words.settings x.keeper
known_keeper a k rows n x our is = subst (λ (y : OnPlainKeeper). IsKeeperOf y.words.settings y.keeper) is (assumption (λ (t : ℕ). slots_agree a k rows t our.view our.rows))

-- an entry that it has in a slot is there in its view
there_too : (a : Settings) (k : OnKeeper) (t : ℕ) (e : Entry) → IsKeeperOf a k → IsIn e (slot_at k.slots t) → IsIn e (slot_at k.view.slots t)
there_too a k t e known is = subst (IsIn e) (sym (known.slots t)) is

zip_at : (ms : List Mark) (ns : List ℕ) (c : ℕ) → length ms ≡ length ns → get_or (zip ms ns) c nothing ≡ (get_or ms c no_mark, get_or ns c 0)
zip_at [] [] c same = refl
zip_at [] (n ∷ ns) c same = absurd (omega (arith, same))
zip_at (m ∷ ms) [] c same = absurd (omega (arith, same))
zip_at (m ∷ ms) (n ∷ ns) zero same = refl
zip_at (m ∷ ms) (n ∷ ns) (suc c) same = zip_at ms ns c (omega (arith, same))

-- a state shows the keeper, with another note beside it
record IsOfKeeper (g : State) (k : OnKeeper) (h : List Change) : Type 0 where
  good : Good g
  keeper : KeeperShown g (keeper_with_note k.view h)

-- the CPUs' net counts are what the state has, where it says that they were collected for the entry n of the slot t
abbrev AreNets : State → List OnCpu → ℕ → ℕ → Type 0
AreNets g xs t n = (c : ℕ) (x : OnCpu) → get_elem? xs c ≡ some x → is_drawn g t c ≡ true → count_at g.nets c t + released_of n x ≡ bias + acquired_of n x

-- a live entry: no word was collected, and the total is the bias less what was given up
held_live : (k : OnKeeper) (xs : List OnCpu) (g : State) (h : List Change) (t : ℕ) (e : Entry) → IsOfKeeper g k h → slot_at k.slots t ≡ Live e → slot_at k.view.slots t ≡ Live e
    → (tally_of k xs e.number t).held ≡ tally k xs e.number
held_live k xs g h t e shown live there =
    let seen = seen_by_keeper g (keeper_with_note k.view h) shown.good shown.keeper in
    let each : (c : ℕ) (x : OnCpu) → get_elem? xs c ≡ some x → IsDrawn k t e.number nothing x =
    λ c x at. record { mark = ap (λ (y : Slot). is_retired y && (mark_at k.view.marks t x.view.id).collected) live; net = λ never. absurd (false≢true never) } in
    let total = shown.keeper.live_total t e (ap (λ (y : List Slot). slot_at y t) (sym seen.slots) ∙ there) in
    omega (arith, ints, sums k t e.number [] xs (pos 0) each (λ c le. refl), total, ap (λ (y : List ℕ). total_at y t) seen.totals)

-- a retired one: the total is what was collected, less what was given up
held_retired : (a : Settings) (k : OnKeeper) (xs : List OnCpu) (g : State) (h : List Change) (t : ℕ) (e : Entry) → IsKeeperOf a k → AreAllCpus a.cpus xs → IsOfKeeper g k h → AreNets g xs t e.number
    → slot_at k.slots t ≡ Retired e → slot_at k.view.slots t ≡ Retired e
    → (tally_of k xs e.number t).held ≡ tally k xs e.number
held_retired a k xs g h t e known all shown nets gone there =
    let seen = seen_by_keeper g (keeper_with_note k.view h) shown.good shown.keeper in
    let here : slot_at g.slots t ≡ Retired e = ap (λ (y : List Slot). slot_at y t) (sym seen.slots) ∙ there in
    let shape = shown.good.holds.shape in
    let within = in_within g.slots t e (inr here) in
    let ms = get_or g.marks t [] in
    let ns = get_or g.nets t [] in
    let long : length ms ≡ length ns = shape.mark_rows t (omega (arith, within, shape.slots, shape.marks)) ∙ sym (shape.net_rows t (omega (arith, within, shape.slots, shape.nets))) in
    let at : (c : ℕ) → get_or (zip ms ns) c nothing ≡ (get_or ms c no_mark, get_or ns c 0) = λ c. zip_at ms ns c long in
    let each : (c : ℕ) (x : OnCpu) → get_elem? xs c ≡ some x → IsDrawn k t e.number (get_or (zip ms ns) c nothing) x = λ c x is.
    subst (λ (p : Mark × ℕ). IsDrawn k t e.number p x) (sym (at c)) (record {
      mark = ap (λ (y : Slot). is_retired y && (mark_at k.view.marks t x.view.id).collected) gone
          ∙ (ap (λ i. (mark_at k.view.marks t i).collected) (all.each c x is) ∙ ap (λ (y : List (List Mark)). (mark_at y t c).collected) seen.marks);
      net = λ on. nets c x is (λ j. is_retired (here j) && on j);
    }) in
    let cpus : a.cpus ≡ g.settings.cpus = ap (λ (z : Settings). z.cpus) (sym known.view.settings ∙ seen.settings) in
    let sum = sums k t e.number (zip ms ns) xs (pos 0) each (λ c le. ap (λ (p : Mark × ℕ). p.0.collected) (at c) ∙ shown.keeper.beyond c t (omega (arith, le, all.count, cpus))) in
    let due : g.due ≡ Rest = sym seen.due ∙ known.view.rest in
    let adding : addition_due_at t g.due ≡ 0 = ap (addition_due_at t) due in
    let subtracting : subtraction_due_at t g.due ≡ 0 = ap (subtraction_due_at t) due in
    let total = shown.keeper.gives_up t e here in
    omega (arith, ints, sum, total, ap (λ (y : List ℕ). total_at y t) seen.totals, adding, ap (is_adding_at t) due, subtracting)

held_by : (a : Settings) (k : OnKeeper) (xs : List OnCpu) (g : State) (h : List Change) (t : ℕ) (e : Entry) → IsKeeperOf a k → AreAllCpus a.cpus xs → IsOfKeeper g k h → AreNets g xs t e.number
    → IsIn e (slot_at k.slots t) → (tally_of k xs e.number t).held ≡ tally k xs e.number
held_by a k xs g h t e known all shown nets is = ⊎_elim
    (λ (live : slot_at k.slots t ≡ Live e). held_live k xs g h t e shown live (known.slots t ∙ live))
    (λ (gone : slot_at k.slots t ≡ Retired e). held_retired a k xs g h t e known all shown nets gone (known.slots t ∙ gone))
    is

-- A CPU's place says its own net count

own_net : (g : State) (x : OnCpu) (t : ℕ) (e : Entry) → CpuShown g x.view → IsIn e (slot_at g.slots t) → net_met t e.number x ≡ net_of e.number x
own_net g x t e had here = dite (ℕ_discrete (number_at x.view.met t) e.number)
    (λ (same : number_at x.view.met t ≡ e.number). ap (λ b. cond b (net_of e.number x) (pos 0)) (eq-eqb (number_at x.view.met t) e.number same))
    (λ (off : number_at x.view.met t ≢ e.number).
    let place : IsPlaceCount x.view t e.number bias = record { met = λ same. absurd (off same); other = λ _. refl } in
    ap (λ b. cond b (net_of e.number x) (pos 0)) (ne_eqb (number_at x.view.met t) e.number off) ∙ omega (arith, ints, place_is g x.view t e bias had here place))

pub locals_same : (f h : OnCpu → ℤ) (xs : List OnCpu) → ((c : ℕ) (x : OnCpu) → get_elem? xs c ≡ some x → f x ≡ h x) → map f xs ≡ map h xs
locals_same f h [] each = refl
locals_same f h (x ∷ xs) each = let one = each 0 x refl in let rest = locals_same f h xs (λ c y at. each (suc c) y at) in λ i. one i ∷ rest i

pub own_tally : (a : Settings) (k : OnKeeper) (xs : List OnCpu) (g : State) (t : ℕ) (e : Entry) → IsKeeperOf a k → AreShown g k xs → IsIn e (slot_at k.slots t)
    → tally_met k xs e.number t ≡ tally_of k xs e.number t
own_tally a k xs g t e known shown is =
    let here : IsIn e (slot_at g.slots t) = subst (λ (y : List Slot). IsIn e (slot_at y t)) (seen_by_keeper g k.view shown.good shown.keeper).slots (there_too a k t e known is) in
    ap (λ locals. tally_by k locals e.number t)
    (locals_same (local_met k t e.number) (local_of k t e.number) xs (λ c x at. ap (λ net. local_by k t net x) (own_net g x t e (shown.cpus c x at) here)))

-- Where a state of its own shows each view, and the keeper had done the same in all of them

pub in_occupant : (e : Entry) (x : Slot) → IsIn e x → occupant_of x ≡ Some e.number
in_occupant e x is = ⊎_elim (λ (live : x ≡ Live e). ap occupant_of live) (λ (gone : x ≡ Retired e). ap occupant_of gone) is

occupant_in : (n : ℕ) (x : Slot) → occupant_of x ≡ Some n → (d : Entry) × IsIn d x × (d.number ≡ n)
occupant_in n Vacant is = absurd (none-some n is)
occupant_in n (Live d) is = (d, inl refl, same_Some d.number n is)
occupant_in n (Retired d) is = (d, inr refl, same_Some d.number n is)

-- an entry of a slot is there in the other state
occupied_too : (log : List LogItem) (g f : State) (t : ℕ) (e : Entry) → AreCountsOf log g → AreCountsOf log f → IsIn e (slot_at g.slots t)
    → (d : Entry) × IsIn d (slot_at f.slots t) × (d.number ≡ e.number)
occupied_too log g f t e own other is = occupant_in e.number (slot_at f.slots t) (sym (other.occupants t) ∙ (own.occupants t ∙ in_occupant e (slot_at g.slots t) is))

word_some : (b : Bool) (w v : ℕ) → word_if b w ≡ Some v → (b ≡ true) × (w ≡ v)
word_some true w v is = (refl, same_Some w v is)
word_some false w v is = absurd (none-some v is)

-- a net count that was collected is the same in both
drawn_too : (log : List LogItem) (g f : State) (t c : ℕ) → AreCountsOf log g → AreCountsOf log f → is_drawn g t c ≡ true → count_at f.nets c t ≡ count_at g.nets c t
drawn_too log g f t c own other on =
    (word_some (is_drawn f t c) (count_at f.nets c t) (count_at g.nets c t) (sym (other.words t c) ∙ (own.words t c ∙ ap (λ (b : Bool). word_if b (count_at g.nets c t)) on))).1

module _ (a : Settings) (k : OnKeeper) (xs ys : List OnCpu) (known : IsKeeperOf a k) (all : AreAllCpus a.cpus xs) (alike : AreAlike k xs ys) (t : ℕ) (e : Entry) (is : IsIn e (slot_at k.slots t)) where
  here : IsIn e (slot_at alike.keeper.1.g.slots t)
  here = let seen = seen_by_keeper alike.keeper.1.g (keeper_with_note k.view alike.keeper.0) alike.keeper.1.good alike.keeper.1.shown in
      subst (λ (y : List Slot). IsIn e (slot_at y t)) seen.slots (there_too a k t e known is)

  alike_nets : AreNets alike.keeper.1.g xs t e.number
  alike_nets c x at on =
      let g = alike.keeper.1.g in
      let own = alike.cpus c x at in
      let f = own.1.g in
      let there = occupied_too alike.log g f t e alike.keeper.1.counts own.1.counts here in
      let same : count_at f.nets x.view.id t ≡ count_at g.nets c t = ap (λ i. count_at f.nets i t) (all.each c x at) ∙ drawn_too alike.log g f t c alike.keeper.1.counts own.1.counts on in
      (λ j. sym same j + released_of (sym there.2 j) x) ∙ (own.1.shown.nets t there.0 there.1 ∙ ap (λ n. bias + acquired_of n x) there.2)

  alike_net : (c : ℕ) (x : OnCpu) → get_elem? xs c ≡ some x → net_met t e.number x ≡ net_of e.number x
  alike_net c x at =
      let own = alike.cpus c x at in
      let f = own.1.g in
      let there = occupied_too alike.log alike.keeper.1.g f t e alike.keeper.1.counts own.1.counts here in
      subst (λ n. net_met t n x ≡ net_of n x) there.2 (own_net f (record x { view = with_note x.view own.0 }) t there.0 own.1.shown there.1)

  pub alike_tally : tally_met k xs e.number t ≡ tally_of k xs e.number t
  alike_tally = ap (λ locals. tally_by k locals e.number t)
      (locals_same (local_met k t e.number) (local_of k t e.number) xs (λ c x at. ap (λ net. local_by k t net x) (alike_net c x at)))

  pub alike_held : (tally_of k xs e.number t).held ≡ tally k xs e.number
  alike_held = held_by a k xs alike.keeper.1.g alike.keeper.0 t e known all (record { good = alike.keeper.1.good; keeper = alike.keeper.1.shown }) alike_nets is

-- What is shown of the list

pub told_right : {X : Type 0} (shown : X → Tally) (a : Settings) (k : OnKeeper) (xs ys : List OnCpu) (list : List X) → IsKeeperOf a k → AreAllCpus a.cpus xs → AreAlike k xs ys
    → map shown list ≡ tallies_met k xs a.slots → (map shown list ≡ tallies_below k xs a.slots) × All (λ (b : X). IsTallied k xs (shown b)) list
told_right shown a k xs ys list known all alike met = (
  met ∙ each_same (tally_met k xs) (tally_of k xs) k.slots a.slots (λ t e there. alike_tally a k xs ys known all alike t e there),
  all_met shown (IsTallied k xs) k xs a.slots list met
      (λ t e there. ap (λ (y : Tally). y.held) (alike_tally a k xs ys known all alike t e there) ∙ alike_held a k xs ys known all alike t e there),
)

pub audit_right : (a : Settings) (k : OnKeeper) (xs ys : List OnCpu) (list : List Balance) → IsKeeperOf a k → AreAllCpus a.cpus xs → AreAlike k xs ys → map tally_shown list ≡ tallies_met k xs a.slots
    → IsAuditOf a k xs list
audit_right a k xs ys list known all alike met =
    let right = told_right tally_shown a k xs ys list known all alike met in
    record { keeper = known; met = met; answer = right.0; tally = right.1 }

-- What an audit answers is said by the keeper's log and the CPUs alone.

-- a count word adds its CPU's net count, unless it was collected
unless_if : (b : Bool) (w : ℕ) (net : ℤ) → net_unless (word_if b w) net ≡ (if b then pos 0 else net)
unless_if true w net = refl
unless_if false w net = refl

-- the total as plain numbers: so the limits don't change how long the arithmetic takes
total_sum : (total add given words due sum sub seen : ℕ) → total + add + given + bias * words ≡ bias * (1 + due) + sum + sub → seen ≡ total → add ≡ 0 → due ≡ 0 → sub ≡ 0
    → pos sum -ℤ pos (bias * words + given) ≡ less_bias seen
total_sum total add given words due sum sub seen even same no_add no_due no_sub = omega (arith, ints, even, same, no_add, no_due, no_sub)

module _ (a : Settings) (k : OnKeeper) (xs ys : List OnCpu) (known : IsKeeperOf a k) (all : AreAllCpus a.cpus xs) (alike : AreAlike k xs ys) where
  abbrev g : State
  g = alike.keeper.1.g

  abbrev pub log : List LogItem
  log = alike.log

  seen : SeenByKeeper alike.keeper.1.g (keeper_with_note k.view alike.keeper.0)
  seen = seen_by_keeper alike.keeper.1.g (keeper_with_note k.view alike.keeper.0) alike.keeper.1.good alike.keeper.1.shown

  -- a slot of the keeper's is the state's
  same_slot : (t : ℕ) → slot_at k.slots t ≡ slot_at g.slots t
  same_slot t = sym (known.slots t) ∙ ap (λ (l : List Slot). slot_at l t) seen.slots

  by_log : (t : ℕ) → occupant t log ≡ occupant_of (slot_at k.slots t)
  by_log t = alike.keeper.1.counts.occupants t ∙ ap occupant_of (sym (same_slot t))

  drawn : (t c : ℕ) → is_drawn g t c ≡ is_collected k t c
  drawn t c = let slot = same_slot t in let marks = seen.marks in λ i. is_retired (sym slot i) && (mark_at (sym marks i) t c).collected

  local : (t n : ℕ) (x : OnCpu) → local_in log t n x ≡ local_of k t n x
  local t n x =
      ap (λ (w : Option ℕ). net_unless w (net_of n x)) (alike.keeper.1.counts.words t x.view.id)
      ∙ (unless_if (is_drawn g t x.view.id) (count_at g.nets x.view.id t) (net_of n x) ∙ ap (λ (b : Bool). if b then pos 0 else net_of n x) (drawn t x.view.id))

  total : (t n : ℕ) → occupant t log ≡ Some n → total_in log t n ≡ less_bias (total_at k.view.totals t)
  total t n is =
      let due : g.due ≡ Rest = sym seen.due ∙ known.view.rest in
      let adding : addition_due_at t g.due ≡ 0 = ap (addition_due_at t) due in
      let subtracting : subtraction_due_at t g.due ≡ 0 = ap (subtraction_due_at t) due in
      total_sum (total_at g.totals t) (addition_due_at t g.due) (given_up n log) (words_collected t log) (is_adding_at t g.due) (sum_collected t log) (subtraction_due_at t g.due)
      (total_at k.view.totals t) (alike.keeper.1.totals.total t n is) (ap (λ (l : List ℕ). total_at l t) seen.totals) adding (ap (is_adding_at t) due) subtracting

  -- what is said of one entry
  pub audited_is : (t : ℕ) (e : Entry) → IsIn e (slot_at k.slots t) → audited log xs e.number t ≡ tally_of k xs e.number t
  audited_is t e is =
      let has : occupant t log ≡ Some e.number = by_log t ∙ in_occupant e (slot_at k.slots t) is in
      let given : number_at k.view.given_up e.number ≡ given_up e.number log =
      given_by_log log g (keeper_with_note k.view alike.keeper.0) t e.number alike.keeper.1.good alike.keeper.1.shown alike.keeper.1.counts alike.keeper.1.totals
      (sym seen.due ∙ known.view.rest) has in
      let locals = locals_same (local_in log t e.number) (local_of k t e.number) xs (λ c x at. local t e.number x) in
      let held : tally_in log xs e.number ≡ (tally_of k xs e.number t).held =
      ap (λ (m : ℕ). pos (sum_by (acquired_of e.number) xs) -ℤ pos (sum_by (released_of e.number) xs + m)) (sym given) ∙ sym (alike_held a k xs ys known all alike t e is) in
      λ i. record { number = e.number; slot = t; held = held i; locals = locals i; total = (total t e.number has) i }

  at_slot : (t : ℕ) (x : Slot) → slot_at k.slots t ≡ x → audited_at log xs t (occupant t log) ≡ each_at (tally_of k xs) t x
  at_slot t Vacant is = ap (audited_at log xs t) (by_log t ∙ ap occupant_of is)
  at_slot t (Live e) is = ap (audited_at log xs t) (by_log t ∙ ap occupant_of is) ∙ ap (λ (b : Tally). b ∷ []) (audited_is t e (inl is))
  at_slot t (Retired e) is = ap (audited_at log xs t) (by_log t ∙ ap occupant_of is) ∙ ap (λ (b : Tally). b ∷ []) (audited_is t e (inr is))

  pub audited_all : (n : ℕ) → audited_below log xs n ≡ tallies_below k xs n
  audited_all zero = refl
  audited_all (suc t) = let first = audited_all t in let last = at_slot t (slot_at k.slots t) refl in λ i. first i ++ last i

-- the whole list
pub audit_known : (a : Settings) (k : OnKeeper) (xs ys : List OnCpu) (list : List Balance) → IsKeeperOf a k → AreAllCpus a.cpus xs → AreAlike k xs ys → IsAuditOf a k xs list → IsAuditBy a xs ys list
audit_known a k xs ys list known all alike is = record { log = alike.log; known = alike.known; answer = is.answer ∙ sym (audited_all a k xs ys known all alike a.slots) }

-- The exact audit: one state shows the views of all seats, those of the keeper and the CPUs among them.

pub exact_law : (a : Settings) (k : OnKeeper) (xs : List OnCpu) → Auditing.ExactAudit a k xs
exact_law a k xs s ruled seated =
    let run : RunsLawfully a s = runs_lawfully a s ruled in
    let g : State = after (opening a) run.events in
    let shown : AreShown g k xs = record {
      good = run.good;
      keeper = (run.shows.fits seated.keeper.0 (Keeper k.view) seated.keeper.1).1;
      cpus = λ c x at. let sits = seated.cpus c x at in (run.shows.fits sits.0 (Cpu x.view) sits.1).1;
    } in
    record {
      run = run;
      shown = shown;
      listed = λ list is. is.answer;
      tallied = λ list is. is.tally;
      held = λ all list is.
          let rest = run.laws.balance (ap at_rest (sym (seen_by_keeper g k.view run.good shown.keeper).due ∙ is.keeper.view.rest)) in
          all_met tally_shown (λ y. y.held ≡ pos (held_of g y.number)) k xs a.slots list is.met
          (λ t e there. ap (λ (y : Tally). y.held) (own_tally a k xs g t e is.keeper shown there) ∙ references_held a k xs g t e is.keeper all shown rest there);
    }

-- The free interlock: a keeper at rest is adding nothing, so the balance of each slot is the references held.

at_rest_balanced : (g : State) → Good g → g.due ≡ Rest → Auditing.Balanced g
at_rest_balanced g good rest t e is =
    let row = counts_of g t in
    let held = held_at g.locals g.hands g.keeps g.due e.number t in
    let even = subst (λ (d : Due). sum_by itself row + total_at g.totals t + addition_due_at t d ≡ held + bias * (1 + sum_by one_if_used row + is_adding_at t d)) rest
    (good.holds.balance.balance t e is).even in
    omega (arith, even)

pub free_law : (a : Settings) (x : OnKeeper) → x.view.due ≡ Rest → Auditing.FreeInterlock a x
free_law a x rest s i ruled at =
    let run : RunsLawfully a s = runs_lawfully a s ruled in
    let g : State = after (opening a) run.events in
    let shown : KeeperShown g x.view = (run.shows.fits i (Keeper x.view) at).1 in
    let due : g.due ≡ Rest = sym (seen_by_keeper g x.view run.good shown).due ∙ rest in
    record {
      run = run;
      keeper = shown;
      balanced = at_rest_balanced g run.good due;
      at_rest = run.laws.balance (ap at_rest due);
    }
