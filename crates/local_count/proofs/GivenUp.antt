-- Collections, and references that are given up: what the rows say, and that what the keeper has agrees with what its seat knows then.
use Rattle.std.proofs.Common.{◌≡◌, ℕ, ◌+◌, ◌-◌, ◌*◌, ◌<◌, ◌≤◌, List, length, get_or, set, Some, true, refl, sym, ap, ◌∙◌, subst, arith, length-set, [], inl, inr, ⊎_elim}
use Rattle.std.proofs.lemmas.List.{set-get_or}
use Rattle.atomic_table.specs.Seated.{TableId}
use Rattle.passive_list.specs.Types.{Entry, TotalAdd, Done, Settings, Rest, Mark, Vacant, Retired, MOST_CPUS, KeeperView, LogItem, Keeper, TotalSub, Due, Subtracting, ReferenceView}
use Rattle.registry_values.specs.Common.{mark_after_collect, are_collected, bias, slot_at}
use Rattle.protocol.specs.Common.{mark_at, total_at}
use Rattle.protocol.proofs.Cells.{total_here, total_other}
use Rattle.protocol.proofs.keeps.ListKeeps.{rows_put}
use Rattle.protocol.proofs.Occupied.{not_vacant}
use Rattle.cpu_words.specs.Common.{row_of, HasCollected, HasAdded, IsShown, Makes, IsFoundCollected, MayJoinKeeper, keeper_after_join, one_more}
use Rattle.cpu_words.specs.Draining.{HasSubtracted}
use Rattle.cpu_words.proofs.seats.Seating.{step_is_shown}
use Rattle.passive_list.specs.declared.keeper.KeptSlot.{KeptSlot}
use Rattle.passive_list.specs.Common.{OnKeeper, OnPlainKeeper, on_keeper, row_at, states_of, total_or_bias, IsAtRest, MarksAgree, RowsAgree, IsOurKeeper, RowAgrees}
use Rattle.passive_list.proofs.Marks.{mark_read, marks_set}
use Rattle.passive_list.proofs.Rows.{state_at, not_vacant_within, retired_in, keeper_on, row_stays, rows_set, none_at_rest, total_collected, IsHeldIn, held_given_up}
use Rattle.local_count.specs.Draining.{AreHeld}

-- Collections: what the rows say where a count word is collected, and where all are.

-- The marks and the total of one slot change

abbrev pub with_total : KeeperView → ℕ → List Mark → ℕ → List ℕ → KeeperView
with_total k t marks total given_up = record k { marks = set k.marks t marks; totals = set k.totals t total; due = Rest; given_up = given_up }

abbrev pub row_with_total : KeptSlot → ℕ → KeptSlot
row_with_total r total = record { state = r.state; total = Some total; keeps = r.keeps; rank = r.rank }

pub with_total_rows : (a : Settings) (k : KeeperView) (rows : List KeptSlot) (t : ℕ) (marks : List Mark) (total : ℕ) (given_up : List ℕ) → IsAtRest a k → RowsAgree a k rows
    → (slot_at (states_of rows) t ≡ Vacant → ⊥)
    → RowsAgree a (with_total k t marks total given_up) (set rows t (row_with_total (row_at rows t) total))
with_total_rows a k rows t marks total given_up at agree some =
    let l = with_total k t marks total given_up in
    let lt = not_vacant_within a k rows t agree some in
    let had = agree.each t lt in
    rows_set a k l rows t (row_with_total (row_at rows t) total) lt agree
    record {
      state = had.state;
      total = sym (total_here k.totals t total (omega (arith, lt, at.sized.totals)));
      keeps = had.keeps;
      unused = λ vacant. absurd (some (state_at rows t ∙ vacant));
      rank = had.rank;
    }
    (λ u other was. row_stays k l u (row_at rows u) refl (total_other k.totals t total u other) refl (λ e is. refl) was)

-- the keeper's data agree with such a view, where the slot isn't vacant
pub with_total_keeper : (a : Settings) (k l : KeeperView) (rows : List KeptSlot) (n t : ℕ) (marks : List Mark) (total : ℕ) (given_up : List ℕ)
    → IsOurKeeper a k rows n → (slot_at (states_of rows) t ≡ Vacant → ⊥) → length marks ≡ MOST_CPUS → l ≡ with_total k t marks total given_up → IsShown l
    → IsOurKeeper a l (set rows t (row_with_total (row_at rows t) total)) n
with_total_keeper a k l rows n t marks total given_up our some size change is_shown =
    let sized = our.view.sized in
    keeper_on a l (with_total k t marks total given_up) (set rows t (row_with_total (row_at rows t) total)) n change is_shown
    (assumption (length-set k.marks t marks ∙ sized.marks, rows_put k.marks t marks size sized.mark_rows, length-set k.totals t total ∙ sized.totals))
    our.changes (with_total_rows a k rows t marks total given_up our.view our.rows some)

-- A collection

-- the keeper's data agree with the view after it, with the new total v and the mark m
pub collected_keeper : {log : List LogItem} (a : Settings) (k l b : KeeperView) (rows : List KeptSlot) (ms : List Mark) (n : ℕ) (x : OnKeeper) (t c p v w : ℕ) (e : Entry) (q m : Mark)
    → IsOurKeeper a k rows n → MarksAgree a k ms → record { view = k; slots = states_of rows; log = log } ≡ x
    → slot_at x.slots t ≡ Retired e → c < a.cpus → p ≡ t * a.cpus + c → q ≡ get_or ms p q → HasCollected k t c w l → m ≡ mark_after_collect q → HasAdded l t v b
    → Makes (TotalAdd t) Done (Keeper l) (Keeper b)
    → IsOurKeeper a b (set rows t (row_with_total (row_at rows t) v)) n × MarksAgree a b (set ms p m)
collected_keeper a k l b rows ms n x t c p v w e q m our marks is retired cpu place read change made_of added made =
    let here = ap (λ (y : OnKeeper). slot_at y.slots t) is ∙ retired in
    let lt = (retired_in a k rows t e our.rows here).0 in
    let mark : m ≡ mark_after_collect (mark_at k.marks t c) = made_of ∙ ap mark_after_collect (mark_read a k ms t c p q marks lt cpu place read) in
    let long : length (set (row_of k t) c m) ≡ MOST_CPUS = length-set (row_of k t) c m ∙ our.view.sized.mark_rows t (omega (arith, lt, our.view.sized.marks)) in
    let now : b ≡ with_total k t (set (row_of k t) c m) v k.given_up = added ∙ ap (λ (x : KeeperView). record x { totals = set x.totals t v; due = Rest }) change
    ∙ sym (ap (λ (x : Mark). with_total k t (set (row_of k t) c x) v k.given_up) mark) in (
      with_total_keeper a k b rows n t (set (row_of k t) c m) v k.given_up our (λ vacant. let q : Retired e ≡ Vacant = sym here ∙ vacant in cc) long now (step_is_shown made),
      marks_set a k b ms t c p m our.view marks lt cpu place (ap (λ (y : KeeperView). y.marks) now),
    )

-- Once all words are collected

pub record TotalTells (k : KeeperView) (t total : ℕ) : Type 0 where
  pub floor : bias ≤ total
  pub is : total - bias + bias ≡ total_at k.totals t
  pub held : AreHeld k t (total - bias)

-- the row of a retired slot has the total v, which is the bias and what is held
pub total_tells : {table : TableId} {log : List LogItem} (a : Settings) (k : KeeperView) (rows : List KeptSlot) (n : ℕ) (x : OnPlainKeeper) (t v : ℕ) (e : Entry) → IsOurKeeper a k rows n
    → on_keeper table a k rows log ≡ x → v ≡ total_or_bias (row_at rows t)
    → slot_at x.keeper.slots t ≡ Retired e → are_collected x.words.settings.cpus (row_of x.keeper.view t) ≡ true → TotalTells x.keeper.view t v
total_tells a k rows n x t v e our is read retired all =
    let here = retired_in a k rows t e our.rows (ap (λ (y : OnPlainKeeper). slot_at y.keeper.slots t) is ∙ retired) in
    let total : v ≡ total_at k.totals t = read ∙ (our.rows.each t here.0).total in
    let told : are_collected k.settings.cpus (row_of k t) ≡ true =
    ap (λ (z : Settings). are_collected z.cpus (row_of k t)) our.view.settings ∙ (ap (λ (y : OnPlainKeeper). are_collected y.words.settings.cpus (row_of y.keeper.view t)) is ∙ all) in
    let now = our.is_shown in
    let floor : bias ≤ total_at k.totals t = omega (arith, total_collected now.g k t e now.good now.shown (none_at_rest k.due t our.view.rest) here.1 told) in
    subst (λ (y : OnPlainKeeper). TotalTells y.keeper.view t v) is record {
      floor = omega (arith, floor, total);
      is = omega (arith, floor, total);
      held = record {
        e = e;
        retired = here.1;
        held = λ g good shown. let sum = total_collected g k t e good shown (none_at_rest k.due t our.view.rest) here.1 told in omega (arith, sum, total);
      };
    }

-- A reference is given up: the total in one row is one less.

-- What is held

-- its row shows it, and one can be subtracted there
pub record HeldRow (a : Settings) (k : KeeperView) (rows : List KeptSlot) (t : ℕ) : Type 0 where
  pub agrees : RowAgrees k t (row_at rows t)
  pub slot : t < a.slots
  pub shown : (row_at rows t).state ≡ slot_at k.slots t
  pub some : slot_at (states_of rows) t ≡ Vacant → ⊥
  pub positive : 1 ≤ total_or_bias (row_at rows t)
  pub size : length (get_or k.marks t []) ≡ MOST_CPUS

pub held_row : (a : Settings) (k : KeeperView) (rows : List KeptSlot) (t : ℕ) → IsAtRest a k → RowsAgree a k rows → IsHeldIn k t → HeldRow a k rows t
held_row a k rows t at agree held =
    let lt = subst (λ (z : Settings). t < z.slots) at.settings held.slot in
    let had = agree.each t lt in
    record {
      agrees = had;
      slot = lt;
      shown = sym had.state;
      some = λ vacant. not_vacant held.e (slot_at k.slots t) (had.state ∙ (sym (state_at rows t) ∙ vacant)) held.occupied;
      positive = omega (arith, had.total, held.positive);
      size = at.sized.mark_rows t (omega (arith, lt, at.sized.marks));
    }

-- Its total is one less

-- and by number the references given up are these
abbrev pub less : KeeperView → ℕ → List ℕ → KeeperView
less k t given_up = record k { totals = set k.totals t (total_at k.totals t - 1); given_up = given_up }

-- the row, whose total was v
abbrev pub row_less : KeptSlot → ℕ → KeptSlot
row_less r v = row_with_total r (v - 1)

pub less_is : (a : Settings) (k : KeeperView) (rows : List KeptSlot) (t v : ℕ) (given_up : List ℕ) → k.due ≡ Rest → HeldRow a k rows t → v ≡ total_or_bias (row_at rows t)
    → less k t given_up ≡ with_total k t (get_or k.marks t []) (v - 1) given_up
less_is a k rows t v given_up rest row read =
    let marks : k.marks ≡ set k.marks t (get_or k.marks t []) = sym (set-get_or k.marks t []) in
    λ i. record k { marks = marks i; totals = set k.totals t (sym (read ∙ row.agrees.total) i - 1); due = rest i; given_up = given_up }

pub less_rows : (a : Settings) (k : KeeperView) (rows : List KeptSlot) (t v : ℕ) (given_up : List ℕ) → IsAtRest a k → RowsAgree a k rows → HeldRow a k rows t
    → v ≡ total_or_bias (row_at rows t) → RowsAgree a (less k t given_up) (set rows t (row_less (row_at rows t) v))
less_rows a k rows t v given_up at agree row read =
    subst (λ (x : KeeperView). RowsAgree a x (set rows t (row_less (row_at rows t) v))) (sym (less_is a k rows t v given_up at.rest row read))
    (with_total_rows a k rows t (get_or k.marks t []) (v - 1) given_up at agree row.some)

-- A reference is given up under the interlock: its entry's row has one to subtract, and what the keeper has agrees with what its seat knows then.

-- what the rows say of a collected word, the seat knows
pub may_take_in : {log : List LogItem} (a : Settings) (k : KeeperView) (rows : List KeptSlot) (n : ℕ) (v w : ReferenceView) (x : OnKeeper) → IsOurKeeper a k rows n
    → record { view = k; slots = states_of rows; log = log } ≡ x → v ≡ w
    → IsFoundCollected x.slots x.view.marks w → MayJoinKeeper k v
may_take_in a k rows n v w x our is is_too found = record {
  rest = our.view.rest;
  is_collected = ⊎_elim
      (λ (there : (c : ℕ) × (v.collected ≡ Some c)). inl there)
      (λ (there : (t : ℕ) × (c : ℕ) × (e : Entry) × (slot_at (states_of rows) t ≡ Retired e) × (e.number ≡ v.entry.number) × ((mark_at k.marks t c).collected ≡ true)).
      inr (there.0, there.1, there.2, (retired_in a k rows there.0 there.2 our.rows there.3).1, there.4, there.5))
      (subst (λ (y : OnKeeper). IsFoundCollected y.slots y.view.marks v) (sym is) (subst (IsFoundCollected x.slots x.view.marks) (sym is_too) found));
}

-- the reference that the keeper takes in is held until it is subtracted, so its slot's row has it
pub given_row : (a : Settings) (k j l : KeeperView) (rows : List KeptSlot) (n t : ℕ) (v : ReferenceView) → IsOurKeeper a k rows n → v.entry.slot ≡ t → j ≡ keeper_after_join k v
    → Makes (TotalSub t) Done (Keeper j) (Keeper l) → HeldRow a k rows t
given_row a k j l rows n t v our slot joined made =
    let there = held_given_up j t record { g = made.g; good = made.good; shown = made.before } (ap (λ (x : KeeperView). x.due) joined ∙ ap Subtracting slot) in
    let held = subst (λ (x : KeeperView). IsHeldIn x t) joined there in
    held_row a k rows t our.view our.rows record { e = held.e; occupied = held.occupied; slot = held.slot; positive = held.positive; near = held.near }

-- what the two steps tell
pub given_is : (k j l : KeeperView) (t : ℕ) (v : ReferenceView) → k.due ≡ Rest → j ≡ keeper_after_join k v → HasSubtracted j t l → l ≡ less k t (one_more k.given_up v.entry.number)
given_is k j l t v rest joined told = told.2 ∙ ap (λ (x : KeeperView). record x { totals = set x.totals t (total_at x.totals t - 1); due = Rest }) joined
    ∙ ap (λ (d : Due). record (less k t (one_more k.given_up v.entry.number)) { due = d }) (sym rest)

pub given_keeper : (a : Settings) (k j l : KeeperView) (rows : List KeptSlot) (n t u : ℕ) (v : ReferenceView) → IsOurKeeper a k rows n → v.entry.slot ≡ t → j ≡ keeper_after_join k v
    → Makes (TotalSub t) Done (Keeper j) (Keeper l) → HasSubtracted j t l → u ≡ total_or_bias (row_at rows t)
    → IsOurKeeper a l (set rows t (row_less (row_at rows t) u)) n
given_keeper a k j l rows n t u v our slot joined made told read =
    let row = given_row a k j l rows n t v our slot joined made in
    let given_up = one_more k.given_up v.entry.number in
    with_total_keeper a k l rows n t (get_or k.marks t []) (u - 1) given_up our row.some row.size
    (given_is k j l t v our.view.rest joined told ∙ less_is a k rows t u given_up our.view.rest row read) (step_is_shown made)
