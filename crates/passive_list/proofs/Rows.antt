-- The rows of the keeper: what they say of a view and of its totals, and what its log says of them.
use Rattle.std.proofs.Common.{◌≡◌, ◌≢◌, ⊎_elim, ◌||◌, ℕ, zero, suc, ◌<◌, ◌≤◌, List, [], ◌∷◌, get_or, set, replicate, None, IsTrue, refl, sym, ap, ◌∙◌, subst, arith, length-set, inr, ◌+◌, ◌*◌, ◌^◌, length, Option, Some, true, All, ◌++◌, append-nil, append_assoc}
use Rattle.std.specs.List.{list_any}
use Rattle.std.proofs.lemmas.Bool.{cases_lt}
use Rattle.std.proofs.lemmas.List.{length-replicate, get_or-replicate, get_or_past, get_or_read, length-map}
use Rattle.std.proofs.lemmas.List.Elements.{All-append, All-cons}
use Rattle.atomic_table.specs.Seated.{TableId}
use Rattle.passive_list.specs.Types.{Entry, Settings, Key, Slot, Vacant, Live, Retired, MOST_CPUS, KeeperView, LogItem, Change, Due, Rest, Adding, Subtracting, Mark, MOST_SLOTS}
use Rattle.registry_values.specs.Common.{are_fit, bias, no_mark, is_live_as, is_taken, slot_at, slot_of, are_collected, is_retired}
use Rattle.registry_values.proofs.Fit.{ranges}
use Rattle.protocol.specs.Common.{no_words, total_at, kept_at, IsIn, Balances, held_at, addition_due_at, is_adding_at, subtraction_due_at, greatest_limit, State, at_rest, mark_at}
use Rattle.protocol.specs.History.{rank_at}
use Rattle.protocol.proofs.keeps.MarkKeeps.{none_live, rows_all}
use Rattle.protocol.proofs.Occupied.{place_cases, in_within, slot_has}
use Rattle.protocol.proofs.counts.Sums.{all_collected, held_kept, one_self}
use Rattle.protocol.proofs.counts.Bounds.{adding_range, collected_at, total_range}
use Rattle.protocol.proofs.keeps.CountKeeps.{fit_of}
use Rattle.protocol.proofs.keeps.References.{due_subtracting}
use Rattle.protocol.proofs.Cells.{slot_here, slot_other, snapshot_stands}
use Rattle.cpu_words.specs.Common.{keeper_with, row_of, Good, IsShown, KeeperShown, occupant_of, IsOwnLog, keeper_with_note}
use Rattle.cpu_words.proofs.by_keeper.KeeperSteps.{seen_by_keeper}
use Rattle.passive_list.specs.Common.{AreRanksOf, KeptSlot, OnPlainKeeper, HasRows, on_keeper, no_row, row_at, state_of, states_of, RowAgrees, IsAtRest, IsOurKeeper, RowsAgree, OnKeeper, GoesOnBy, HasOwnLog}

-- The rows of the keeper: what they say of a view, as one row or the view changes.

-- At the start

pub new_at_rest : (a : Settings) → IsTrue (are_fit a) → IsAtRest a (keeper_with a a.cpus)
new_at_rest a fit = record {
  settings = refl;
  fit = fit;
  rest = refl;
  seated = refl;
  sized = record {
    slots = length-replicate a.slots Vacant;
    marks = length-replicate a.slots (replicate MOST_CPUS no_mark);
    mark_rows = rows_all a.slots (replicate MOST_CPUS no_mark) refl;
    keeps = length-replicate a.slots None;
    next = let none : ℕ = 0 in length-replicate a.slots none;
    rows = length-replicate a.slots no_words;
    totals = length-replicate a.slots bias;
    counts = let none : ℕ = 0 in length-replicate a.slots (replicate MOST_CPUS none);
    count_rows = let none : ℕ = 0 in rows_all a.slots (replicate MOST_CPUS none) refl;
  };
  room = let none = none_live a.slots in omega (arith, none);
}

-- the state of a slot, by its row
pub state_at : (rows : List KeptSlot) (t : ℕ) → slot_at (states_of rows) t ≡ (row_at rows t).state
state_at [] t = refl
state_at (r ∷ rows) zero = refl
state_at (r ∷ rows) (suc t) = state_at rows t

pub first_states : (n : ℕ) → states_of (replicate n no_row) ≡ replicate n Vacant
first_states zero = refl
first_states (suc n) = ap (λ (xs : List Slot). Vacant ∷ xs) (first_states n)

-- a live entry has the kind and the name, by the rows
pub taken_in_rows : (key : Key) (rows : List KeptSlot) → is_taken key (states_of rows) ≡ list_any (λ r. is_live_as key r.state) rows
taken_in_rows key [] = refl
taken_in_rows key (r ∷ rows) = ap (λ b. is_live_as key r.state || b) (taken_in_rows key rows)

-- such rows agree with the view at the start
pub new_rows : (a : Settings) → RowsAgree a (keeper_with a a.cpus) (replicate a.slots no_row)
new_rows a = record {
  size = length-replicate a.slots no_row;
  each = λ t lt. subst (RowAgrees (keeper_with a a.cpus) t) (sym (get_or-replicate a.slots t no_row no_row lt)) record {
    state = get_or-replicate a.slots t Vacant Vacant lt;
    total = sym (get_or-replicate a.slots t bias 0 lt);
    keeps = sym (get_or-replicate a.slots t None None lt);
    unused = λ vacant. refl;
    rank = λ e is. cc;
  };
}

-- A row

-- past the rows nothing is
beyond : (a : Settings) (k : KeeperView) (rows : List KeptSlot) (t : ℕ) → RowsAgree a k rows → a.slots ≤ t → (row_at rows t).state ≡ Vacant
beyond a k rows t agree past = ap state_of (get_or_past rows t no_row (let size = agree.size in omega (arith, size, past)))

-- what is read of a slot of the table is its row
pub row_read : (a : Settings) (k : KeeperView) (rows : List KeptSlot) (t : ℕ) (r : KeptSlot) → RowsAgree a k rows → t < a.slots → r ≡ get_or rows t r → r ≡ row_at rows t
row_read a k rows t r agree lt is = get_or_read rows t r (let size = agree.size in omega (arith, size, lt)) is no_row

-- a slot that isn't vacant is one of the table's
pub not_vacant_within : (a : Settings) (k : KeeperView) (rows : List KeptSlot) (t : ℕ) → RowsAgree a k rows → (slot_at (states_of rows) t ≡ Vacant → ⊥) → t < a.slots
not_vacant_within a k rows t agree some = ⊎_elim
    (λ (lt : t < a.slots). lt)
    (λ (past : a.slots ≤ t). absurd (some (state_at rows t ∙ beyond a k rows t agree past)))
    (cases_lt t a.slots)

-- and what its row says is what the view says
pub taken_in : (a : Settings) (k : KeeperView) (rows : List KeptSlot) (t : ℕ) (x : Slot) → RowsAgree a k rows → slot_at (states_of rows) t ≡ x → (x ≡ Vacant → ⊥)
    → (t < a.slots) × (slot_at k.slots t ≡ x)
taken_in a k rows t x agree is some =
    let lt = not_vacant_within a k rows t agree (λ v. some (sym is ∙ v)) in
    (lt, (agree.each t lt).state ∙ (sym (state_at rows t) ∙ is))

-- the keeper has in each slot just what its seat has there
pub slots_agree : (a : Settings) (k : KeeperView) (rows : List KeptSlot) (t : ℕ) → IsAtRest a k → RowsAgree a k rows → slot_at k.slots t ≡ slot_at (states_of rows) t
slots_agree a k rows t view agree = ⊎_elim
    (λ (lt : t < a.slots). (agree.each t lt).state ∙ sym (state_at rows t))
    (λ (past : a.slots ≤ t).
    let none : slot_at k.slots t ≡ Vacant = get_or_past k.slots t Vacant (omega (arith, view.sized.slots, past)) in
    none ∙ sym (state_at rows t ∙ beyond a k rows t agree past))
    (cases_lt t a.slots)

pub retired_in : (a : Settings) (k : KeeperView) (rows : List KeptSlot) (t : ℕ) (e : Entry) → RowsAgree a k rows → slot_at (states_of rows) t ≡ Retired e
    → (t < a.slots) × (slot_at k.slots t ≡ Retired e)
retired_in a k rows t e agree is = taken_in a k rows t (Retired e) agree is (λ v. cc)

pub live_in : (a : Settings) (k : KeeperView) (rows : List KeptSlot) (t : ℕ) (e : Entry) → RowsAgree a k rows → slot_at (states_of rows) t ≡ Live e → (t < a.slots) × (slot_at k.slots t ≡ Live e)
live_in a k rows t e agree is = taken_in a k rows t (Live e) agree is (λ v. cc)

-- and the ranks of the rows are those of the view's history
pub ranks_of : (a : Settings) (k : KeeperView) (rows : List KeptSlot) → RowsAgree a k rows → AreRanksOf (rank_at k.history) rows
ranks_of a k rows agree t e is = let lt = (live_in a k rows t e agree (state_at rows t ∙ is)).0 in (agree.each t lt).rank e is

-- what is read of a live entry's slot is its row
pub live_read : (a : Settings) (k : KeeperView) (rows : List KeptSlot) (t : ℕ) (e : Entry) (r : KeptSlot) → RowsAgree a k rows → slot_at (states_of rows) t ≡ Live e → r ≡ get_or rows t r
    → r ≡ row_at rows t
live_read a k rows t e r agree live is = row_read a k rows t r agree (live_in a k rows t e agree live).0 is

-- what a row says goes with what the view says of its slot
pub row_stays : (k l : KeeperView) (t : ℕ) (r : KeptSlot) → slot_at l.slots t ≡ slot_at k.slots t
    → total_at l.totals t ≡ total_at k.totals t → kept_at l.keeps t ≡ kept_at k.keeps t → ((e : Entry) → slot_at k.slots t ≡ Live e → rank_at l.history e.number ≡ rank_at k.history e.number)
    → RowAgrees k t r → RowAgrees l t r
row_stays k l t r slot total keeps ranks had = record {
  state = slot ∙ had.state;
  total = had.total ∙ sym total;
  keeps = had.keeps ∙ sym keeps;
  unused = had.unused;
  rank = λ e is. had.rank e is ∙ sym (ranks e (had.state ∙ is));
}

-- what is live in k has in l the rank that it has in k
abbrev pub RanksStay : KeeperView → KeeperView → Type 0
RanksStay k l = (t : ℕ) (e : Entry) → slot_at k.slots t ≡ Live e → rank_at l.history e.number ≡ rank_at k.history e.number

-- a view with the same slots, totals and kept numbers
pub rows_stay : (a : Settings) (k l : KeeperView) (rows : List KeptSlot) → l.slots ≡ k.slots → l.totals ≡ k.totals → l.keeps ≡ k.keeps → l.history ≡ k.history → RowsAgree a k rows → RowsAgree a l rows
rows_stay a k l rows slots totals keeps history agree = record {
  size = agree.size;
  each = λ t lt. row_stays k l t (row_at rows t) (λ i. slot_at (slots i) t) (λ i. total_at (totals i) t) (λ i. kept_at (keeps i) t) (λ e is. ap (λ (h : List Change). rank_at h e.number) history) (agree.each t lt);
}

-- the keeper's data agree with the view m, so with l
pub keeper_on : (a : Settings) (l m : KeeperView) (rows : List KeptSlot) (n : ℕ) → l ≡ m → IsShown l → IsAtRest a m → n ≡ length m.history → RowsAgree a m rows → IsOurKeeper a l rows n
keeper_on a l m rows n same is_shown at changes agree = subst (λ (x : KeeperView). IsOurKeeper a x rows n) (sym same) (assumption (subst IsShown same is_shown))

-- one row changes with its slot, and the others stay
pub rows_set : (a : Settings) (k l : KeeperView) (rows : List KeptSlot) (t : ℕ) (r : KeptSlot) → t < a.slots → RowsAgree a k rows → RowAgrees l t r
    → ((u : ℕ) → u ≢ t → RowAgrees k u (row_at rows u) → RowAgrees l u (row_at rows u))
    → RowsAgree a l (set rows t r)
rows_set a k l rows t r lt agree here others = record {
  size = length-set rows t r ∙ agree.size;
  each = λ u within. ⊎_elim
      (λ (is : (u ≡ t) × (row_at (set rows t r) u ≡ r)). subst (RowAgrees l u) (sym is.1) (subst (λ v. RowAgrees l v r) (sym is.0) here))
      (λ (off : (u ≡ t → ⊥) × (row_at (set rows t r) u ≡ row_at rows u)). subst (RowAgrees l u) (sym off.1) (others u off.0 (agree.each u within)))
      (place_cases no_row rows t r u (let size = agree.size in omega arith));
}

-- the slot t becomes x, with the rank r
pub state_set : (a : Settings) (k l : KeeperView) (rows : List KeptSlot) (t : ℕ) (x : Slot) (r : ℕ) → length k.slots ≡ a.slots → RowsAgree a k rows → t < a.slots
    → l.slots ≡ set k.slots t x → l.totals ≡ k.totals → l.keeps ≡ k.keeps → (x ≡ Vacant → total_at k.totals t ≡ bias) → ((e : Entry) → x ≡ Live e → r ≡ rank_at l.history e.number) → RanksStay k l
    → RowsAgree a l (set rows t (record (row_at rows t) { state = x; rank = r }))
state_set a k l rows t x r size agree lt slots totals keeps unused rank ranks =
    let had = agree.each t lt in
    let m : KeeperView = record k { slots = set k.slots t x; history = l.history } in
    rows_stay a m l (set rows t (record (row_at rows t) { state = x; rank = r })) slots totals keeps refl (rows_set a k m rows t (record (row_at rows t) { state = x; rank = r }) lt agree
    record { state = slot_here k.slots t x (omega (arith, lt, size)); total = had.total; keeps = had.keeps; unused = λ vacant. had.total ∙ unused vacant; rank = rank }
    (λ u off was. row_stays k m u (row_at rows u) (slot_other k.slots t x u off) refl refl (ranks u) was))

-- The keeper as contracts see it: it has the rows that are in it
pub has_rows : {table : TableId} {log : List LogItem} (a : Settings) (k : KeeperView) (rows : List KeptSlot) (n : ℕ) (x : OnPlainKeeper) → IsOurKeeper a k rows n → on_keeper table a k rows log ≡ x
    → HasRows x rows
has_rows a k rows n x our is = subst (λ (y : OnPlainKeeper). HasRows y rows) is record { are = refl; agree = subst (IsOurKeeper a k rows) our.changes our }

-- A keeper's value, or a CPU's: what is so of it is so of its parts

pub keeper_is : {x y : OnPlainKeeper} → x ≡ y → x.keeper ≡ y.keeper
keeper_is is i = (is i).keeper

pub settings_are : {x y : OnPlainKeeper} → x ≡ y → x.words.settings ≡ y.words.settings
settings_are is i = (is i).words.settings

-- What the keeper's view says of totals: of each good state of the core that shows it, or where there is one (`IsShown`).

-- Of one state

-- the local references held to the entry with the number n in the slot t
abbrev pub held_in : State → ℕ → ℕ → ℕ
held_in g n t = held_at g.locals g.hands g.keeps g.due n t

-- nothing that was collected of t waits to be added to its total
abbrev pub NothingToAdd : Due → ℕ → Type 0
NothingToAdd due t = (addition_due_at t due ≡ 0) × (is_adding_at t due ≡ 0)

pub none_at_rest : (due : Due) (t : ℕ) → due ≡ Rest → NothingToAdd due t
none_at_rest due t rest = (ap (addition_due_at t) rest, ap (is_adding_at t) rest)

-- the total of a retired entry's slot is what is held, once all words are collected
pub total_collected : (g : State) (k : KeeperView) (t : ℕ) (e : Entry) → Good g → KeeperShown g k → NothingToAdd k.due t → slot_at k.slots t ≡ Retired e
    → are_collected k.settings.cpus (row_of k t) ≡ true
    → total_at k.totals t ≡ bias + held_in g e.number t
total_collected g k t e good had none retired all =
    let seen = seen_by_keeper g k good had in
    let on = good.holds.balance in
    let gone : slot_at g.slots t ≡ Retired e = sym (ap (λ (x : List Slot). slot_at x t) seen.slots) ∙ retired in
    let told : are_collected g.settings.cpus (get_or g.marks t []) ≡ true = sym (λ i. are_collected (seen.settings i).cpus (get_or (seen.marks i) t [])) ∙ all in
    let row = get_or g.counts t [] in
    let held = held_in g e.number t in
    let each : (c : ℕ) → get_or row c 0 ≡ 0 = λ c. ⊎_elim
    (λ (lt : c < g.settings.cpus). on.emptied c t e gone (collected_at (fit_of g good.holds) t c (in_within g.slots t e (inr gone)) lt told))
    (λ (ge : g.settings.cpus ≤ c). on.beyond c t ge)
    (cases_lt c g.settings.cpus) in
    let adding : addition_due_at t g.due ≡ 0 = ap (addition_due_at t) (sym seen.due) ∙ none.0 in
    let is_adding : is_adding_at t g.due ≡ 0 = ap (is_adding_at t) (sym seen.due) ∙ none.1 in
    let balance : Balances row (total_at g.totals t) held 0 0 =
    subst (λ n. Balances row (total_at g.totals t) held 0 n) is_adding (subst (λ n. Balances row (total_at g.totals t) held n (is_adding_at t g.due)) adding (on.balance t e (inr gone))) in
    ap (λ (x : List ℕ). total_at x t) seen.totals ∙ all_collected row (total_at g.totals t) held each balance

-- the total of a live or retired entry's slot is near the bias
pub total_near : (g : State) (k : KeeperView) (t : ℕ) (e : Entry) → Good g → KeeperShown g k → NothingToAdd k.due t → IsIn e (slot_at k.slots t)
    → (bias + held_in g e.number t ≤ total_at k.totals t + MOST_CPUS * greatest_limit) × (total_at k.totals t ≤ bias + MOST_CPUS * greatest_limit)
total_near g k t e good had none is =
    let seen = seen_by_keeper g k good had in
    let here : IsIn e (slot_at g.slots t) = subst (λ (x : List Slot). IsIn e (slot_at x t)) seen.slots is in
    let total = ap (λ (x : List ℕ). total_at x t) seen.totals in
    let range = total_range good.holds.balance (fit_of g good.holds) t e (ap (addition_due_at t) (sym seen.due) ∙ none.0) (ap (is_adding_at t) (sym seen.due) ∙ none.1) here in
    (omega (arith, range.0, total), omega (arith, range.1, total))

-- Of the view

-- what was collected is added with nothing lost
pub adding_fits : (k : KeeperView) (t old : ℕ) → IsShown k → k.due ≡ Adding t old → (bias ≤ total_at k.totals t + old) × (total_at k.totals t + old < 2 ^ 64)
adding_fits k t old is_shown due =
    let seen = seen_by_keeper is_shown.g k is_shown.good is_shown.shown in
    let total = ap (λ (x : List ℕ). total_at x t) seen.totals in
    let range = adding_range is_shown.g t old is_shown.good.holds (sym seen.due ∙ due) in
    (omega (arith, range.0, total), omega (arith, range.1, total))

-- The entry of t, live or retired, is held: one can be subtracted from the total.
pub record IsHeldIn (k : KeeperView) (t : ℕ) : Type 0 where
  pub e : Entry
  pub occupied : IsIn e (slot_at k.slots t)
  pub slot : t < k.settings.slots
  pub positive : 0 < total_at k.totals t
  pub near : total_at k.totals t ≤ bias + MOST_CPUS * greatest_limit

held_from : (g : State) (k : KeeperView) (t : ℕ) (e : Entry) → Good g → KeeperShown g k → NothingToAdd k.due t → IsIn e (slot_at k.slots t) → 0 < held_in g e.number t → IsHeldIn k t
held_from g k t e good had none is some =
    let seen = seen_by_keeper g k good had in
    let near = total_near g k t e good had none is in
    record {
      e = e;
      occupied = is;
      slot = omega (arith, in_within k.slots t e is, ap (λ (x : List Slot). length x) seen.slots, good.holds.shape.slots, ap (λ (z : Settings). z.slots) seen.settings);
      positive = omega (arith, near.0);
      near = near.1;
    }

-- by the reference that the keeper has taken in, to be subtracted
pub held_given_up : (k : KeeperView) (t : ℕ) → IsShown k → k.due ≡ Subtracting t → IsHeldIn k t
held_given_up k t is_shown due =
    let g = is_shown.g in
    let seen = seen_by_keeper g k is_shown.good is_shown.shown in
    let of : g.due ≡ Subtracting t = sym seen.due ∙ due in
    let gone = due_subtracting g.settings.cpus g.slots g.hands g.due g.locals t of is_shown.good.holds.references in
    let one : subtraction_due_at t g.due ≡ 1 = ap (subtraction_due_at t) of ∙ one_self t t refl in
    held_from g k t gone.0 is_shown.good is_shown.shown (ap (addition_due_at t) due, ap (is_adding_at t) due) (inr (ap (λ (x : List Slot). slot_at x t) seen.slots ∙ gone.1)) (omega (arith, one))

-- by the reference that the slot s keeps
pub held_by_slot : (k : KeeperView) (s d t : ℕ) → IsShown k → k.due ≡ Rest → kept_at k.keeps s ≡ Some d → slot_of k.slots d ≡ Some t → IsHeldIn k t
held_by_slot k s d t is_shown rest keeps of =
    let g = is_shown.g in
    let seen = seen_by_keeper g k is_shown.good is_shown.shown in
    let has = slot_has k.slots d t of in
    let some : 0 < held_in g d t = held_kept g.locals g.hands g.keeps g.due d t s (ap (λ (x : List (Option ℕ)). kept_at x s) (sym seen.keeps) ∙ keeps) in
    held_from g k t has.1.0 is_shown.good is_shown.shown (none_at_rest k.due t rest) has.1.1 (subst (λ (n : ℕ). 0 < held_in g n t) (sym has.1.2) some)

-- How a log goes on, and what the keeper's log says of the keeper: of its rows too.

no_item : (P : LogItem → Type 0) → All P []
no_item P = λ k d lt. absurd (omega (arith, lt))

pub one_item : (P : LogItem → Type 0) (d : LogItem) → P d → All P (d ∷ [])
one_item P d is = All-cons P d [] is (no_item P)

pub no_more : (P : LogItem → Type 0) (log new : List LogItem) → new ≡ log → GoesOnBy P log new
no_more P log new same = record { since = []; are = same ∙ sym (append-nil log); only = no_item P }

pub one_more : (P : LogItem → Type 0) (d : LogItem) (log new : List LogItem) → P d → new ≡ log ++ d ∷ [] → GoesOnBy P log new
one_more P d log new is more = record { since = d ∷ []; are = more; only = one_item P d is }

pub goes_on : (P : LogItem → Type 0) (log between new : List LogItem) → GoesOnBy P log between → GoesOnBy P between new → GoesOnBy P log new
goes_on P log between new first next = record {
  since = first.since ++ next.since;
  are = next.are ∙ ap (λ (ds : List LogItem). ds ++ next.since) first.are ∙ append_assoc log first.since next.since;
  only = All-append P first.since next.since first.only next.only;
}

-- the entry of a slot that is retired was snapped on each CPU, as the keeper is at rest
snapped_at : (a : Settings) (k : KeeperView) (rows : List KeptSlot) (n t c : ℕ) (e : Entry) → IsOurKeeper a k rows n → slot_at k.slots t ≡ Retired e → c < a.cpus
    → (w : ℕ) × ((mark_at k.marks t c).snapshot ≡ Some w)
snapped_at a k rows n t c e our is low =
    let g = our.is_shown.g in
    let seen = seen_by_keeper g k our.is_shown.good our.is_shown.shown in
    let rest : at_rest g.due ≡ true = ap at_rest (sym seen.due ∙ our.view.rest) in
    let gone : is_retired (slot_at g.slots t) ≡ true = ap is_retired (ap (λ (xs : List Slot). slot_at xs t) (sym seen.slots) ∙ is) in
    let lt : c < g.settings.cpus = subst (λ (s : Settings). c < s.cpus) (sym our.view.settings ∙ seen.settings) low in
    let x = snapshot_stands g t c our.is_shown.good.holds rest gone lt in
    (x.0, ap (λ (ms : List (List Mark)). (mark_at ms t c).snapshot) seen.marks ∙ x.1)

-- a keeper has no more slots than there may be
pub few_slots : (z : Settings) (k : OnKeeper) → HasOwnLog z k → length k.slots ≤ MOST_SLOTS
few_slots z k own =
    let shown = own.counts.1 in
    let seen = seen_by_keeper shown.g (keeper_with_note k.view own.counts.0) shown.good shown.shown in
    omega (arith, own.size, (ranges shown.g.settings shown.good.holds.fit).slots, ap (λ (s : Settings). s.slots) (sym own.settings ∙ seen.settings))

pub own_log : (a : Settings) (k : KeeperView) (rows : List KeptSlot) (n : ℕ) (log note : List LogItem) → IsOurKeeper a k rows n → IsOwnLog log note k
    → HasOwnLog a (record { view = k; slots = states_of rows; log = log })
own_log a k rows n log note our own = record {
  settings = our.view.settings;
  rest = our.view.rest;
  size = length-map rows state_of ∙ our.rows.size;
  changes = own.changes;
  marks = own.marks;
  slots = record {
    live = λ t e is. own.slots.live t e (live_in a k rows t e our.rows is).1;
    retired = λ t e is. own.slots.retired t e (retired_in a k rows t e our.rows is).1;
    vacant = λ t m c is gone low. own.slots.vacant t m c (slots_agree a k rows t our.view our.rows ∙ is) gone (subst (λ (s : Settings). c < s.cpus) (sym our.view.settings) low);
  };
  occupants = λ t.
      let shown = own.counts.1 in
      let seen = seen_by_keeper shown.g (keeper_with_note k own.counts.0) shown.good shown.shown in
      shown.counts.occupants t ∙ ap occupant_of (ap (λ (xs : List Slot). slot_at xs t) (sym seen.slots) ∙ slots_agree a k rows t our.view our.rows);
  snapped = λ t c e is low.
      let w = snapped_at a k rows n t c e our (retired_in a k rows t e our.rows is).1 low in
      (w.0, own.marks.snapped t c w.0 w.1);
  grow = own.grow;
  counts = own.counts;
}
