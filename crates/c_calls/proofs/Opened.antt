-- Opening a registry: the seats of its CPUs, taken from the last, the CPUs made of them, and what is answered.
use Rattle.std.proofs.Common.{◌≡◌, ℕ, zero, suc, ◌+◌, ◌<◌, ◌≤◌, List, [], ◌∷◌, ◌++◌, length, Option, Some, None, refl, sym, ◌∙◌, subst, arith, length-append, ◌-◌, ap, ⊎_elim, ◌≢◌, true, false}
use Rattle.std.proofs.lemmas.Bool.{cases_lt, false≢true}
use mathlib.Core.Option.{some-injective, some}
use lib.ListN.{get_elem?}
use Rattle.atomic_table.specs.Seated.{TableId}
use Rattle.atomic_table.proofs.Lists.{at_last}
use Rattle.c_calls.specs.Types.{Settings, CpuView, BadSettings, Inside, MissingCpu}
use Rattle.registry_values.specs.Common.{are_fit, number_of_refusal}
use Rattle.cpu_words.specs.Common.{Seated, new_cpu, AreSeats, Named}
use Rattle.passive_list.specs.Common.{OnPlainCpu, OnPlainKeeper}
use Rattle.c_handles.specs.declared.values.plain.TheConstants.{DONE, FULL_HANDLE, NULL}
use Rattle.c_handles.specs.declared.values.plain.CSettings.{CSettings}
use Rattle.c_handles.specs.values.Texts.{settings_in}
use Rattle.c_handles.specs.declared.handle.KeeperHandle.{KeeperHandle}
use Rattle.c_calls.specs.Opening.{AreGiven, AreOutside, Closes, OpensNowhere, body_at, is_inside_of, keeper_of, opened_cpu, opened_down, AreEmpty, HasOpened, IsFull, IsSomeFull, IsSomeInside, Opens, OpensBy, OpensFree, StaysClosed}
use Rattle.c_calls.proofs.Handles.{at_front, no_body, none_past}

-- The seats of new CPUs, taken from the last.

-- the seats of the first CPUs, of all or of fewer
pub record AreLeft (table : TableId) (z : Settings) (seats : List (Seated CpuView)) : Type 0 where
  pub few : length seats ≤ z.cpus
  pub are : AreSeats table z (length seats) seats

pub all_left : (table : TableId) (z : Settings) (seats : List (Seated CpuView)) → AreSeats table z z.cpus seats → AreLeft table z seats
all_left table z seats are = record { few = omega (arith, are.count); are = subst (λ n. AreSeats table z n seats) (sym are.count) are }

-- The last seat is that of the CPU whose number is how many are before it; and those are left.
pub record LastTaken (table : TableId) (z : Settings) (seats : List (Seated CpuView)) (seat : Seated CpuView) : Type 0 where
  pub few : length seats < z.cpus
  pub last : seat ≡ record { table = table; view = new_cpu z (length seats); log = []; known_log = []; noted_log = []; teller = None; list = []; ends = [] }
  pub left : AreLeft table z seats

pub take_last : (table : TableId) (z : Settings) (all seats : List (Seated CpuView)) (seat : Seated CpuView) → all ≡ seats ++ seat ∷ [] → AreLeft table z all → LastTaken table z seats seat
take_last table z all seats seat is some_left =
    let n : length (seats ++ seat ∷ []) ≡ length seats + 1 = length-append seats (seat ∷ []) in
    let left = subst (λ (l : List (Seated CpuView)). AreLeft table z l) is some_left in
    let few : length seats < z.cpus = omega (arith, n, left.few) in
    record {
      few = few;
      last = some-injective _ _ (sym (at_last seats seat (length seats) refl) ∙ left.are.each (length seats) (omega (arith, n)));
      left = record { few = omega (arith, few); are = record { count = refl; each = λ c lt. sym (at_front seats (seat ∷ []) c lt) ∙ left.are.each c (omega (arith, n, lt)) } };
    }

-- The CPUs of a new registry, made from the last.

-- one CPU more
pub down_more : (w : Named) (n left : ℕ) (xs : List OnPlainCpu) (x : OnPlainCpu) → left < n → xs ≡ opened_down w n (n - (left + 1)) → x ≡ opened_cpu w left → xs ++ x ∷ [] ≡ opened_down w n (n - left)
down_more w n left xs x lt so_far is =
    let k = n - (left + 1) in
    let one : n - suc k ≡ left = omega (arith, lt) in
    let more : suc k ≡ n - left = omega (arith, lt) in
    (λ i. so_far i ++ (is ∙ ap (opened_cpu w) (sym one)) i ∷ []) ∙ ap (opened_down w n) more

pub count_down : (w : Named) (n k : ℕ) → length (opened_down w n k) ≡ k
count_down w n zero = refl
count_down w n (suc k) = length-append (opened_down w n k) (opened_cpu w (n - suc k) ∷ []) ∙ omega (arith, count_down w n k)

-- the one at place i from the greatest
pub down_at : (w : Named) (n k i : ℕ) → i < k → get_elem? (opened_down w n k) i ≡ some (opened_cpu w (n - suc i))
down_at w n zero i lt = absurd (omega (arith, lt))
down_at w n (suc k) i lt = ⊎_elim
    (λ (less : i < k). at_front (opened_down w n k) (opened_cpu w (n - suc k) ∷ []) i (omega (arith, less, count_down w n k)) ∙ down_at w n k i less)
    (λ (past : k ≤ i).
    let is : i ≡ k = omega (arith, lt, past) in
    at_last (opened_down w n k) (opened_cpu w (n - suc k)) i (count_down w n k ∙ sym is) ∙ ap (λ (j : ℕ). some (opened_cpu w (n - suc j))) (sym is))
    (cases_lt i k)

-- the handles that were given all of them have them in their order
pub given_open : (w : Named) (n : ℕ) (all : List OnPlainCpu) (cs : List (Option OnPlainCpu)) → all ≡ opened_down w n n → AreGiven all n cs n → (c : ℕ) → c < n → body_at cs c ≡ Some (opened_cpu w c)
given_open w n all cs is given c lt =
    let had = given c lt in
    let back : n - suc (n - suc c) ≡ c = omega (arith, lt) in
    let at : get_elem? all (n - suc c) ≡ some (opened_cpu w c) =
    ap (λ (l : List OnPlainCpu). get_elem? l (n - suc c)) is ∙ (down_at w n n (n - suc c) (omega (arith, lt)) ∙ ap (λ (j : ℕ). some (opened_cpu w j)) back) in
    had.1 ∙ ap Some (some-injective _ _ (sym had.2 ∙ at))

-- What opening a registry answers, by the test that it came to.

none_full : (k : Option OnPlainKeeper) (cs : List (Option OnPlainCpu)) → k ≡ None → AreEmpty cs → IsFull k cs → ⊥
none_full k cs none empty full = ⊎_elim
    (λ (some : (a : OnPlainKeeper) × (k ≡ Some a)). no_body k some.0 some.1 none)
    (λ (some : IsSomeFull cs). no_body _ some.1 some.2 (empty some.0))
    full

module _ (given : CSettings) (k k' : Option OnPlainKeeper) (cs cs' : List (Option OnPlainCpu)) where
  pub bad_settings : are_fit (settings_in given) ≡ false → StaysClosed k k' cs cs' → OpensFree given k k' cs cs' (number_of_refusal BadSettings)
  bad_settings unfit stays = record {
    bad = λ _. (refl, stays);
    missing = λ fit _. absurd (false≢true (sym unfit ∙ fit));
    made = λ fit _. absurd (false≢true (sym unfit ∙ fit));
  }

  pub missing_cpu : are_fit (settings_in given) ≡ true → length cs ≢ given.cpus → StaysClosed k k' cs cs' → OpensFree given k k' cs cs' (number_of_refusal MissingCpu)
  missing_cpu fit off stays = record {
    bad = λ unfit. absurd (false≢true (sym unfit ∙ fit));
    missing = λ _ _. (refl, stays);
    made = λ _ count. absurd (off count);
  }

  pub fit_opened : (n : ℕ) → are_fit (settings_in given) ≡ true → length cs ≡ given.cpus → HasOpened (settings_in given) k k' cs cs' n → OpensFree given k k' cs cs' n
  fit_opened n fit count opened = record {
    bad = λ unfit. absurd (false≢true (sym unfit ∙ fit));
    missing = λ _ off. absurd (off count);
    made = λ _ _. opened;
  }

module _ (given : Option CSettings) (k k' : Option OnPlainKeeper) (cs cs' : List (Option OnPlainCpu)) where
  pub full_handle : IsFull k cs → StaysClosed k k' cs cs' → Opens given k k' cs cs' FULL_HANDLE
  full_handle full stays = record { full = λ _. (refl, stays); free = λ none empty. absurd (none_full k cs none empty full) }

  -- it came to the opening
  pub came_to_open : (n : ℕ) → k ≡ None → AreEmpty cs → OpensBy given k k' cs cs' n → Opens given k k' cs cs' n
  came_to_open n none empty opened = record { full = λ full. absurd (none_full k cs none empty full); free = λ _ _. opened }

-- A CPU that is inside isn't outside.
pub none_inside : (cs : List (Option OnPlainCpu)) → AreOutside cs → IsSomeInside cs → ⊥
none_inside cs outside inside = false≢true (sym (outside inside.0) ∙ inside.1)

-- past the last handle there is nothing inside
pub all_outside : (cs : List (Option OnPlainCpu)) (n : ℕ) → length cs ≤ n → ((k : ℕ) → k < n → is_inside_of (body_at cs k) ≡ false) → AreOutside cs
all_outside cs n le below c = ⊎_elim
    (λ (lt : c < n). below c lt)
    (λ (ge : n ≤ c). ap is_inside_of (none_past cs c (omega (arith, le, ge))))
    (cases_lt c n)

-- so they are empty, if each of those that are there is
pub all_empty : (cs : List (Option OnPlainCpu)) (n : ℕ) → length cs ≤ n → ((k : ℕ) → k < n → body_at cs k ≡ None) → AreEmpty cs
all_empty cs n le below c = ⊎_elim
    (λ (lt : c < n). below c lt)
    (λ (ge : n ≤ c). none_past cs c (omega (arith, le, ge)))
    (cases_lt c n)

-- What a close answers

pub closes_none : (k k' : Option KeeperHandle) (cs cs' : List (Option OnPlainCpu)) (n : ℕ) → IsSomeInside cs → n ≡ number_of_refusal Inside → k' ≡ k → cs' ≡ cs → Closes k k' cs cs' n
closes_none k k' cs cs' n had number same stay = record { inside = λ _. (number, same, stay); outside = λ all. absurd (none_inside cs all had) }

pub closes_all : (k k' : Option KeeperHandle) (cs cs' : List (Option OnPlainCpu)) (n : ℕ) → AreOutside cs → n ≡ DONE → keeper_of k' ≡ None → AreEmpty cs' → Closes k k' cs cs' n
closes_all k k' cs cs' n all number gone empty = record { inside = λ had. absurd (none_inside cs all had); outside = λ _. (number, gone, empty) }

-- What an opening returns that has no handles of CPUs, though it should

pub nowhere_full : (k k' : Option OnPlainKeeper) (a : OnPlainKeeper) → k ≡ Some a → k' ≡ k → OpensNowhere k k' FULL_HANDLE
nowhere_full k k' a is same = record { full = λ _ _. (refl, same); null = λ none. absurd (no_body k a is none) }

pub nowhere_null : (k k' : Option OnPlainKeeper) → k ≡ None → k' ≡ k → OpensNowhere k k' NULL
nowhere_null k k' none same = record { full = λ a is. absurd (no_body k a is none); null = λ _. (refl, same) }
