-- Whether a count of a retired entry was collected.
use Rattle.std.proofs.Common.{◌≡◌, ℕ, zero, suc, ◌+◌, ◌<◌, ◌≤◌, ◌||◌, Bool, true, false, Option, Some, None, inl, inr, refl, sym, ap, ◌∙◌, arith, add-one, ⊎_elim}
use Rattle.std.proofs.lemmas.Bool.{and_parts, cases_lt, eqb-true, false≢true}
use Rattle.c_calls.specs.Types.{Entry, Slot, Vacant, Live, Retired, ReferenceView}
use Rattle.std.specs.Prelude.{is_some}
use Rattle.registry_values.specs.Common.{is_retired_as, slot_at}
use Rattle.protocol.specs.Common.{mark_at}
use Rattle.cpu_words.specs.Common.{IsFoundCollected}
use Rattle.passive_list.specs.Common.{OnKeeper}
use Rattle.c_calls.specs.LocalCalls.{are_collected_for, some_collected}

-- an entry that is retired as n has that number
pub numbered : (n : ℕ) (e : Entry) → is_retired_as n (Retired e) ≡ true → e.number ≡ n
numbered n e test = eqb-true e.number n test

pub retired_of : (n : ℕ) (x : Slot) → is_retired_as n x ≡ true → (e : Entry) × (x ≡ Retired e)
retired_of n Vacant test = absurd (false≢true test)
retired_of n (Live e) test = absurd (false≢true test)
retired_of n (Retired e) test = (e, refl)

or_true : (b : Bool) → (b || true) ≡ true
or_true true = refl
or_true false = refl

-- one that was collected is one of those up to any later CPU
pub some_now : (k : OnKeeper) (t c : ℕ) → (mark_at k.view.marks t c).collected ≡ true → some_collected k t (c + 1) ≡ true
some_now k t c is = ap (some_collected k t) (add-one c) ∙ (ap (λ b. some_collected k t c || b) is ∙ or_true (some_collected k t c))

pub some_stays : (k : OnKeeper) (t m n : ℕ) → m ≤ n → some_collected k t m ≡ true → some_collected k t n ≡ true
some_stays k t m zero le is = let zero_too : m ≡ 0 = omega (arith, le) in ap (some_collected k t) (sym zero_too) ∙ is
some_stays k t m (suc n) le is = ⊎_elim
    (λ (lt : m < suc n). ap (λ b. b || (mark_at k.view.marks t n).collected) (some_stays k t m n (omega (arith, lt)) is))
    (λ (ge : suc n ≤ m). let same : m ≡ suc n = omega (arith, le, ge) in ap (some_collected k t) (sym same) ∙ is)
    (cases_lt m (suc n))

pub none_below : (k : OnKeeper) (t m n : ℕ) → m ≤ n → some_collected k t n ≡ false → some_collected k t m ≡ false
none_below k t m n le none = by (some_collected k t m) refl
  where
    by : (b : Bool) → some_collected k t m ≡ b → some_collected k t m ≡ false
    by true is = absurd (false≢true (sym none ∙ some_stays k t m n le is))
    by false is = is

some_of : (k : OnKeeper) (t n : ℕ) → some_collected k t n ≡ true → (c : ℕ) × ((mark_at k.view.marks t c).collected ≡ true)
some_of k t zero is = absurd (false≢true is)
some_of k t (suc n) is = by (λ before. some_of k t n before) (some_collected k t n) refl (mark_at k.view.marks t n).collected refl
  where
    by : (some_collected k t n ≡ true → (c : ℕ) × ((mark_at k.view.marks t c).collected ≡ true)) → (a : Bool) → some_collected k t n ≡ a → (b : Bool) → (mark_at k.view.marks t n).collected ≡ b
        → (c : ℕ) × ((mark_at k.view.marks t c).collected ≡ true)
    by rest true before b at = rest before
    by rest false before true at = (n, at)
    by rest false before false at = absurd (false≢true (sym (λ i. before i || at i) ∙ is))

-- such an entry has a count that was found collected
pub collected_found : (k : OnKeeper) (t n cpus : ℕ) (v : ReferenceView) → v.entry.number ≡ n → are_collected_for k t n cpus ≡ true → IsFoundCollected k.slots k.view.marks v
collected_found k t n cpus v number is =
    let both = and_parts (is_retired_as n (slot_at k.slots t)) (some_collected k t cpus) is in
    let gone = retired_of n (slot_at k.slots t) both.0 in
    let some = some_of k t cpus both.1 in
    inr (t, some.0, gone.0, gone.1, numbered n gone.0 (ap (is_retired_as n) (sym gone.1) ∙ both.0) ∙ sym number, some.1)

pub back_found : (k : OnKeeper) (v : ReferenceView) → is_some v.collected ≡ true → IsFoundCollected k.slots k.view.marks v
back_found k v is = by v.collected refl
  where
    by : (o : Option ℕ) → v.collected ≡ o → IsFoundCollected k.slots k.view.marks v
    by None none = absurd (false≢true (sym (ap is_some none) ∙ is))
    by (Some c) some = inl (c, some)
