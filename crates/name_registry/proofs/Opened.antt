-- The CPUs of a new registry: each seat becomes its CPU, CPU 0 first.
use Rattle.std.proofs.Common.{◌≡◌, ◌∙◌, ℕ, ◌+◌, ◌<◌, List, [], ◌∷◌, ◌++◌, length, refl, sym, ap, subst, arith, length-append, below_more}
use Rattle.std.proofs.lemmas.List.{length-map, map-append}
use Rattle.std.specs.Global.{Box}
use mathlib.Core.Option.{some, some-injective}
use lib.ListN.{get_elem?}
use Rattle.atomic_table.specs.Seated.{TableId}
use Rattle.atomic_table.proofs.Lists.{at_longer, at_last}
use Rattle.name_registry.specs.Types.{Settings, CpuView}
use Rattle.cpu_words.specs.Common.{AreSeats, Named, Seated, cpu_seat}
use Rattle.passive_list.specs.Common.{OnCpu, OnPlainCpu}
use Rattle.name_registry.specs.Common.{AreNewCpus, AreOpened, boxed, new_on, opened_cpu}

at_seam : {A : Type 0} (xs : List A) (a : A) (ys : List A) → get_elem? (xs ++ a ∷ ys) (length xs) ≡ some a
at_seam [] a ys = refl
at_seam (x ∷ xs) a ys = at_seam xs a ys

-- what comes after others, in the list of the first n values of f
after : {A : Type 0} (f : ℕ → A) (n : ℕ) (all before more : List A) (a : A) → length all ≡ n → ((c : ℕ) → c < n → get_elem? all c ≡ some (f c)) → all ≡ before ++ a ∷ more → (length before < n) × (a ≡ f (length before))
after f n all before more a count each is =
    let k = length before in
    let long : k < n = omega (arith, count, ap length is ∙ length-append before (a ∷ more)) in
    (long, some-injective _ _ (sym (ap (λ l. get_elem? l k) is ∙ at_seam before a more) ∙ each k long))

-- one value more
one_more : {A : Type 0} (f : ℕ → A) (n : ℕ) (xs : List A) (x : A) → length xs ≡ n → ((c : ℕ) → c < n → get_elem? xs c ≡ some (f c)) → x ≡ f n → (c : ℕ) → c < n + 1 → get_elem? (xs ++ x ∷ []) c ≡ some (f c)
one_more f n xs x count each is = below_more _ n (λ c lt. at_longer xs (x ∷ []) c (f c) (each c lt)) (at_last xs x n count ∙ ap some is)

-- the seat that comes after n others is the CPU n's
pub seat_after : (table : TableId) (z : Settings) (all before more : List (Seated CpuView)) (s : Seated CpuView) → AreSeats table z z.cpus all → all ≡ before ++ s ∷ more
    → (length before < z.cpus) × (s ≡ cpu_seat table z (length before))
seat_after table z all before more s are is = after (cpu_seat table z) z.cpus all before more s are.count are.each is

-- the box that comes after n others has the CPU n
pub box_after : (w : Named) (n : ℕ) (all before more : List (Box OnPlainCpu)) (b : Box OnPlainCpu) → AreOpened w n (boxed all) → all ≡ before ++ b ∷ more
    → (length before < n) × (b.value ≡ opened_cpu w (length before))
box_after w n all before more b are is =
    let value = λ (x : Box OnPlainCpu). x.value in
    subst (λ (k : ℕ). (k < n) × (b.value ≡ opened_cpu w k)) (length-map before value)
    (after (opened_cpu w) n (boxed all) (boxed before) (boxed more) b.value are.count are.each (ap boxed is ∙ map-append value before (b ∷ more)))

pub more_boxed : (w : Named) (n : ℕ) (boxes : List (Box OnPlainCpu)) (b : Box OnPlainCpu) → AreOpened w n (boxed boxes) → b.value ≡ opened_cpu w n → AreOpened w (n + 1) (boxed (boxes ++ b ∷ []))
more_boxed w n boxes b are is =
    subst (AreOpened w (n + 1)) (sym (map-append (λ (x : Box OnPlainCpu). x.value) boxes (b ∷ [])))
    (record { count = length-append (boxed boxes) (b.value ∷ []) ∙ ap (λ k. k + 1) are.count; each = one_more (opened_cpu w) n (boxed boxes) b.value are.count are.each is })

pub more_cpus : (z : Settings) (n : ℕ) (xs : List OnCpu) (x : OnCpu) → AreNewCpus z n xs → x ≡ new_on z n → AreNewCpus z (n + 1) (xs ++ x ∷ [])
more_cpus z n xs x are is =
    record { count = length-append xs (x ∷ []) ∙ ap (λ k. k + 1) are.count; each = one_more (new_on z) n xs x are.count are.each is }
