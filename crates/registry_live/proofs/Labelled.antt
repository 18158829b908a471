-- What becomes of the references that CPUs hold and of those that labels name, call by call.
use Rattle.std.proofs.Common.{◌≡◌, ◌≢◌, ⊎_elim, ℕ, zero, suc, ◌+◌, ◌-◌, ◌<◌, ◌≤◌, ◌==◌, ◌&&◌, Bool, true, false, cond, List, [], ◌∷◌, length, map, get_or, take, set, replicate, Option, Some, None, refl, sym, ap, ◌∙◌, subst, nat_lt, ℤ, pos, ◌-ℤ◌, arith}
use mathlib.Core.Path.{subst₂}
use Rattle.std.proofs.Math.Path.{fun_ext}
use Rattle.std.proofs.lemmas.Bool.{cases_eq, cases_Bool, eq-eqb, ne_eqb, eqb-true, ltb-true, ltb-false, and_parts, false≢true}
use Rattle.std.proofs.Math.Seq.{take-length}
use Rattle.std.proofs.lemmas.Int.{ints}
use Rattle.std.proofs.lemmas.List.{set-get_or}
use Rattle.std.proofs.lemmas.List.Sums.{count_by_more_no, count_by_more_yes, sum_by-cons, sum_by-set}
use Rattle.std.specs.Prelude.{IfErr, IfOk, Result, Ok, Err, is_some}
use Rattle.atomic_table.proofs.Lists.{at_index}
use Rattle.name_registry.specs.Types.{Entry, Refusal, CpuView}
use Rattle.registry_values.specs.Answers as answers
use Rattle.protocol.specs.Common.{one_if}
use Rattle.cpu_words.specs.Common.{references_to, without}
use Rattle.cpu_words.proofs.shown.ReferenceLists.{one_less, others_stay, to_cons}
use Rattle.passive_list.specs.Common.{OnCpu}
use Rattle.name_registry.specs.Common.{AreAllCpus, HaveLearned}
use Rattle.passive_ref.specs.{GivesBack, HasOneLess, IsAcquired, IsNew, OnPsref, why_unusable}
use Rattle.registry_report.specs.declared.hitch.Hitch.{Hitch}
use Rattle.registry_live.specs.{Decides, Has, hitch_of, unless_free, unless_taken, HaveReleased, HoldTheSame, Lent, StayInside, inside_of, is_label_to, labels_to, references_at, unlabelled}

-- from the CPUs xs and the places ps to ys and qs: each CPU holds what it held beside what labels name
abbrev pub Keeps : List OnCpu → List (Option OnPsref) → List OnCpu → List (Option OnPsref) → Type 0
Keeps xs ps ys qs = unlabelled ys qs ≡ unlabelled xs ps

-- one reference of the CPU c to m, as the CPU k and the entry n see it
one_label : ℕ → ℕ → ℕ → ℕ → ℕ
one_label c m k n = cond (c == k && m == n) 1 0

-- What the CPUs hold, where one of them has changed

suc_same : (c k : ℕ) → (suc c == suc k) ≡ (c == k)
suc_same c k = ⊎_elim
    (λ (same : c ≡ k). eq-eqb (suc c) (suc k) (ap suc same) ∙ sym (eq-eqb c k same))
    (λ (off : c ≢ k). ne_eqb (suc c) (suc k) (λ is. off (omega (arith, is))) ∙ sym (ne_eqb c k off))
    (cases_eq c k)

one_later : (c m k n : ℕ) → one_label (suc c) m (suc k) n ≡ one_label c m k n
unfolding one_label
one_later c m k n = ap (λ (b : Bool). cond (b && m == n) 1 0) (suc_same c k)

plus_none : (a b : ℕ) → b ≡ 0 → a ≡ a + b
plus_none a b none = omega (arith, none)

pub same_each : (xs : List OnCpu) (c : ℕ) (d y : OnCpu) → y.view.references ≡ (get_or xs c d).view.references → (k n : ℕ) → references_at (set xs c y) k n ≡ references_at xs k n
same_each [] c d y is k n = refl
same_each (x ∷ xs) zero d y is zero n = ap (references_to n) is
same_each (x ∷ xs) zero d y is (suc k) n = refl
same_each (x ∷ xs) (suc c) d y is zero n = refl
same_each (x ∷ xs) (suc c) d y is (suc k) n = same_each xs c d y is k n

more_each : (xs : List OnCpu) (c : ℕ) (e : Entry) (d y : OnCpu) → c < length xs → y.view.references ≡ e ∷ (get_or xs c d).view.references → (k n : ℕ)
    → references_at (set xs c y) k n ≡ references_at xs k n + one_label c e.number k n
unfolding one_label
more_each [] c e d y lt is k n = absurd (omega (arith, lt))
more_each (x ∷ xs) zero e d y lt is zero n = let at = ap (references_to n) is in let all = to_cons n e x.view.references in omega (arith, at, all)
more_each (x ∷ xs) zero e d y lt is (suc k) n =
    plus_none (references_at xs k n) (one_label zero e.number (suc k) n) (ap (λ (b : Bool). cond (b && e.number == n) 1 0) (ne_eqb zero (suc k) (λ is. omega (arith, is))))
more_each (x ∷ xs) (suc c) e d y lt is zero n =
    plus_none (references_to n x.view.references) (one_label (suc c) e.number zero n) (ap (λ (b : Bool). cond (b && e.number == n) 1 0) (ne_eqb (suc c) zero (λ is. omega (arith, is))))
more_each (x ∷ xs) (suc c) e d y lt is (suc k) n = more_each xs c e d y (omega (arith, lt)) is k n ∙ ap (λ (b : ℕ). references_at xs k n + b) (sym (one_later c e.number k n))

one_gone : (m n : ℕ) (es : List Entry) → 0 < references_to m es → references_to n (without m es) + cond (m == n) 1 0 ≡ references_to n es
one_gone m n es some = ⊎_elim
    (λ (same : m ≡ n).
    let one : cond (m == n) 1 0 ≡ 1 = ap one_if (eq-eqb m n same) in
    let less : references_to n (without m es) + 1 ≡ references_to n es = subst (λ (k : ℕ). references_to k (without m es) + 1 ≡ references_to k es) same (one_less m es some) in
    omega (arith, one, less))
    (λ (off : m ≢ n).
    let none : cond (m == n) 1 0 ≡ 0 = ap one_if (ne_eqb m n off) in
    let rest = others_stay m n es (λ is. off (sym is)) in
    omega (arith, none, rest))
    (cases_eq m n)

less_each : (xs : List OnCpu) (c m : ℕ) (d y : OnCpu) → c < length xs → y.view.references ≡ without m (get_or xs c d).view.references → 0 < references_to m (get_or xs c d).view.references
    → (k n : ℕ) → references_at (set xs c y) k n + one_label c m k n ≡ references_at xs k n
unfolding one_label
less_each [] c m d y lt is some k n = absurd (omega (arith, lt))
less_each (x ∷ xs) zero m d y lt is some zero n = let at = ap (references_to n) is in let less = one_gone m n x.view.references some in omega (arith, at, less)
less_each (x ∷ xs) zero m d y lt is some (suc k) n =
    sym (plus_none (references_at xs k n) (one_label zero m (suc k) n) (ap (λ (b : Bool). cond (b && m == n) 1 0) (ne_eqb zero (suc k) (λ is. omega (arith, is)))))
less_each (x ∷ xs) (suc c) m d y lt is some zero n =
    sym (plus_none (references_to n x.view.references) (one_label (suc c) m zero n) (ap (λ (b : Bool). cond (b && m == n) 1 0) (ne_eqb (suc c) zero (λ is. omega (arith, is)))))
less_each (x ∷ xs) (suc c) m d y lt is some (suc k) n = ap (λ (b : ℕ). references_at (set xs c y) k n + b) (one_later c m k n) ∙ less_each xs c m d y (omega (arith, lt)) is some k n

-- What labels name, if one place has changed

filled : (ps : List (Option OnPsref)) (i : ℕ) (d : Option OnPsref) (p : OnPsref) → i < length ps → get_or ps i d ≡ None → (k n : ℕ)
    → labels_to (set ps i (Some p)) k n ≡ labels_to ps k n + one_label p.cpu p.number k n
unfolding one_label
filled ps i d p lt is k n =
    let f : Option OnPsref → ℕ = λ o. cond (is_label_to k n o) 1 0 in
    let none : f (get_or ps i d) ≡ 0 = ap f is in
    let all : labels_to (set ps i (Some p)) k n + f (get_or ps i d) ≡ labels_to ps k n + one_label p.cpu p.number k n = sum_by-set f ps i (Some p) d lt in
    omega (arith, none, all)

emptied : (ps : List (Option OnPsref)) (i : ℕ) (d : Option OnPsref) (p : OnPsref) → i < length ps → get_or ps i d ≡ Some p → (k n : ℕ)
    → labels_to (set ps i None) k n + one_label p.cpu p.number k n ≡ labels_to ps k n
unfolding one_label
emptied ps i d p lt is k n =
    let f : Option OnPsref → ℕ = λ o. cond (is_label_to k n o) 1 0 in
    let one : f (get_or ps i d) ≡ one_label p.cpu p.number k n = ap f is in
    let all : labels_to (set ps i None) k n + f (get_or ps i d) ≡ labels_to ps k n + 0 = sum_by-set f ps i None d lt in
    omega (arith, one, all)

-- a CPU by its number
pub named_id : (m : ℕ) (xs : List OnCpu) (c : ℕ) (x : OnCpu) → AreAllCpus m xs → c < length xs → x ≡ get_or xs c x → (get_or xs c x).view.id ≡ c
named_id m xs c x all few is = ap (λ (u : OnCpu). u.view.id) (sym is) ∙ all.each c x (at_index xs c x few is)

-- Both together

keeps_same : (xs ys : List OnCpu) (ps : List (Option OnPsref)) → ((k n : ℕ) → references_at ys k n ≡ references_at xs k n) → Keeps xs ps ys ps
keeps_same xs ys ps same = fun_ext (λ k. fun_ext (λ n. ap (λ (r : ℕ). pos r -ℤ pos (labels_to ps k n)) (same k n)))

gained : (xs ys : List OnCpu) (ps qs : List (Option OnPsref)) (b : ℕ → ℕ → ℕ) → ((k n : ℕ) → references_at ys k n ≡ references_at xs k n + b k n)
    → ((k n : ℕ) → labels_to qs k n ≡ labels_to ps k n + b k n) → Keeps xs ps ys qs
gained xs ys ps qs b more labels = fun_ext (λ k. fun_ext (λ n. let r = more k n in let l = labels k n in omega (arith, ints, r, l)))

lost : (xs ys : List OnCpu) (ps qs : List (Option OnPsref)) (b : ℕ → ℕ → ℕ) → ((k n : ℕ) → references_at ys k n + b k n ≡ references_at xs k n)
    → ((k n : ℕ) → labels_to qs k n + b k n ≡ labels_to ps k n) → Keeps xs ps ys qs
lost xs ys ps qs b less labels = fun_ext (λ k. fun_ext (λ n. let r = less k n in let l = labels k n in omega (arith, ints, r, l)))

-- a CPU goes on and keeps its references
pub goes_on : (xs : List OnCpu) (ps : List (Option OnPsref)) (c : ℕ) (d y : OnCpu) → y.view.references ≡ (get_or xs c d).view.references → Keeps xs ps (set xs c y) ps
goes_on xs ps c d y is = keeps_same xs (set xs c y) ps (same_each xs c d y is)

-- a place is as it was, too
refused_at : (xs : List OnCpu) (ps : List (Option OnPsref)) (c i : ℕ) (d y : OnCpu) (o q : Option OnPsref) → q ≡ get_or ps i o → y ≡ get_or xs c d → Keeps xs ps (set xs c y) (set ps i q)
refused_at xs ps c i d y o q place cpu =
    let stays : set ps i q ≡ ps = ap (λ (r : Option OnPsref). set ps i r) place ∙ set-get_or ps i o in
    subst (λ (l : List (Option OnPsref)). Keeps xs ps (set xs c y) l) (sym stays) (goes_on xs ps c d y (ap (λ (u : OnCpu). u.view.references) cpu))

-- the free place has a new reference of the CPU
pub takes_label : (xs : List OnCpu) (ps : List (Option OnPsref)) (c i : ℕ) (e : Entry) (d y : OnCpu) (o : Option OnPsref) (p : OnPsref) → c < length xs → (get_or xs c d).view.id ≡ c → i < length ps
    → get_or ps i o ≡ None
    → IsNew e (get_or xs c d) y p → Keeps xs ps (set xs c y) (set ps i (Some p))
takes_label xs ps c i e d y o p few named few_labels free new =
    let labels : (k n : ℕ) → labels_to (set ps i (Some p)) k n ≡ labels_to ps k n + one_label c e.number k n =
    subst (λ (m : ℕ). (k n : ℕ) → labels_to (set ps i (Some p)) k n ≡ labels_to ps k n + one_label c m k n) new.number
    (subst (λ (a : ℕ). (k n : ℕ) → labels_to (set ps i (Some p)) k n ≡ labels_to ps k n + one_label a p.number k n) (new.cpu ∙ named) (filled ps i o p few_labels free)) in
    gained xs (set xs c y) ps (set ps i (Some p)) (one_label c e.number) (more_each xs c e d y few (ap (λ (u : OnCpu). u.view.references) new.after)) labels

-- the place is free, and the CPU has released the reference that was there
leaves_label : (xs : List OnCpu) (ps : List (Option OnPsref)) (c i : ℕ) (d y : OnCpu) (o : Option OnPsref) (p : OnPsref) → c < length xs → p.cpu ≡ c
    → 0 < references_to p.number (get_or xs c d).view.references → i < length ps → get_or ps i o ≡ Some p
    → HasOneLess p.number (get_or xs c d) y → Keeps xs ps (set xs c y) (set ps i None)
leaves_label xs ps c i d y o p few own some few_labels there less =
    let labels : (k n : ℕ) → labels_to (set ps i None) k n + one_label c p.number k n ≡ labels_to ps k n =
    subst (λ (a : ℕ). (k n : ℕ) → labels_to (set ps i None) k n + one_label a p.number k n ≡ labels_to ps k n) own (emptied ps i o p few_labels there) in
    lost xs (set xs c y) ps (set ps i None) (one_label c p.number) (less_each xs c p.number d y few (ap (λ (u : OnCpu). u.view.references) less) some) labels

-- By the answers

free_of : (o : Option OnPsref) (why : Option Refusal) → unless_taken (is_some o) why ≡ None → o ≡ None
free_of None why is = refl
free_of (Some p) why is = absurd (false≢true (sym (ap is_some is)))

-- the label names what was acquired, or the call was refused
pub refers : (xs : List OnCpu) (ps : List (Option OnPsref)) (c i : ℕ) (d y : OnCpu) (o q : Option OnPsref) (why : Option Refusal) (answer : Result ℕ Hitch) → c < length xs
    → (get_or xs c d).view.id ≡ c → i < length ps
    → Decides (unless_taken (is_some (get_or ps i o)) why) (λ m. Has q (λ p. (p.number ≡ m) × IsAcquired (get_or xs c d) y p)) answer → IfErr answer (λ h. (q ≡ get_or ps i o) × (y ≡ get_or xs c d))
    → Keeps xs ps (set xs c y) (set ps i q)
refers xs ps c i d y o q why (Ok m) few named few_labels is refused =
    subst (λ (r : Option OnPsref). Keeps xs ps (set xs c y) (set ps i r)) (sym is.1.1)
    (takes_label xs ps c i is.1.2.1.0 d y o is.1.0 few named few_labels (free_of (get_or ps i o) why is.0) is.1.2.1.2)
refers xs ps c i d y o q why (Err h) few named few_labels is refused = refused_at xs ps c i d y o q refused.0 refused.1

-- a copy was made: its place was free
pub copied_free : (src o : Option OnPsref) (taken : Bool) (f : OnPsref → Option Refusal) → taken ≡ is_some o → unless_free src (λ q. unless_taken taken (f q)) ≡ None → o ≡ None
copied_free None o taken f is why = absurd (false≢true (sym (ap is_some why)))
copied_free (Some q) o taken f is why = free_of o (f q) (ap (λ (b : Bool). unless_taken b (f q)) (sym is) ∙ why)

none_usable : (own held : Bool) → answers.why_unusable own held ≡ None → (own ≡ true) × (held ≡ true)
none_usable true true is = (refl, refl)
none_usable true false is = absurd (false≢true (sym (ap is_some is)))
none_usable false held is = absurd (false≢true (sym (ap is_some is)))

-- the CPU may use the reference: it is its own, and it holds one to that number
pub usable : (x : CpuView) (p : OnPsref) → why_unusable x p ≡ None → (p.cpu ≡ x.id) × (0 < references_to p.number x.references)
usable x p is =
    let both = none_usable (p.cpu == x.id) (nat_lt 0 (references_to p.number x.references)) is in
    (eqb-true p.cpu x.id both.0, ltb-true 0 (references_to p.number x.references) both.1)

not_refused : (why : Option Refusal) → hitch_of why ≡ None → why ≡ None
not_refused None is = refl
not_refused (Some f) is = absurd (false≢true (sym (ap is_some is)))

-- the label is free, or the call was refused
pub lets_go : (xs : List OnCpu) (ps : List (Option OnPsref)) (c i : ℕ) (d y : OnCpu) (o q : Option OnPsref) (answer : Result ℕ Hitch) → c < length xs → (get_or xs c d).view.id ≡ c → i < length ps
    → Decides (unless_free (get_or ps i o) (λ p. hitch_of (why_unusable (get_or xs c d).view p))) (λ m. Has (get_or ps i o) (λ p. (p.number ≡ m) × HasOneLess m (get_or xs c d) y)) answer
    → IfOk answer (λ m. q ≡ None)
    → IfErr answer (λ h. (q ≡ get_or ps i o) × (y ≡ get_or xs c d)) → Keeps xs ps (set xs c y) (set ps i q)
lets_go xs ps c i d y o q (Ok m) few named few_labels is free refused =
    let p : OnPsref = is.1.0 in
    let may = usable (get_or xs c d).view p (not_refused (why_unusable (get_or xs c d).view p)
    (ap (λ (r : Option OnPsref). unless_free r (λ s. hitch_of (why_unusable (get_or xs c d).view s))) (sym is.1.1) ∙ is.0)) in
    let less : HasOneLess p.number (get_or xs c d) y = subst (λ (n : ℕ). HasOneLess n (get_or xs c d) y) (sym is.1.2.0) is.1.2.1 in
    subst (λ (r : Option OnPsref). Keeps xs ps (set xs c y) (set ps i r)) (sym free)
    (leaves_label xs ps c i d y o p few (may.0 ∙ named) may.1 few_labels is.1.1 less)
lets_go xs ps c i d y o q (Err h) few named few_labels is free refused = refused_at xs ps c i d y o q refused.0 refused.1

-- all CPUs go on and keep their references
learned_each : (xs ys : List OnCpu) → HaveLearned xs ys → (k n : ℕ) → references_at ys k n ≡ references_at xs k n
learned_each [] [] h k n = refl
learned_each [] (y ∷ ys) h k n = absurd (omega (arith, h.size))
learned_each (x ∷ xs) [] h k n = absurd (omega (arith, h.size))
learned_each (x ∷ xs) (y ∷ ys) h zero n = ap (λ (u : OnCpu). references_to n u.view.references) (h.each zero x y refl refl).0.is
learned_each (x ∷ xs) (y ∷ ys) h (suc k) n = learned_each xs ys (record { size = omega (arith, h.size); each = λ c a b was now. h.each (suc c) a b was now }) k n

pub all_go_on : (xs ys : List OnCpu) (ps : List (Option OnPsref)) → HaveLearned xs ys → Keeps xs ps ys ps
all_go_on xs ys ps learned = keeps_same xs ys ps (learned_each xs ys learned)

-- What no command changes

abbrev lent_of : ℕ → (ℕ → ℕ → ℤ) → Lent
lent_of s u = record { slice = s; unlabelled = u }

pub lent : (s t : ℕ) (u v : ℕ → ℕ → ℤ) → t ≡ s → v ≡ u → lent_of t v ≡ lent_of s u
lent s t u v slice same = λ i. lent_of (slice i) (same i)

-- Giving back

pub goes_on_same : (xs : List OnCpu) (c : ℕ) (d y : OnCpu) → y.view.references ≡ (get_or xs c d).view.references → HoldTheSame xs (set xs c y)
goes_on_same xs c d y is = record { each = same_each xs c d y is }

pub stays_inside : (xs : List OnCpu) (c : ℕ) (d y : OnCpu) → inside_of y ≡ inside_of (get_or xs c d) → StayInside xs (set xs c y)
stays_inside [] c d y is = refl
stays_inside (x ∷ xs) zero d y is = λ i. is i ∷ map inside_of xs
stays_inside (x ∷ xs) (suc c) d y is = let rest = stays_inside xs c d y is in λ i. inside_of x ∷ rest i

pub same_on : (xs ys zs : List OnCpu) → HoldTheSame xs ys → HoldTheSame ys zs → HoldTheSame xs zs
same_on xs ys zs first second = record { each = λ c n. second.each c n ∙ first.each c n }

pub same_here : (xs : List OnCpu) → HoldTheSame xs xs
same_here xs = record { each = λ c n. refl }

-- the CPU holds what it holds, to the entry n
here_at : (xs : List OnCpu) (c n : ℕ) (d : OnCpu) → c < length xs → references_at xs c n ≡ references_to n (get_or xs c d).view.references
here_at [] c n d lt = absurd (omega (arith, lt))
here_at (x ∷ xs) zero n d lt = refl
here_at (x ∷ xs) (suc c) n d lt = here_at xs c n d (omega (arith, lt))

-- and past the last one there is nothing
beyond_at : (xs : List OnCpu) (c n : ℕ) → length xs ≤ c → references_at xs c n ≡ 0
beyond_at [] c n le = refl
beyond_at (x ∷ xs) zero n le = absurd (omega (arith, le))
beyond_at (x ∷ xs) (suc c) n le = beyond_at xs c n (omega (arith, le))

-- one place alone
single : (p : OnPsref) (c n : ℕ) → labels_to (Some p ∷ []) c n ≡ one_label p.cpu p.number c n
unfolding one_label
single p c n = let all : labels_to (Some p ∷ []) c n ≡ cond (p.cpu == c && p.number == n) 1 0 + 0 = sum_by-cons (λ (o : Option OnPsref). cond (is_label_to c n o) 1 0) (Some p) [] in omega (arith, all)

-- a reference that its CPU doesn't hold: nothing is left to release
unheld_released : (xs ys : List OnCpu) (p : OnPsref) → ((c n : ℕ) → references_at ys c n ≡ references_at xs c n) → references_at xs p.cpu p.number ≡ 0 → StayInside xs ys
    → HaveReleased xs (Some p ∷ []) ys
unfolding one_label
unheld_released xs ys p same unheld inside = record { each = each; inside = inside }
  where
    each : (c n : ℕ) → references_at ys c n ≡ references_at xs c n - labels_to (Some p ∷ []) c n
    each c n = ⊎_elim
        (λ (yes : (p.cpu == c && p.number == n) ≡ true).
        let both = and_parts (p.cpu == c) (p.number == n) yes in
        let none : references_at xs c n ≡ 0 = subst₂ (λ (k m : ℕ). references_at xs k m ≡ 0) (eqb-true p.cpu c both.0) (eqb-true p.number n both.1) unheld in
        let is = same c n in
        omega (arith, is, none))
        (λ (no : (p.cpu == c && p.number == n) ≡ false).
        let none : one_label p.cpu p.number c n ≡ 0 = ap one_if no in
        let is = same c n in
        let one = single p c n in
        omega (arith, is, none, one))
        (cases_Bool (p.cpu == c && p.number == n))

pub missing_released : (xs : List OnCpu) (p : OnPsref) → length xs ≤ p.cpu → HaveReleased xs (Some p ∷ []) xs
missing_released xs p le = unheld_released xs xs p (λ c n. refl) (beyond_at xs p.cpu p.number le) refl

-- where the reference's own CPU refused it, it holds none to that number
unheld : (x : CpuView) (p : OnPsref) (f : Refusal) → x.id ≡ p.cpu → why_unusable x p ≡ Some f → references_to p.number x.references ≡ 0
unheld x p f own why = ⊎_elim
    (λ (held : nat_lt 0 (references_to p.number x.references) ≡ true).
    let mine : (p.cpu == x.id) ≡ true = eq-eqb p.cpu x.id (sym own) in
    let usable : why_unusable x p ≡ None = λ i. answers.why_unusable (mine i) (held i) in
    absurd (false≢true (ap is_some (sym usable ∙ why))))
    (λ (none : nat_lt 0 (references_to p.number x.references) ≡ false). let few = ltb-false 0 (references_to p.number x.references) none in omega (arith, few))
    (cases_Bool (nat_lt 0 (references_to p.number x.references)))

-- the reference's own CPU was asked to release it
pub own_released : {X : Type 0} (xs : List OnCpu) (p : OnPsref) (d y : OnCpu) (answer : Result X (Refusal × OnPsref)) → p.cpu < length xs → (get_or xs p.cpu d).view.id ≡ p.cpu
    → GivesBack (why_unusable (get_or xs p.cpu d).view p) p (λ done. HasOneLess p.number (get_or xs p.cpu d) y) answer → IfErr answer (λ f. y ≡ get_or xs p.cpu d)
    → HaveReleased xs (Some p ∷ []) (set xs p.cpu y)
own_released xs p d y (Ok done) few named is refused =
    let some = (usable (get_or xs p.cpu d).view p is.0).1 in
    record {
      each = λ c n.
          let less = less_each xs p.cpu p.number d y few (ap (λ (u : OnCpu). u.view.references) is.1) some c n in
          let one = single p c n in
          omega (arith, less, one);
      inside = stays_inside xs p.cpu d y (ap inside_of is.1);
    }
own_released xs p d y (Err f) few named is refused =
    unheld_released xs (set xs p.cpu y) p (same_each xs p.cpu d y (ap (λ (u : OnCpu). u.view.references) refused))
    (here_at xs p.cpu p.number d few ∙ unheld (get_or xs p.cpu d).view p f.0 named is.0) (stays_inside xs p.cpu d y (ap inside_of refused))

-- the same of the reference in a place
pub place_released : {X : Type 0} (m : ℕ) (xs : List OnCpu) (n : ℕ) (x y : OnCpu) (p : OnPsref) (place : Option OnPsref) (answer : Result X (Refusal × OnPsref)) → AreAllCpus m xs → n < length xs
    → x ≡ get_or xs n x → place ≡ Some p → n ≡ p.cpu
    → GivesBack (why_unusable (get_or xs n x).view p) p (λ done. HasOneLess p.number (get_or xs n x) y) answer → IfErr answer (λ f. y ≡ get_or xs n x) → HaveReleased xs (place ∷ []) (set xs n y)
place_released m xs n x y p place answer all few is here own given refused =
    let named = named_id m xs n x all few is in
    let done : HaveReleased xs (Some p ∷ []) (set xs p.cpu y) = own_released xs p x y answer (subst (λ k. k < length xs) own few) (subst (λ k. (get_or xs k x).view.id ≡ k) own named)
    (subst (λ k. GivesBack (why_unusable (get_or xs k x).view p) p (λ d. HasOneLess p.number (get_or xs k x) y) answer) own given) (subst (λ k. IfErr answer (λ f. y ≡ get_or xs k x)) own refused) in
    subst (λ (o : Option OnPsref). HaveReleased xs (o ∷ []) (set xs n y)) (sym here) (subst (λ k. HaveReleased xs (Some p ∷ []) (set xs k y)) (sym own) done)

pub place_missing : (xs : List OnCpu) (n : ℕ) (p : OnPsref) (place : Option OnPsref) → place ≡ Some p → n ≡ p.cpu → length xs ≤ n → HaveReleased xs (place ∷ []) xs
place_missing xs n p place here own le = subst (λ (o : Option OnPsref). HaveReleased xs (o ∷ []) xs) (sym here) (missing_released xs p (omega (arith, own, le)))

pub none_left : (xs : List OnCpu) (ps : List (Option OnPsref)) → HaveReleased xs (take 0 ps) xs
none_left xs ps = record { each = λ c n. let none : labels_to (take 0 ps) c n ≡ 0 = refl in omega (arith, none); inside = refl }

-- the first k places and then the next one
pub released_next : (xs ys zs : List OnCpu) (ps : List (Option OnPsref)) (k : ℕ) (place : Option OnPsref) → k < length ps → HaveReleased xs (take k ps) ys → HaveReleased ys (place ∷ []) zs
    → place ≡ get_or ps k place → HaveReleased xs (take (k + 1) ps) zs
released_next xs ys zs ps k place lt first next is = record { each = each; inside = next.inside ∙ first.inside }
  where
    more : (c n : ℕ) → labels_to (take (k + 1) ps) c n ≡ labels_to (take k ps) c n + cond (is_label_to c n place) 1 0
    more c n = ⊎_elim
        (λ (yes : is_label_to c n place ≡ true).
        let one : cond (is_label_to c n place) 1 0 ≡ 1 = ap one_if yes in
        let all = count_by_more_yes (is_label_to c n) ps k place lt (ap (is_label_to c n) (sym is) ∙ yes) in
        omega (arith, one, all))
        (λ (no : is_label_to c n place ≡ false).
        let none : cond (is_label_to c n place) 1 0 ≡ 0 = ap one_if no in
        let all = count_by_more_no (is_label_to c n) ps k place lt (ap (is_label_to c n) (sym is) ∙ no) in
        omega (arith, none, all))
        (cases_Bool (is_label_to c n place))

    each : (c n : ℕ) → references_at zs c n ≡ references_at xs c n - labels_to (take (k + 1) ps) c n
    each c n =
        let one = first.each c n in
        let rest = next.each c n in
        let last : labels_to (place ∷ []) c n ≡ cond (is_label_to c n place) 1 0 + 0 = sum_by-cons (λ (o : Option OnPsref). cond (is_label_to c n o) 1 0) place [] in
        let all = more c n in
        omega (arith, one, rest, last, all)

pub all_released : (xs ys : List OnCpu) (ps : List (Option OnPsref)) → length ps ≡ 26 → HaveReleased xs (take 26 ps) ys → HaveReleased xs ps ys
all_released xs ys ps size first = subst (λ (l : List (Option OnPsref)). HaveReleased xs l ys) (take-length ps) (subst (λ (n : ℕ). HaveReleased xs (take n ps) ys) (sym size) first)

-- what the CPUs hold stayed before the places were emptied, and so did their sections
pub released_later : (xs ys zs : List OnCpu) (ps : List (Option OnPsref)) → HoldTheSame xs ys → StayInside xs ys → HaveReleased ys ps zs → HaveReleased xs ps zs
released_later xs ys zs ps same inside released = record {
  each = λ c n. released.each c n ∙ ap (λ (k : ℕ). k - labels_to ps c n) (same.each c n);
  inside = released.inside ∙ inside;
}

-- at the end each CPU holds what it held as the run began
pub given_back : (before xs after : List OnCpu) (ps : List (Option OnPsref)) → unlabelled xs ps ≡ unlabelled before (replicate 26 None) → HaveReleased xs ps after → HoldTheSame before after
given_back before xs after ps same released = record {
  each = λ c n.
      let r = released.each c n in
      let s : unlabelled xs ps c n ≡ unlabelled before (replicate 26 None) c n = ap (λ (f : ℕ → ℕ → ℤ). f c n) same in
      let none : labels_to (replicate 26 None) c n ≡ 0 = refl in
      omega (arith, ints, r, s, none);
}
