-- The end of a session: CPUs release their passive references, and CPU 0 gives the local ones back, counted by entry.
use Rattle.std.proofs.Common.{◌≡◌, ◌≢◌, ⊎_elim, ℕ, zero, suc, ◌<◌, All, List, [], ◌∷◌, ◌++◌, length, get_or, set, Option, refl, sym, ap, ◌∙◌, subst, append_assoc, arith, take, Some, None, inl, inr, ◌+◌, ◌≤◌, ◌==◌, cond}
use Rattle.std.proofs.lemmas.List.{append-nil, length-set}
use Rattle.std.proofs.lemmas.List.Elements.{All-append, All-cons}
use Rattle.std.specs.Prelude.{IfErr, Result, Ok, Err}
use Rattle.std.proofs.Math.Seq.{take-length}
use Rattle.std.proofs.lemmas.Bool.{cases_eq, eq-eqb, ne_eqb}
use Rattle.std.proofs.lemmas.List.Sums.{sum_by-cons}
use mathlib.Core.Option.{some, some-injective, some-ne-none}
use lib.ListN.{get_elem?}
use Rattle.atomic_table.proofs.Lists.{at_set}
use mathlib.Core.List.{IsPrefix}
use Rattle.name_registry.specs.Types.{Entry, Refusal, PassiveSub, Word, LogItem, ReferenceView}
use Rattle.protocol.specs.Common.{one_if}
use Rattle.cpu_words.specs.Common.{did, references_to, given_up, number_at}
use Rattle.cpu_words.proofs.by_keeper.Totals.{one_more_at}
use Rattle.cpu_words.proofs.logs.Totalled.{given_more}
use Rattle.cpu_words.proofs.shown.Seeing.{prefix_both}
use Rattle.passive_list.specs.Common.{OnCpu}
use Rattle.passive_ref.specs.{GivesBack, HasOneLess, OnPsref}
use Rattle.name_registry.specs.Common.{AreAllCpus, IsLetGoAndHeard, KnowsGivenUp}
use Rattle.name_registry.proofs.Audits.{cpu_at}
use Rattle.registry_live.specs.{AllOnlyRelease, IsRelease, OnlyReleases, LetGo, LetsGo, HoldTheSame, StayInside, inside_of, EndedOnFirst, HaveEnded, is_local_to, locals_to}
use Rattle.registry_live.proofs.Labelled.{goes_on_same, same_here, same_on, stays_inside}
use Rattle.registry_live.proofs.LiveCpus.{let_go_stays, on_one}

-- CPUs that only release passive references, one after the other.

-- One CPU

-- y is x, except these references and its log
abbrev with_releases : OnCpu → List Entry → List LogItem → OnCpu
with_releases x es log = record x { view = record x.view { references = es }; log = log }

no_releases : (c : ℕ) → All (IsRelease c) []
no_releases c = λ k d lt. absurd (omega (arith, lt))

is_same : (x y : OnCpu) → y ≡ x → OnlyReleases x y
is_same x y is = record {
  since = [];
  is = is ∙ ap (with_releases x x.view.references) (sym (append-nil x.log)) ∙ ap (λ (u : OnCpu). with_releases x u.view.references (x.log ++ [])) (sym is);
  only = no_releases x.view.id;
}

is_one_less : (x y : OnCpu) (n : ℕ) → HasOneLess n x y → OnlyReleases x y
is_one_less x y n less =
    let new : List LogItem = did (PassiveSub x.view.id n) (Word (references_to n x.view.references)) in
    record {
      since = new;
      is = less ∙ ap (λ (u : OnCpu). with_releases x u.view.references (x.log ++ new)) (sym less);
      only = All-cons (IsRelease x.view.id) _ [] (n, refl) (no_releases x.view.id);
    }

then_too : (x y z : OnCpu) → OnlyReleases x y → OnlyReleases y z → OnlyReleases x z
then_too x y z first next = record {
  since = first.since ++ next.since;
  is = next.is ∙ ap (λ (u : OnCpu). with_releases u z.view.references (u.log ++ next.since)) first.is ∙ ap (with_releases x z.view.references) (append_assoc x.log first.since next.since);
  only = All-append (IsRelease x.view.id) first.since next.since first.only (subst (λ (c : ℕ). All (IsRelease c) next.since) (ap (λ (u : OnCpu). u.view.id) first.is) next.only);
}

-- All of them

there : (xs : List OnCpu) (c : ℕ) (d : OnCpu) → c < length xs → get_elem? xs c ≡ some (get_or xs c d)
there [] c d lt = absurd (omega (arith, lt))
there (x ∷ xs) zero d lt = refl
there (x ∷ xs) (suc c) d lt = there xs c d (omega (arith, lt))

pub all_same : (xs : List OnCpu) → AllOnlyRelease xs xs
all_same xs = record { size = refl; each = λ c x y was now. is_same x y (some-injective y x (sym now ∙ was)) }

-- one has changed
one_set : (xs : List OnCpu) (c : ℕ) (d y : OnCpu) → OnlyReleases (get_or xs c d) y → AllOnlyRelease xs (set xs c y)
one_set xs c d y one = record { size = length-set xs c y; each = each }
  where
    each : (k : ℕ) (a b : OnCpu) → get_elem? xs k ≡ some a → get_elem? (set xs c y) k ≡ some b → OnlyReleases a b
    each k a b was now = ⊎_elim
        (λ (here : (k ≡ c) × (y ≡ b)).
        let old : get_or xs c d ≡ a = (cpu_at xs c a d (subst (λ (i : ℕ). get_elem? xs i ≡ some a) here.0 was)).1 in
        subst (λ (u : OnCpu). OnlyReleases u b) old (subst (λ (u : OnCpu). OnlyReleases (get_or xs c d) u) here.1 one))
        (λ (off : (k ≢ c) × (get_elem? xs k ≡ some b)). is_same a b (some-injective b a (sym off.1 ∙ was)))
        (at_set xs c k y b now)

-- the CPU was asked to release the reference
pub asked : {X : Type 0} (xs : List OnCpu) (c : ℕ) (d y : OnCpu) (p : OnPsref) (why : Option Refusal) (answer : Result X (Refusal × OnPsref))
    → GivesBack why p (λ done. HasOneLess p.number (get_or xs c d) y) answer → IfErr answer (λ f. y ≡ get_or xs c d)
    → AllOnlyRelease xs (set xs c y)
asked xs c d y p why (Ok done) is refused = one_set xs c d y (is_one_less (get_or xs c d) y p.number is.1)
asked xs c d y p why (Err f) is refused = one_set xs c d y (is_same (get_or xs c d) y refused)

pub all_then : (xs ys zs : List OnCpu) → AllOnlyRelease xs ys → AllOnlyRelease ys zs → AllOnlyRelease xs zs
all_then xs ys zs first next = record { size = next.size ∙ first.size; each = each }
  where
    each : (c : ℕ) (x z : OnCpu) → get_elem? xs c ≡ some x → get_elem? zs c ≡ some z → OnlyReleases x z
    each c x z was now =
        let few : c < length xs = (cpu_at xs c x x was).0 in
        let at : get_elem? ys c ≡ some (get_or ys c x) = there ys c x (omega (arith, few, first.size)) in
        then_too x (get_or ys c x) z (first.each c x (get_or ys c x) was at) (next.each c (get_or ys c x) z at now)

-- The local references that are given back, one after the other, by CPU 0.

-- CPU 0 has released the reference in the place
pub lets_go : (n : ℕ) (xs : List OnCpu) (x y : OnCpu) (v : ReferenceView) (place : Option ReferenceView) → place ≡ Some v → AreAllCpus n xs → 0 < n → x ≡ get_or xs 0 x
    → IsLetGoAndHeard (get_or xs 0 x) v y → LetsGo xs place (set xs 0 y)
lets_go n xs x y v place here all any is let_go =
    subst (λ (o : Option ReferenceView). LetsGo xs o (set xs 0 y)) (sym here) (on_one n xs 0 x y (λ (a b : OnCpu). IsLetGoAndHeard a v b) all any is let_go)

pub none_gone : (xs : List OnCpu) (ps : List (Option ReferenceView)) → LetGo xs (take 0 ps) xs
none_gone xs ps = refl

-- the first k places and then the next one
pub gone_next : (xs ys zs : List OnCpu) (ps : List (Option ReferenceView)) (k : ℕ) (place : Option ReferenceView) → k < length ps → LetGo xs (take k ps) ys → LetsGo ys place zs
    → place ≡ get_or ps k place → LetGo xs (take (suc k) ps) zs
gone_next xs ys zs [] k place lt first next is = absurd (omega (arith, lt))
gone_next xs ys zs (p ∷ ps) zero place lt first next is = (zs, subst (λ (l : List OnCpu). LetsGo l p zs) first (subst (λ (o : Option ReferenceView). LetsGo ys o zs) is next), refl)
gone_next xs ys zs (p ∷ ps) (suc k) place lt first next is = (first.0, first.1, gone_next first.0 ys zs ps k place (omega (arith, lt)) first.2 next is)

pub all_gone : (xs ys : List OnCpu) (ps : List (Option ReferenceView)) → length ps ≡ 26 → LetGo xs (take 26 ps) ys → LetGo xs ps ys
all_gone xs ys ps size first = subst (λ (l : List (Option ReferenceView)). LetGo xs l ys) (take-length ps) (subst (λ (n : ℕ). LetGo xs (take n ps) ys) (sym size) first)

-- The passive references that CPUs hold stay, and sections stay open.

inside_still : (x y : OnCpu) (v : ReferenceView) → IsLetGoAndHeard x v y → inside_of y ≡ inside_of x
inside_still x y v (inl is) = ap inside_of is
inside_still x y v (inr heard) = ap inside_of heard.learned.is ∙ ap inside_of heard.came_back.cpu

one_still : (xs ys : List OnCpu) (place : Option ReferenceView) → LetsGo xs place ys → HoldTheSame xs ys × StayInside xs ys
one_still xs ys None is = subst (λ (l : List OnCpu). HoldTheSame xs l × StayInside xs l) (sym is) (same_here xs, refl)
one_still xs ys (Some v) one =
    let x = one.0 in
    let y = one.1 in
    let here : get_or xs 0 x ≡ x = (cpu_at xs 0 x x one.2).1 in
    subst (λ (l : List OnCpu). HoldTheSame xs l × StayInside xs l) (sym one.4) (
      goes_on_same xs 0 x y ((let_go_stays x y v one.3).references ∙ ap (λ (u : OnCpu). u.view.references) (sym here)),
      stays_inside xs 0 x y (inside_still x y v one.3 ∙ ap inside_of (sym here)),
    )

pub still : (xs ys : List OnCpu) (ps : List (Option ReferenceView)) → LetGo xs ps ys → HoldTheSame xs ys × StayInside xs ys
still xs ys [] is = subst (λ (l : List OnCpu). HoldTheSame xs l × StayInside xs l) (sym is) (same_here xs, refl)
still xs ys (p ∷ ps) gone =
    let first = one_still xs gone.0 p gone.1 in
    let rest = still gone.0 ys ps gone.2 in
    (same_on xs gone.0 ys first.0 rest.0, rest.1 ∙ first.1)

-- The local references that are given back, counted by entry: by CPU 0's own count, or by what it knows of the keeper's log.

-- One place more

next_place : (n : ℕ) (place : Option ReferenceView) (ps : List (Option ReferenceView)) → locals_to (place ∷ ps) n ≡ cond (is_local_to n place) 1 0 + locals_to ps n
next_place n place ps = sum_by-cons (λ (o : Option ReferenceView). cond (is_local_to n o) 1 0) place ps

-- By the keeper's log

given_grows : (n : ℕ) (a more : List LogItem) → given_up n a ≤ given_up n (a ++ more)
given_grows n a [] = let same = ap (given_up n) (append-nil a) in omega (arith, same)
given_grows n a (d ∷ ds) =
    let one = given_more n a d in
    let rest = given_grows n (a ++ d ∷ []) ds in
    let whole = ap (given_up n) (append_assoc a (d ∷ []) ds) in
    omega (arith, one, rest, whole)

one_given : (n : ℕ) (x z : OnCpu) (v : ReferenceView) → IsPrefix x.known_log z.known_log → KnowsGivenUp v.entry x z
    → given_up n x.known_log + one_if (n == v.entry.number) ≤ given_up n z.known_log
one_given n x z v known gone = ⊎_elim
    (λ (same : n ≡ v.entry.number).
    let one : one_if (n == v.entry.number) ≡ 1 = ap one_if (eq-eqb n v.entry.number same) in
    let more : given_up n x.known_log < given_up n z.known_log = subst (λ (k : ℕ). given_up k x.known_log < given_up k z.known_log) (sym same) gone.more in
    omega (arith, one, more))
    (λ (off : n ≢ v.entry.number).
    let none : one_if (n == v.entry.number) ≡ 0 = ap one_if (ne_eqb n v.entry.number off) in
    let grows = given_grows n x.known_log known.0 in
    let whole = ap (given_up n) known.1 in
    omega (arith, none, grows, whole))
    (cases_eq n v.entry.number)

-- One reference, and then those of the other places

none_ended : (x y : OnCpu) → y.known_log ≡ x.known_log → y.view.released ≡ x.view.released → HaveEnded x [] y
none_ended x y known released = record {
  back = λ n. 0;
  known = ([], append-nil x.known_log ∙ sym known);
  own = λ n.
      let same = ap (λ (l : List ℕ). number_at l n) released in
      let none : locals_to [] n ≡ 0 = refl in
      omega (arith, same, none);
  given = λ n. let same = ap (given_up n) known in omega (arith, same);
}

free_place : (x y : OnCpu) (ps : List (Option ReferenceView)) → HaveEnded x ps y → HaveEnded x (None ∷ ps) y
free_place x y ps rest = record {
  back = rest.back;
  known = rest.known;
  own = λ n.
      let later = rest.own n in
      let same : locals_to (None ∷ ps) n ≡ 0 + locals_to ps n = next_place n None ps in
      omega (arith, later, same);
  given = rest.given;
}

then_ended : (x z y : OnCpu) (v : ReferenceView) (ps : List (Option ReferenceView)) → IsLetGoAndHeard x v z → HaveEnded z ps y → HaveEnded x (Some v ∷ ps) y
then_ended x z y v ps (inl is) rest =
    let known : z.known_log ≡ x.known_log = ap (λ (u : OnCpu). u.known_log) is in
    record {
      back = rest.back;
      known = subst (λ (l : List LogItem). IsPrefix l y.known_log) known rest.known;
      own = λ n.
          let first : number_at z.view.released n ≡ number_at x.view.released n + one_if (n == v.entry.number) =
          ap (λ (u : OnCpu). number_at u.view.released n) is ∙ one_more_at x.view.released v.entry.number n in
          let later = rest.own n in
          let more : locals_to (Some v ∷ ps) n ≡ one_if (n == v.entry.number) + locals_to ps n = next_place n (Some v) ps in
          omega (arith, first, later, more);
      given = λ n. let same = ap (given_up n) known in let later = rest.given n in omega (arith, same, later);
    }
then_ended x z y v ps (inr heard) rest =
    let back = heard.came_back.cpu in
    let released : z.view.released ≡ x.view.released = ap (λ (u : OnCpu). u.view.released) heard.learned.is ∙ ap (λ (u : OnCpu). u.view.released) back in
    let known : IsPrefix x.known_log z.known_log = subst (λ (l : List LogItem). IsPrefix l z.known_log) (ap (λ (u : OnCpu). u.known_log) back) heard.learned.known_log in
    record {
      back = λ n. one_if (n == v.entry.number) + rest.back n;
      known = prefix_both _ _ _ known rest.known;
      own = λ n.
          let same = ap (λ (l : List ℕ). number_at l n) released in
          let later = rest.own n in
          let more : locals_to (Some v ∷ ps) n ≡ one_if (n == v.entry.number) + locals_to ps n = next_place n (Some v) ps in
          omega (arith, same, later, more);
      given = λ n. let one = one_given n x z v known heard.gone in let later = rest.given n in omega (arith, one, later);
    }

-- All of them, and then the passive ones

first_set : (xs : List OnCpu) (x y : OnCpu) → get_elem? xs 0 ≡ some x → get_elem? (set xs 0 y) 0 ≡ some y
first_set [] x y at = absurd (some-ne-none x (sym at))
first_set (u ∷ us) x y at = refl

pub all_ended : (xs ms ys : List OnCpu) (ps : List (Option ReferenceView)) → LetGo xs ps ms → AllOnlyRelease ms ys → EndedOnFirst xs ps ys
all_ended xs ms ys [] gone only = λ x y at last.
    let one = only.each 0 x y (ap (λ (l : List OnCpu). get_elem? l 0) gone ∙ at) last in
    none_ended x y (ap (λ (u : OnCpu). u.known_log) one.is) (ap (λ (u : OnCpu). u.view.released) one.is)
all_ended xs ms ys (None ∷ ps) gone only = λ x y at last.
    free_place x y ps (all_ended gone.0 ms ys ps gone.2 only x y (ap (λ (l : List OnCpu). get_elem? l 0) gone.1 ∙ at) last)
all_ended xs ms ys (Some v ∷ ps) gone only = λ x y at last.
    let one = gone.1 in
    let same : one.0 ≡ x = some-injective one.0 x (sym one.2 ∙ at) in
    let next : get_elem? gone.0 0 ≡ some one.1 = ap (λ (l : List OnCpu). get_elem? l 0) one.4 ∙ first_set xs x one.1 at in
    then_ended x one.1 y v ps (subst (λ (u : OnCpu). IsLetGoAndHeard u v one.1) same one.3) (all_ended gone.0 ms ys ps gone.2 only one.1 y next last)
