-- What a CPU's calls made, by what it weighs: the changes of the history are no more than those of the calls.
use Rattle.std.proofs.Common.{◌≡◌, ◌∙◌, ℕ, zero, suc, ◌+◌, ◌*◌, ◌<◌, ◌≤◌, List, [], ◌∷◌, ◌++◌, length, Option, Some, None, slice_index_or, Result, Ok, Err, slice_get, refl, sym, ap, subst, arith, append-nil}
use mathlib.Core.List.{IsPrefix}
use mathlib.Core.Option.{some, some-injective}
use lib.ListN.{get_elem?}
use Rattle.std.proofs.lemmas.List.Sums.{sum_by-append, sum_by-cons}
use Rattle.std.proofs.lemmas.Bool.{cases_eq}
use Rattle.protocol.proofs.Either.{either}
use Rattle.std.proofs.lemmas.Option.{none-some, same_Some}
use Rattle.name_registry.specs.Types.{Change, Attach, Detach, Replace, Entry, Settings, CpuView, Key, Record, Refusal, ReferenceView}
use Rattle.protocol.specs.History.{change_at}
use Rattle.protocol.specs.Common.{brought_by, ended_by, IsLegal}
use Rattle.protocol.proofs.History.{at_within, at_prefix}
use Rattle.passive_list.specs.Common.{OnCpu, AnswersEnter, HasEnteredOn, HasExitedOn, HasFound}
use Rattle.local_count.specs.{AnswersAcquireLocal}
use Rattle.std.specs.Prelude.{IfErr, IfOk}
use Rattle.std.specs.Fn.{FnReturns}
use denote.Param.Members.{Shared}
use Rattle.std.specs.Fork.{GivesJobs}
use Rattle.registry_values.specs.Common.{Answers}
use Rattle.passive_ref.specs.{IsAcquired, IsRead, HasOneLess, GivesBack, OnPsref}
use Rattle.name_registry.specs.Common.{AreNewCpus, new_on, made_by, weigh, weight, HasMade, HasLearned, HasSeenAttach, HasSeenDetach}
use Rattle.name_registry.proofs.Audits.{cpu_at}
use Rattle.atomic_table.proofs.Lists.{at_last}
use Rattle.cpu_words.proofs.shown.Seeing.{prefix_both}
use Rattle.registry_examples.specs.{moves, moves_in, made_in, IsOrdered, Accounts, MakesAtMost, MakesNone}

-- Any change weighs at least as much as it moves.

weighs : (c : Change) → moves c ≤ weight c
weighs (Attach e) = omega arith
weighs (Detach n) = omega arith
weighs (Replace n r e) = omega arith

all_weigh : (h : List Change) → moves_in h ≤ weigh h
all_weigh [] = omega arith
all_weigh (c ∷ h) = omega (arith, all_weigh h, weighs c, sum_by-cons moves c h, sum_by-cons weight c h)

ordered_before : (a zs : List Change) → IsOrdered (a ++ zs) → IsOrdered a
ordered_before a zs is k n r e at = is k n r e (at_prefix a zs k (at_within a k (Replace n r e) at).1 ∙ at)

-- What the CPU saw besides is accounted for.
stays : (n : ℕ) (x y : OnCpu) → MakesNone x y → Accounts n x → Accounts n y
stays n x y same was ordered =
    let zs = same.pass.0 in
    let old = was (ordered_before x.view.pass zs (subst IsOrdered (sym same.pass.1) ordered)) in
    let moves_all : moves_in y.view.pass ≡ moves_in x.view.pass + moves_in zs = sym (ap moves_in same.pass.1) ∙ sum_by-append moves x.view.pass zs in
    let weight_all : weigh y.view.pass ≡ weigh x.view.pass + weigh zs = sym (ap weigh same.pass.1) ∙ sum_by-append weight x.view.pass zs in
    let made = same.made in
    omega (arith, old, moves_all, weight_all, all_weigh zs, made)

-- The change that a call made stands in what the CPU saw by it.

record Parts (zs : List Change) (d : Change) : Type 0 where
  first : List Change
  rest : List Change
  are : zs ≡ first ++ d ∷ rest

parts_at : (zs : List Change) (k : ℕ) (d : Change) → slice_get zs k ≡ Some d → Parts zs d
parts_at [] k d at = absurd (none-some d at)
parts_at (z ∷ zs) zero d at = record { first = []; rest = zs; are = ap (λ (c : Change). c ∷ zs) (same_Some z d at) }
parts_at (z ∷ zs) (suc k) d at = let p = parts_at zs k d at in record { first = z ∷ p.first; rest = p.rest; are = ap (λ (cs : List Change). z ∷ cs) p.are }

parts_past : (a zs : List Change) (k : ℕ) (d : Change) → length a ≤ k → slice_get (a ++ zs) k ≡ Some d → Parts zs d
parts_past [] zs k d le at = parts_at zs k d at
parts_past (x ∷ a) zs zero d le at = absurd (omega (arith, le))
parts_past (x ∷ a) zs (suc k) d le at = parts_past a zs k d (omega (arith, le)) at

parts : (a zs : List Change) (p : ℕ) (d : Change) → length a < p → change_at (a ++ zs) p ≡ Some d → Parts zs d
unfolding change_at
parts a zs zero d lt at = absurd (omega (arith, lt))
parts a zs (suc k) d lt at = parts_past a zs k d (omega (arith, lt)) at

-- the change d stands there, for the call's c
abbrev StandsFor : Change → Change → List Change → Type 0
StandsFor c d h = IsOrdered h → weight c + moves d ≤ weight d + 1

one_more : (x y : OnCpu) (c d : Change) (p : ℕ) → IsPrefix x.view.pass y.view.pass → y.made ≡ x.made + weight c → length x.view.pass < p → change_at y.view.pass p ≡ Some d → StandsFor c d y.view.pass
    → (n : ℕ) → Accounts n x → Accounts (n + 1) y
one_more x y c d p pre made later at stands n was ordered =
    let zs = pre.0 in
    let its = parts x.view.pass zs p d later (subst (λ (h : List Change). change_at h p ≡ Some d) (sym pre.1) at) in
    let old = was (ordered_before x.view.pass zs (subst IsOrdered (sym pre.1) ordered)) in
    let moves_all : moves_in y.view.pass ≡ moves_in x.view.pass + moves_in zs = sym (ap moves_in pre.1) ∙ sum_by-append moves x.view.pass zs in
    let weight_all : weigh y.view.pass ≡ weigh x.view.pass + weigh zs = sym (ap weigh pre.1) ∙ sum_by-append weight x.view.pass zs in
    let moves_new : moves_in zs ≡ moves_in its.first + moves_in (d ∷ its.rest) = ap moves_in its.are ∙ sum_by-append moves its.first (d ∷ its.rest) in
    let weight_new : weigh zs ≡ weigh its.first + weigh (d ∷ its.rest) = ap weigh its.are ∙ sum_by-append weight its.first (d ∷ its.rest) in
    let one = stands ordered in
    omega (arith, old, made, moves_all, weight_all, moves_new, weight_new, one, sum_by-cons moves d its.rest, sum_by-cons weight d its.rest, all_weigh its.first, all_weigh its.rest)

record Stands (c : Change) (h : List Change) (p : ℕ) : Type 0 where
  change : Change
  at : change_at h p ≡ Some change
  stands : StandsFor c change h

attach_stands : (h : List Change) (p : ℕ) (e : Entry) (o : Option Change) → change_at h p ≡ o → brought_by o ≡ Some e → Stands (Attach e) h p
attach_stands h p e None at is = absurd (none-some e is)
attach_stands h p e (Some (Attach f)) at is = record { change = Attach f; at = at; stands = λ ordered. let same = ap (λ (g : Entry). g.number) (same_Some f e is) in omega (arith, same) }
attach_stands h p e (Some (Detach n)) at is = absurd (none-some e is)
attach_stands h p e (Some (Replace n r f)) at is = record { change = Replace n r f; at = at; stands = λ ordered. let same = ap (λ (g : Entry). g.number) (same_Some f e is) in omega (arith, same) }

detach_stands : (h : List Change) (p n : ℕ) (o : Option Change) → change_at h p ≡ o → ended_by o ≡ Some n → Stands (Detach n) h p
detach_stands h p n None at is = absurd (none-some n is)
detach_stands h p n (Some (Attach e)) at is = absurd (none-some n is)
detach_stands h p n (Some (Detach m)) at is = record { change = Detach m; at = at; stands = λ ordered. let same = same_Some m n is in omega (arith, same) }
detach_stands h p n (Some (Replace m r e)) at is =
    record { change = Replace m r e; at = at; stands = λ ordered. let same = same_Some m n is in let before = ordered p m r e at in omega (arith, same, before) }

pub attached_one : (x y : OnCpu) (e : Entry) → HasLearned x y → HasSeenAttach x y e → HasMade x (Attach e) y → MakesAtMost 1 x y
attached_one x y e learned seen has =
    let its = attach_stands y.view.pass e.number e (change_at y.view.pass e.number) refl seen.attached in
    record { more = one_more x y (Attach e) its.change e.number learned.pass has.made seen.later its.at its.stands }

pub detached_one : (x y : OnCpu) (e : Entry) → HasLearned x y → HasSeenDetach x y e → HasMade x (Detach e.number) y → MakesAtMost 1 x y
detached_one x y e learned seen has =
    let its = detach_stands y.view.pass seen.end e.number (change_at y.view.pass seen.end) refl seen.ends in
    record { more = one_more x y (Detach e.number) its.change seen.end learned.pass has.made seen.later its.at its.stands }

-- A section of the CPU's own makes no change

prefix_same : (a b : List Change) → b ≡ a → IsPrefix a b
prefix_same a b same = ([], append-nil a ∙ sym same)

both_none : (x y z : OnCpu) → MakesNone x y → MakesNone y z → MakesNone x z
both_none x y z first last = record { pass = prefix_both x.view.pass y.view.pass z.view.pass first.pass last.pass; made = last.made ∙ first.made }

same_none : (x y : OnCpu) → y.view.pass ≡ x.view.pass → y.made ≡ x.made → MakesNone x y
same_none x y pass made = record { pass = prefix_same x.view.pass y.view.pass pass; made = made }

begun_none : (x y : OnCpu) → HasEnteredOn x y → MakesNone x y
begun_none x y is = either (cases_eq x.depth 0)
    (λ outside. record { pass = (is.begun outside).0; made = is.made })
    (λ inside. same_none x y (ap (λ (v : CpuView). v.pass) (is.inner inside)) is.made)

entered_none : (x y : OnCpu) (r : Result (Unit {0}) Refusal) → AnswersEnter x y r → MakesNone x y
entered_none x y (Ok u) is = begun_none x y is.answer.1
entered_none x y (Err f) is = same_none x y (ap (λ (o : OnCpu). o.view.pass) is.refused) (ap (λ (o : OnCpu). o.made) is.refused)

exited_none : (x y : OnCpu) → HasExitedOn x y → MakesNone x y
exited_none x y is = either (cases_eq x.depth 1)
    (λ last. same_none x y (ap (λ (v : CpuView). v.pass) (is.ended last)) is.made)
    (λ inner. same_none x y (ap (λ (v : CpuView). v.pass) (is.inner inner)) is.made)

acquired_none : {X : Type 0} (x y : OnCpu) (r : Result X Refusal) (of : X → ReferenceView) → AnswersAcquireLocal x y r of → MakesNone x y
acquired_none x y (Ok v) of is = same_none x y (ap (λ (o : OnCpu). o.view.pass) is.answer.1.cpu) (ap (λ (o : OnCpu). o.made) is.answer.1.cpu)
acquired_none x y (Err f) of is = same_none x y (ap (λ (o : OnCpu). o.view.pass) is.refused) (ap (λ (o : OnCpu). o.made) is.refused)

-- an enter, a lookup, an acquire and an exit
pub took_none : {X : Type 0} (a b c d e : OnCpu) (r : Result (Unit {0}) Refusal) (key : Key) (answer : Option Entry) (s : Result X Refusal) (of : X → ReferenceView)
    → AnswersEnter a b r → HasFound key b c answer → AnswersAcquireLocal c d s of → HasExitedOn d e → MakesNone a e
took_none a b c d e r key answer s of enters finds acquires exits =
    both_none a b e (entered_none a b r enters)
    (both_none b c e (record { pass = finds.pass; made = ap (λ (o : OnCpu). o.made) finds.is })
    (both_none c d e (acquired_none c d s of acquires) (exited_none d e exits)))

-- What a carrier does makes none

pub enter_made : (x y : OnCpu) (r : Result (Unit {0}) Refusal) → AnswersEnter x y r → y.made ≡ x.made
enter_made x y r is = (entered_none x y r is).made

pub acquire_made : (x y : OnCpu) (why : Option Refusal) (r : Result OnPsref Refusal) → Answers why (IsAcquired x y) r → IfErr r (λ _. y ≡ x) → y.made ≡ x.made
acquire_made x y why (Ok p) is refused = ap (λ (o : OnCpu). o.made) is.1.2.after
acquire_made x y why (Err f) is refused = ap (λ (o : OnCpu). o.made) refused

pub read_made : (x y : OnCpu) (why : Option Refusal) (n : ℕ) (r : Result Record Refusal) → Answers why (IsRead n x y) r → IfErr r (λ _. y ≡ x) → y.made ≡ x.made
read_made x y why n (Ok p) is refused = ap (λ (o : OnCpu). o.made) is.1.1.1
read_made x y why n (Err f) is refused = ap (λ (o : OnCpu). o.made) refused

pub release_made : (x y : OnCpu) (why : Option Refusal) (p : OnPsref) (r : Result (Unit {0}) (Refusal × OnPsref)) → GivesBack why p (λ _. HasOneLess p.number x y) r → IfErr r (λ _. y ≡ x) → y.made ≡ x.made
release_made x y why p (Ok u) is refused = ap (λ (o : OnCpu). o.made) is.1
release_made x y why p (Err f) is refused = ap (λ (o : OnCpu). o.made) refused

-- Calls one after the other

pub makes_zero : (x : OnCpu) → MakesAtMost 0 x x
makes_zero x = record { more = λ n was. subst (λ (k : ℕ). Accounts k x) (omega arith) was }

-- a reference is taken, and an entry attached
pub plugged_in : (x m y : OnCpu) (e : Entry) → MakesNone x m → HasLearned m y → HasSeenAttach m y e → HasMade m (Attach e) y → MakesAtMost 1 x y
plugged_in x m y e none learned seen has = record { more = λ n was. (attached_one m y e learned seen has).more n (stays n x m none was) }

-- an entry is detached and destroyed
pub pulled_out : (x m y : OnCpu) (e : Entry) → HasLearned x m → HasSeenDetach x m e → HasMade x (Detach e.number) m → HasLearned m y × (y.made ≡ m.made) → MakesAtMost 1 x y
pulled_out x m y e learned seen has destroyed =
    record { more = λ n was. stays (n + 1) m y (record { pass = destroyed.0.pass; made = destroyed.1 }) ((detached_one x m e learned seen has).more n was) }

-- one plug more
pub plugged_more : (k : ℕ) (x y m z : OnCpu) → MakesAtMost (2 * k) x y → MakesAtMost 1 y m → MakesAtMost 1 m z → MakesAtMost (2 * (k + 1)) x z
plugged_more k x y m z was plugs pulls =
    record { more = λ n before. subst (λ (j : ℕ). Accounts j z) (omega arith) (pulls.more (n + 2 * k + 1) (plugs.more (n + 2 * k) (was.more n before))) }

-- the driver first
pub loaded_first : (k : ℕ) (x m y : OnCpu) → MakesAtMost 1 x m → MakesAtMost (2 * k) m y → MakesAtMost (2 * k + 1) x y
loaded_first k x m y loads plugs = record { more = λ n before. subst (λ (j : ℕ). Accounts j y) (omega arith) (plugs.more (n + 1) (loads.more n before)) }

-- The whole history

legal_ordered : (h : List Change) → IsLegal h → IsOrdered h
legal_ordered h is zero n r e at = absurd (let in_ = (at_within h 0 (Replace n r e) at).0 in omega (arith, in_))
legal_ordered h is (suc k) n r e at =
    let ends = is.ends_live k n (ap ended_by at) in
    let number = is.numbered (suc k) e (ap brought_by at) in
    let begun = ends.1.begun in
    let same = ends.2 in
    omega (arith, number, begun, same)

-- where the CPU's pass begins the history, and its calls made all of it, it moves no more than they did
pub moves_few : (n : ℕ) (x : OnCpu) (h : List Change) → Accounts n x → IsPrefix x.view.pass h → IsLegal h → weigh h ≡ x.made → moves_in h ≤ n
moves_few n x h was seen legal all =
    let whole : OnCpu = record x { view = record x.view { pass = h } } in
    let told = stays n x whole (record { pass = seen; made = refl }) was (legal_ordered h legal) in
    omega (arith, told, all)

-- The CPUs that come back

pub made_append : (xs : List OnCpu) (x : OnCpu) → made_by (xs ++ x ∷ []) ≡ made_by xs + x.made
made_append [] x = omega arith
made_append (y ∷ xs) x = let rest = made_append xs x in omega (arith, rest)

pub back_append : {X F : Type 0} (rs : List (Result (X × OnCpu) F)) (p : X × OnCpu) → made_in (rs ++ Ok p ∷ []) ≡ made_in rs + p.1.made
back_append {X} {F} [] p = omega arith
back_append {X} {F} (Ok q ∷ rs) p = let rest = back_append rs p in omega (arith, rest)
back_append {X} {F} (Err f ∷ rs) p = back_append rs p

-- one carrier more was counted
pub counted_more : {X F : Type 0} (xs ys : List OnCpu) (x : OnCpu) (t : X) (rs : List (Result (X × OnCpu) F)) (r : Result (X × OnCpu) F) → ys ≡ xs ++ x ∷ [] → r ≡ Ok (t, x) → made_by xs ≡ made_in rs
    → made_by ys ≡ made_in (rs ++ r ∷ [])
counted_more {X} {F} xs ys x t rs r are is same =
    let sum = ap made_by are ∙ made_append xs x in
    let back : made_in (rs ++ r ∷ []) ≡ made_in (rs ++ Ok (t, x) ∷ []) = ap (λ (q : Result (X × OnCpu) F). made_in (rs ++ q ∷ [])) is in
    omega (arith, sum, back, same, back_append {F = F} rs (t, x))

-- a CPU came back whose calls made no change more
abbrev pub ComesBack : {X F : Type 0} → OnCpu → Result (X × OnCpu) F → Type 0
ComesBack x r = IfOk r (λ p. p.1.made ≡ x.made)

pub all_back : {X F : Type 0} (xs : List OnCpu) (rs : List (Result (X × OnCpu) F)) → length rs ≡ length xs
    → ((i : ℕ) (x : OnCpu) (r : Result (X × OnCpu) F) → i < length xs → ComesBack (slice_index_or xs i x) (slice_index_or rs i r)) → made_in rs ≤ made_by xs
all_back {X} {F} [] [] same each = omega arith
all_back {X} {F} [] (r ∷ rs) same each = absurd (omega (arith, same))
all_back {X} {F} (x ∷ xs) [] same each = absurd (omega (arith, same))
all_back {X} {F} (x ∷ xs) (Ok p ∷ rs) same each =
    let one : p.1.made ≡ x.made = each 0 x (Ok p) (omega arith) in
    let rest = all_back xs rs (omega (arith, same)) (λ i y r lt. each (suc i) y r (omega (arith, lt))) in
    omega (arith, one, rest)
all_back {X} {F} (x ∷ xs) (Err f ∷ rs) same each =
    let rest = all_back xs rs (omega (arith, same)) (λ i y r lt. each (suc i) y r (omega (arith, lt))) in
    omega (arith, rest)

-- each of them was given to a call of f, and none of its results has a CPU that made more
pub all_given : {C X F V W : Type 0} (g : Shared C (OnCpu × Unit {0}) (Result (X × OnCpu) F)) (f : C) (xs : List OnCpu) (items : V → List (Result (X × OnCpu) F)) (all : Result V W)
    → IfOk all (λ v. GivesJobs g f xs (items v)) → IfOk all (λ v. length (items v) ≡ length xs)
    → ((x : OnCpu) (r : Result (X × OnCpu) F) → FnReturns g f (x, tt) r → ComesBack x r) → IfOk all (λ v. made_in (items v) ≤ made_by xs)
all_given {C} {X} {F} {V} {W} g f xs items (Ok v) gives same says = all_back xs (items v) same (λ i x r lt.
    let its = (gives i r lt).1 in
    subst (λ (y : OnCpu). ComesBack y (slice_index_or (items v) i r)) (sym (its.job_is x)) (says its.job (slice_index_or (items v) i r) its.call))
all_given {C} {X} {F} {V} {W} g f xs items (Err e) gives same says = tt

-- new CPUs made none

each_new : (z : Settings) (xs : List OnCpu) → ((c : ℕ) (x : OnCpu) → get_elem? xs c ≡ some x → x.made ≡ 0) → made_by xs ≡ 0
each_new z [] each = refl
each_new z (x ∷ xs) each = let one = each 0 x refl in let rest = each_new z xs (λ c y at. each (suc c) y at) in omega (arith, one, rest)

new_at : (z : Settings) (n : ℕ) (xs : List OnCpu) (c : ℕ) (x : OnCpu) → AreNewCpus z n xs → get_elem? xs c ≡ some x → x ≡ new_on z c
new_at z n xs c x new at = some-injective x (new_on z c) (sym at ∙ new.each c (subst (λ (k : ℕ). c < k) new.count (cpu_at xs c x x at).0))

-- the one that is taken of them, and the others
pub new_made : (z : Settings) (n : ℕ) (xs : List OnCpu) (x : OnCpu) → AreNewCpus z n (xs ++ x ∷ []) → (made_by xs ≡ 0) × Accounts 0 x
new_made z n xs x new =
    let all : made_by (xs ++ x ∷ []) ≡ 0 = each_new z (xs ++ x ∷ []) (λ c y at. ap (λ (o : OnCpu). o.made) (new_at z n (xs ++ x ∷ []) c y new at)) in
    let sum = made_append xs x in
    let is : x ≡ new_on z (length xs) = new_at z n (xs ++ x ∷ []) (length xs) x new (at_last xs x (length xs) refl) in
    (omega (arith, all, sum), λ ordered. subst (λ (o : OnCpu). o.made + moves_in o.view.pass ≤ weigh o.view.pass + 0) (sym is) (omega arith))

-- what follows of a result that is Ok
pub if_ok : {X F : Type 0} (P Q : X → Type 0) (r : Result X F) → ((x : X) → P x → Q x) → IfOk r P → IfOk r Q
if_ok {X} {F} P Q (Ok x) goes was = goes x was
if_ok {X} {F} P Q (Err f) goes was = was
