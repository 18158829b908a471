-- All CPUs of a registry: as it was opened, and where one of them has changed and keeps its number.
use Rattle.std.proofs.Common.{◌<◌, List, [], sym, ap, ◌∙◌, arith, ◌≡◌, ◌≢◌, ⊎_elim, inl, inr, ℕ, Bool, get_or, set, Option, Some, refl, subst}
use Rattle.std.proofs.lemmas.Bool.{cases_eq, false≢true}
use Rattle.std.proofs.lemmas.List.{length-set}
use Rattle.std.specs.Prelude.{IfErr, IfOk, IfSome, Result, Ok, Err, is_some}
use mathlib.Core.Option.{some-injective, some}
use lib.ListN.{get_elem?}
use Rattle.atomic_table.proofs.Lists.{at_index, at_set}
use Rattle.name_registry.specs.Types.{Settings, Entry, Kind, Record, Name, Refusal, CpuView, ReferenceView}
use Rattle.cpu_words.specs.Common.{new_cpu}
use Rattle.passive_list.specs.Common.{OnCpu, no_memory, AnswersEnter, HasEnteredOn}
use Rattle.passive_ref.specs.{GivesBack, HasOneLess, OnPsref, why_unusable}
use Rattle.name_registry.specs.Common.{AreAllCpus, AreNewCpus, IsAttachRefusal, IsDetachRefusedTo, HasLearned, HasSeenAttach, HasSeenDetach, IsLetGoAndHeard}
use Rattle.name_registry.proofs.Audits.{cpu_at}
use Rattle.registry_live.specs.{IsGivenBack, OnOne}

-- The CPUs of a registry that was just opened are all of them.

pub new_are_all : (z : Settings) (xs : List OnCpu) → AreNewCpus z z.cpus xs → AreAllCpus z.cpus xs
new_are_all z xs new = record {
  count = new.count;
  each = λ c x at.
      let below : c < z.cpus = omega (arith, (cpu_at xs c x x at).0, new.count) in
      ap (λ (y : OnCpu). y.view.id) (some-injective x (record { view = new_cpu z c; depth = 0; made = 0; memory = no_memory z.slots; known_log = []; log = [] }) (sym at ∙ new.each c below));
}

-- All CPUs of a registry stay all CPUs, where one of them has changed and keeps its number.

-- the CPU that a command names
pub named : (n : ℕ) (xs : List OnCpu) (c : ℕ) (x : OnCpu) → AreAllCpus n xs → c < n → x ≡ get_or xs c x → get_elem? xs c ≡ some x
named n xs c x all known is = let count = all.count in at_index xs c x (omega (arith, known, count)) is

-- it went from one to the other, and the others are as they were
pub on_one : (n : ℕ) (xs : List OnCpu) (c : ℕ) (x y : OnCpu) (does : OnCpu → OnCpu → Type 0) → AreAllCpus n xs → c < n → x ≡ get_or xs c x → does (get_or xs c x) y → OnOne xs c does (set xs c y)
on_one n xs c x y does all known is did = (x, y, named n xs c x all known is, subst (λ z. does z y) (sym is) did, refl)

pub all_with : (n : ℕ) (xs : List OnCpu) (c : ℕ) (x y : OnCpu) → AreAllCpus n xs → c < n → x ≡ get_or xs c x → y.view.id ≡ (get_or xs c x).view.id → AreAllCpus n (set xs c y)
all_with n xs c x y all known is same = record { count = length-set xs c y ∙ all.count; each = each }
  where
    there : get_elem? xs c ≡ some x
    there = named n xs c x all known is

    each : (k : ℕ) (z : OnCpu) → get_elem? (set xs c y) k ≡ some z → z.view.id ≡ k
    each k z at = ⊎_elim
        (λ (here : (k ≡ c) × (y ≡ z)). ap (λ (u : OnCpu). u.view.id) (sym here.1) ∙ same ∙ ap (λ (u : OnCpu). u.view.id) (sym is) ∙ all.each c x there ∙ sym here.0)
        (λ (off : (k ≢ c) × (get_elem? xs k ≡ some z)). all.each k z off.1)
        (at_set xs c k y z at)

-- What a CPU keeps, of each call

-- its number, and its passive references
pub record StaysOn (a b : OnCpu) : Type 0 where
  pub id : b.view.id ≡ a.view.id
  pub references : b.view.references ≡ a.view.references

same_stays : (a b : OnCpu) → b ≡ a → StaysOn a b
same_stays a b is = record { id = ap (λ (x : OnCpu). x.view.id) is; references = ap (λ (x : OnCpu). x.view.references) is }

pub learned_stays : (a b : OnCpu) → HasLearned a b → StaysOn a b
learned_stays a b learned = record { id = ap (λ (x : OnCpu). x.view.id) learned.is; references = ap (λ (x : OnCpu). x.view.references) learned.is }

pub attached_stays : (a b : OnCpu) (rec : Record) (inside unfit : Bool) (answer : Result Entry Refusal) → IfOk answer (λ e. (e.rec ≡ rec) × HasLearned a b × HasSeenAttach a b e)
    → IfErr answer (λ f. IsAttachRefusal inside unfit f × (b ≡ a)) → StaysOn a b
attached_stays a b rec inside unfit (Ok e) ok refused = learned_stays a b ok.1
attached_stays a b rec inside unfit (Err f) ok refused = same_stays a b refused.1

pub detached_stays : (a b : OnCpu) (kind : Kind) (name : Name) (inside : Bool) (answer : Result Entry Refusal)
    → IfOk answer (λ e. (e.rec.kind ≡ kind) × (e.rec.name ≡ name) × HasLearned a b × HasSeenDetach a b e) → IfErr answer (λ f. IsDetachRefusedTo inside f × (b ≡ a))
    → StaysOn a b
detached_stays a b kind name inside (Ok e) ok refused = learned_stays a b ok.2
detached_stays a b kind name inside (Err f) ok refused = same_stays a b refused.1

once_entered : (a b : OnCpu) → HasEnteredOn a b → StaysOn a b
once_entered a b left = ⊎_elim
    (λ (first : a.depth ≡ 0). let is = (left.begun first).1 in record { id = ap (λ (x : CpuView). x.id) is; references = ap (λ (x : CpuView). x.references) is })
    (λ (inner : a.depth ≢ 0). let is = left.inner inner in record { id = ap (λ (x : CpuView). x.id) is; references = ap (λ (x : CpuView). x.references) is })
    (cases_eq a.depth 0)

pub entered_stays : (a b : OnCpu) (answer : Result (Unit {0}) Refusal) → AnswersEnter a b answer → StaysOn a b
entered_stays a b (Ok done) entered = once_entered a b entered.answer.1
entered_stays a b (Err f) entered = same_stays a b entered.refused

pub let_go_stays : (a b : OnCpu) (v : ReferenceView) → IsLetGoAndHeard a v b → StaysOn a b
let_go_stays a b v (inl is) = record { id = ap (λ (x : OnCpu). x.view.id) is; references = ap (λ (x : OnCpu). x.view.references) is }
let_go_stays a b v (inr heard) =
    let back = heard.came_back.cpu in
    let learned = learned_stays heard.between b heard.learned in
    record { id = learned.id ∙ ap (λ (x : OnCpu). x.view.id) back; references = learned.references ∙ ap (λ (x : OnCpu). x.view.references) back }

pub released_id : {X : Type 0} (a b : OnCpu) (p : OnPsref) (why : Option Refusal) (answer : Result X (Refusal × OnPsref)) → GivesBack why p (λ x. HasOneLess p.number a b) answer
    → IfErr answer (λ e. b ≡ a) → b.view.id ≡ a.view.id
released_id a b p why (Ok x) is refused = ap (λ (y : OnCpu). y.view.id) is.1
released_id a b p why (Err e) is refused = ap (λ (y : OnCpu). y.view.id) refused

-- What becomes of a passive reference that is given back

once_back : {X : Type 0} (xs : List OnCpu) (x y : OnCpu) (p : OnPsref) (answer : Result X (Refusal × OnPsref))
    → GivesBack (why_unusable (get_or xs p.cpu x).view p) p (λ d. HasOneLess p.number (get_or xs p.cpu x) y) answer → IsGivenBack xs (set xs p.cpu y) p
once_back xs x y p (Ok d) given = λ (z : OnCpu) at may. (y, subst (λ (u : OnCpu). HasOneLess p.number u y) (cpu_at xs p.cpu z x at).1 given.1, refl)
once_back xs x y p (Err e) given = λ (z : OnCpu) at may. absurd (false≢true (sym (ap is_some (sym given.0 ∙ ap (λ (u : OnCpu). why_unusable u.view p) (cpu_at xs p.cpu z x at).1 ∙ may))))

-- its own CPU releases it
pub one_back : {X : Type 0} (xs : List OnCpu) (x y : OnCpu) (p : OnPsref) (place : Option OnPsref) (n : ℕ) (answer : Result X (Refusal × OnPsref)) → place ≡ Some p → n ≡ p.cpu
    → GivesBack (why_unusable (get_or xs n x).view p) p (λ d. HasOneLess p.number (get_or xs n x) y) answer → IfSome place (IsGivenBack xs (set xs n y))
one_back xs x y p place n answer here is given =
    let back = once_back xs x y p answer (subst (λ k. GivesBack (why_unusable (get_or xs k x).view p) p (λ d. HasOneLess p.number (get_or xs k x) y) answer) is given) in
    subst (λ (o : Option OnPsref). IfSome o (IsGivenBack xs (set xs n y))) (sym here) (subst (λ k. IsGivenBack xs (set xs k y) p) (sym is) back)
