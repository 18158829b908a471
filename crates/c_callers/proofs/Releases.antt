-- A release that is done empties the reference, and one on another CPU takes nothing away.
use Rattle.std.proofs.Common.{◌≡◌, ◌≢◌, ⊎_elim, ℕ, Option, Some, None, Result, Ok, Err, IfOk, IfErr, refl, sym, ap, subst, ◌∙◌}
use Rattle.std.proofs.lemmas.Bool.{cases_eq}
use Rattle.std.proofs.lemmas.Option.{none-some, same_Some}
use Rattle.registry_values.specs.Common.{Answers, number_of_refusal}
use Rattle.passive_list.specs.Common.{OnPlainCpu}
use Rattle.passive_ref.specs.{HasOneLess, why_unusable}
use Rattle.c_handles.specs.declared.values.plain.CPassive.{CPassive}
use Rattle.c_handles.specs.declared.values.plain.TheConstants.{DONE, EMPTY_HANDLE}
use Rattle.c_handles.specs.values.Texts.{no_passive, number_of}
use Rattle.c_calls.specs.Types.{Refusal, WrongCpu}
use Rattle.c_calls.specs.Calls.{Through}
use Rattle.c_calls.specs.References.{IsSame, Releases, psref_of}
use Rattle.c_calls.proofs.Passives.{of_another}
use Rattle.c_calls.proofs.Turned.{refused_not}
use Rattle.c_callers.specs.{IsAnothers}

-- a release through a handle
abbrev pub ReleasesBy : Option OnPlainCpu → Option OnPlainCpu → ℕ → CPassive → CPassive → Type 0
ReleasesBy c d n p q = Through c d n (q ≡ p) (λ a b. Releases p a b n q)

-- what is left of it where it is done
abbrev pub IsReleased : CPassive → OnPlainCpu → OnPlainCpu → CPassive → Type 0
IsReleased p a b q = (q ≡ no_passive) × HasOneLess p.entry.number a.cpu b.cpu

released_by : (p q : CPassive) (a b : OnPlainCpu) (r : Result (Unit {0}) Refusal) → DONE ≡ number_of r → Answers (why_unusable a.cpu.view (psref_of p)) (λ _. HasOneLess p.entry.number a.cpu b.cpu) r
    → IfOk r (λ _. q ≡ no_passive) → IsReleased p a b q
released_by p q a b (Ok tt) is answer empty = (empty, answer.1)
released_by p q a b (Err f) is answer empty = absurd (refused_not f is)

not_empty : (n : ℕ) → n ≡ DONE → n ≡ EMPTY_HANDLE → ⊥
not_empty n done empty = cc

released : (p q : CPassive) (a b : OnPlainCpu) (n : ℕ) → Releases p a b n q → n ≡ DONE → IsReleased p a b q
released p q a b n is done = ⊎_elim
    (λ (none : p.entry.number ≡ 0). absurd (not_empty n done (is.empty none).0))
    (λ (some : p.entry.number ≢ 0). let had = is.held some in released_by p q a b had.r (sym done ∙ had.is) had.answer had.emptied)
    (cases_eq p.entry.number 0)

-- the second of two: of nothing
pub second : (c d e : Option OnPlainCpu) (p q r : CPassive) (m n : ℕ) → ReleasesBy c d m p q → ReleasesBy d e n q r → m ≡ DONE → n ≡ EMPTY_HANDLE
second None d e p q r m n first then_ done = absurd (not_empty m done (first.empty refl).0)
second (Some a) d e p q r m n first then_ done =
    let made = first.full a refl in
    let had = released p q a made.0 m made.2 done in
    ((then_.full made.0 made.1).2.empty (ap (λ (x : CPassive). x.entry.number) had.0)).0

-- what both take away
pub once : (a : OnPlainCpu) (d e : Option OnPlainCpu) (p q r : CPassive) (m n : ℕ) → ReleasesBy (Some a) d m p q → ReleasesBy d e n q r → m ≡ DONE
    → (b : OnPlainCpu) × (e ≡ Some b) × HasOneLess p.entry.number a.cpu b.cpu
once a d e p q r m n first then_ done =
    let made = first.full a refl in
    let had = released p q a made.0 m made.2 done in
    let next = then_.full made.0 made.1 in
    let same = (next.2.empty (ap (λ (x : CPassive). x.entry.number) had.0)).1.0 in
    (next.0, next.1, subst (λ (x : OnPlainCpu). HasOneLess p.entry.number a.cpu x.cpu) (sym same) had.1)

refused_by : (p q : CPassive) (a b : OnPlainCpu) (n : ℕ) (r : Result (Unit {0}) Refusal) → p.cpu ≢ a.cpu.view.id → n ≡ number_of r
    → Answers (why_unusable a.cpu.view (psref_of p)) (λ _. HasOneLess p.entry.number a.cpu b.cpu) r → IfErr r (λ _. IsSame a b p q)
    → (n ≡ number_of_refusal WrongCpu) × IsSame a b p q
refused_by p q a b n (Ok tt) off is answer same = absurd (none-some WrongCpu (sym answer.0 ∙ of_another p a off))
refused_by p q a b n (Err f) off is answer same = (is ∙ ap number_of_refusal (same_Some f WrongCpu (sym answer ∙ of_another p a off)), same)

-- on another CPU
pub elsewhere : (c d : Option OnPlainCpu) (p q : CPassive) (n : ℕ) → IsAnothers p c → ReleasesBy c d n p q → (n ≡ number_of_refusal WrongCpu) × (d ≡ c) × (q ≡ p)
elsewhere c d p q n its is =
    let made = is.full its.cpu its.there in
    let had = made.2.held its.held in
    let all = refused_by p q its.cpu made.0 n had.r its.other had.is had.answer had.refused in
    (all.0, made.1 ∙ (ap Some all.1.0 ∙ sym its.there), all.1.1)
