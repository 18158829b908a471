-- A CPU and a local reference stay of their registry over the calls of local references.
use Rattle.std.proofs.Common.{◌≡◌, ◌∙◌, ⊎_elim, ◌⊎◌, inl, inr, ℕ, Option, Some, None, Result, Ok, Err, refl, sym, ap, subst, true, List, IfOk}
use Rattle.std.proofs.lemmas.Option.{none-some, same_Some}
use Rattle.c_calls.specs.Types.{Key, NoMemory, Refusal}
use Rattle.registry_values.specs.Common.{number_of_refusal}
use Rattle.cpu_words.specs.Common.{Named}
use Rattle.passive_list.specs.Common.{OnPlainCpu, OnPlainKeeper}
use Rattle.local_count.specs.Draining.{HasGivenUp}
use Rattle.c_handles.specs.Bodies.{IsReferenceOf, OnLocal, OnLocalBody}
use Rattle.c_handles.specs.declared.values.plain.TheConstants.{DONE, NOT_COLLECTED}
use Rattle.c_handles.specs.declared.values.plain.CEntry.{CEntry}
use Rattle.c_handles.specs.values.Texts.{kind_given}
use Rattle.c_handles.specs.Heap.{IsLong}
use Rattle.c_handles.specs.declared.handle.CpuHandle.{CpuHandle}
use Rattle.c_calls.specs.Calls.{DoesAsked, IsOfKeeper, Through, asked}
use Rattle.c_calls.specs.LocalCalls.{AcquiresLocal, AcquiresLocalFor, AcquiresLocalGiven, AcquiresLocalInside, AreOfOneRow, IsSameLocal, IsUncollected, LocalGivesUp, ReleasesLocked, ThroughLocal, given_of}
use Rattle.c_callers.specs.{IsCpuOf, IsLocalOf}

-- the CPU is of the registry, and so is what the place has
abbrev AreHere : Named → OnPlainCpu → Option OnLocal → Type 0
AreHere w b l = (b.words ≡ w) × IsLocalOf w l

same_here : (w : Named) (a b : OnPlainCpu) (l' : Option OnLocal) → a.words ≡ w → IsSameLocal a b None l' → AreHere w b l'
same_here w a b l' of same = (ap (λ (o : OnPlainCpu). o.words) same.0 ∙ of, λ v at. absurd (none-some v (sym same.1 ∙ at)))

given_here : (w : Named) (r : Result OnLocalBody Refusal) → IfOk r (λ v. IsReferenceOf w v) → IsLocalOf w (given_of r)
given_here w (Ok u) ours = λ v at. subst (λ (x : OnLocal). IsReferenceOf w x.held) (same_Some _ v at) ours
given_here w (Err f) ours = λ v at. absurd (none-some v at)

inside_here : (w : Named) (n : ℕ) (key : Key) (a b : OnPlainCpu) (m : ℕ) (l' : Option OnLocal) → a.words ≡ w → AcquiresLocalInside n key a b m l' → AreHere w b l'
inside_here w n key a b m l' of is =
    (is.words ∙ of, subst (IsLocalOf w) (sym is.given) (given_here w is.r (subst (λ (o : Named). IfOk is.r (λ v. IsReferenceOf o v)) of is.ours)))

for_here : (w : Named) (n : ℕ) (key : Key) (a b : OnPlainCpu) (m : ℕ) (l' : Option OnLocal) (o : Option ℕ) → a.cpu.view.begin ≡ o → a.words ≡ w → AcquiresLocalFor n key a b m None l'
    → AreHere w b l'
for_here w n key a b m l' None at of is = same_here w a b l' of (is.outside at).1
for_here w n key a b m l' (Some s) at of is = ⊎_elim
    (λ (no : (m ≡ number_of_refusal NoMemory) × IsSameLocal a b None l'). same_here w a b l' of no.1)
    (λ (made : AcquiresLocalInside n key a b m l'). inside_here w n key a b m l' of made)
    (is.inside (λ none. none-some s (sym none ∙ at)))

asked_here : (w : Named) (n : ℕ) (a b : OnPlainCpu) (m : ℕ) (l' : Option OnLocal) (r : Result Key ℕ) → a.words ≡ w
    → DoesAsked r m (IsSameLocal a b None l') (λ key. AcquiresLocalFor n key a b m None l') → AreHere w b l'
asked_here w n a b m l' (Err e) of is = same_here w a b l' of is.1
asked_here w n a b m l' (Ok key) of is = for_here w n key a b m l' a.cpu.view.begin refl of is

one_here : (w : Named) (given : Option CEntry) (a b : OnPlainCpu) (m : ℕ) (l' : Option OnLocal) → a.words ≡ w → AcquiresLocalGiven given a b m None l' → AreHere w b l'
one_here w None a b m l' of is = same_here w a b l' of is.1
one_here w (Some e) a b m l' of is = asked_here w e.number a b m l' (asked (kind_given e) (Some e.name)) of is.does

pub acquired_here : (w : Named) (c c' : Option OnPlainCpu) (given : Option CEntry) (l l' : Option OnLocal) (n : ℕ) → IsCpuOf w c → l ≡ None
    → Through c c' n (l' ≡ l) (λ a b. AcquiresLocal given a b n l l') → IsCpuOf w c' × IsLocalOf w l'
acquired_here w None c' given l l' n of none is =
    let same = is.empty refl in
    (λ x at. absurd (none-some x (sym same.1 ∙ at)), λ v at. absurd (none-some v (sym none ∙ (sym same.2 ∙ at))))
acquired_here w (Some a) c' given l l' n of none is =
    let made = is.full a refl in
    let here = one_here w given a made.0 n l' (of a refl) (subst (λ (o : Option OnLocal). AcquiresLocalGiven given a made.0 n o l') none (made.2.empty none)) in
    (λ x at. ap (λ (o : OnPlainCpu). o.words) (sym (same_Some made.0 x (sym made.1 ∙ at))) ∙ here.0, here.1)

-- Without a CPU a reference is released, or stays.

left_here : (w : Named) (k j : OnPlainKeeper) (v : OnLocal) (l : Option OnLocal) (n : ℕ) → IsReferenceOf w v.held → LocalGivesUp k v j n l → IsLocalOf w l
left_here w k j v l n of is = λ u at. ⊎_elim
    (λ (done : (n ≡ DONE) × HasGivenUp k.keeper v.held.reference j.keeper × (l ≡ None)). absurd (none-some u (sym done.2 ∙ at)))
    (λ (kept : ((v.copied ≡ true) × (n ≡ DONE) × (j ≡ k) × (l ≡ None)) ⊎ ((n ≡ NOT_COLLECTED) × (j ≡ k) × (l ≡ Some v) × IsUncollected k v)). ⊎_elim
    (λ share. absurd (none-some u (sym share.3 ∙ at)))
    (λ back. subst (λ (x : OnLocal). IsReferenceOf w x.held) (same_Some v u (sym back.2 ∙ at)) of) kept)
    is.how

pub given_up_here : (w : Named) (k k' : Option OnPlainKeeper) (l l' : Option OnLocal) (n : ℕ) → IsLocalOf w l → ThroughLocal k k' l l' n (λ a v b m. LocalGivesUp a v b n m) → IsLocalOf w l'
given_up_here w None k' l l' n of is = subst (IsLocalOf w) (sym (is.empty (inl refl)).2) of
given_up_here w (Some a) k' None l' n of is = subst (IsLocalOf w) (sym (is.empty (inr refl)).2) of
given_up_here w (Some a) k' (Some v) l' n of is = let made = is.full a v refl refl in left_here w a made.0 v l' n (of v refl) made.2

-- No CPU is given: a null row.

pub no_row : (cpus : Option (List CpuHandle)) → cpus ≡ None → IsLong cpus 1
no_row cpus none = subst (λ (o : Option (List CpuHandle)). IsLong o 1) (sym none) tt

pub of_no_row : (k : Option OnPlainKeeper) (cpus : Option (List CpuHandle)) → cpus ≡ None → AreOfOneRow k cpus
of_no_row k cpus none = subst (λ (o : Option (List CpuHandle)). AreOfOneRow k o) (sym none) tt

pub without_cpu : (k k' : Option OnPlainKeeper) (cpus after : Option (List CpuHandle)) (l l' : Option OnLocal) (n : ℕ) → cpus ≡ None → ReleasesLocked k k' cpus after l l' n
    → ThroughLocal k k' l l' n (λ a v b m. LocalGivesUp a v b n m)
without_cpu k k' cpus after l l' n none is = (subst (λ (o : Option (List CpuHandle)). ReleasesLocked k k' o after l l' n) none is).1

pub of_keeper : (w : Named) (k : Option OnPlainKeeper) (l : Option OnLocal) (a : OnPlainKeeper) → k ≡ Some a → a.words ≡ w → IsLocalOf w l → IsOfKeeper k l
of_keeper w k l a is of at = λ b v has some.
    subst (λ (o : Named). IsReferenceOf o v.held) (sym (ap (λ (o : OnPlainKeeper). o.words) (sym (same_Some a b (sym is ∙ has))) ∙ of)) (at v some)
