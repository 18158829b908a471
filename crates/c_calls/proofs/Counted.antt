-- Local references as C has them: what the calls beneath ensure of a reference, as the calls of C say it.
use Rattle.std.proofs.Common.{◌≡◌, ℕ, false, Option, None, Some, Ok, Err, refl, ap, subst, ◌∙◌, inl, inr, ⊎_elim}
use Rattle.std.specs.Prelude.{Result}
use Rattle.c_calls.specs.Types.{Key, NotFound, Refusal, ReferenceView}
use Rattle.passive_list.specs.Common.{OnCpu, OnPlainCpu}
use Rattle.local_count.specs.{AcquiresEntryLocal, AnswersAcquireLocal, HasAcquired, HasComeBack, HasReleased}
use Rattle.c_handles.specs.declared.values.plain.TheConstants.{COLLECTED, DONE}
use Rattle.c_handles.specs.Bodies.{OnLocal, OnLocalBody}
use Rattle.c_calls.specs.LocalCalls.{LocalReleases, ReleasesOn, ThroughLocal}
use Rattle.c_calls.proofs.Handles.{no_body, one_body}

-- An acquire answers the same of another value with the same reference.

not_ok : {X : Type 0} (x : X) (f : Refusal) → ◌≡◌ {A = Result X Refusal} (Ok x) (Err f) → ⊥
not_ok x f wrong = cc

same_err : {X : Type 0} (e f : Refusal) → ◌≡◌ {A = Result X Refusal} (Err e) (Err f) → e ≡ f
same_err e f same = cc

answers_ok : {X Y : Type 0} (a b : OnCpu) (x : X) (y : Y) (f : X → ReferenceView) (g : Y → ReferenceView) → f x ≡ g y → AnswersAcquireLocal a b (Ok x) f → AnswersAcquireLocal a b (Ok y) g
answers_ok a b x y f g same had = record { answer = (had.answer.0, subst (HasAcquired a b) same had.answer.1); refused = tt }

answers_err : {X Y : Type 0} (a b : OnCpu) (e : Refusal) (f : X → ReferenceView) (g : Y → ReferenceView) → AnswersAcquireLocal a b (Err e) f → AnswersAcquireLocal a b (Err e) g
answers_err a b e f g had = record { answer = had.answer; refused = had.refused }

pub acquires_ok : {X Y : Type 0} (n : ℕ) (key : Key) (a b : OnCpu) (x : X) (y : Y) (f : X → ReferenceView) (g : Y → ReferenceView) → f x ≡ g y → AcquiresEntryLocal n key a b (Ok x) f
    → AcquiresEntryLocal n key a b (Ok y) g
acquires_ok n key a b x y f g same had = ⊎_elim
    (λ last. inl (record { last = last.last; answer = answers_ok a b x y f g same last.answer }))
    (λ sought. inr (record {
      other = sought.other;
      c = sought.c;
      seen = sought.seen;
      finds = sought.finds;
      how = ⊎_elim
          (λ last. inl (record { last = last.last; answer = answers_ok sought.c b x y f g same last.answer }))
          (λ none. absurd (not_ok x NotFound none.answer))
          sought.how;
    }))
    had

pub acquires_err : {X Y : Type 0} (n : ℕ) (key : Key) (a b : OnCpu) (e : Refusal) (f : X → ReferenceView) (g : Y → ReferenceView) → AcquiresEntryLocal n key a b (Err e) f
    → AcquiresEntryLocal n key a b (Err e) g
acquires_err n key a b e f g had = ⊎_elim
    (λ last. inl (record { last = last.last; answer = answers_err a b e f g last.answer }))
    (λ sought. inr (record {
      other = sought.other;
      c = sought.c;
      seen = sought.seen;
      finds = sought.finds;
      how = ⊎_elim
          (λ last. inl (record { last = last.last; answer = answers_err sought.c b e f g last.answer }))
          (λ none. inr (record { other = none.other; answer = ap Err (same_err e NotFound none.answer); same = none.same }))
          sought.how;
    }))
    had

-- A release that comes back

pub come_back : (a : OnPlainCpu) (r : OnLocalBody) (b : OnPlainCpu) (o : Option OnLocalBody) (back : OnLocalBody) (v : OnLocal) (l : Option OnLocal) → ReleasesOn a r b o → o ≡ Some back → r ≡ v.held
    → l ≡ Some (record { held = back; copied = false }) → LocalReleases a v b COLLECTED l
come_back a r b o back v l is some held given = ⊎_elim
    (λ done. absurd (no_body o back some done.1))
    (λ late. record {
      words = is.words;
      how = inr (inr (
        refl,
        late.0,
        subst (λ (x : OnLocalBody). HasComeBack a.cpu x.reference b.cpu late.0) held late.1,
        given ∙ (ap (λ (x : OnLocalBody). Some (record { held = x; copied = false })) (one_body o back (record { table = r.table; reference = late.0 }) some late.2)
            ∙ ap (λ (x : OnLocalBody). Some (record { held = record { table = x.table; reference = late.0 }; copied = false })) held),
      ));
    })
    is.how

-- and one that doesn't
pub went : (a : OnPlainCpu) (r : OnLocalBody) (b : OnPlainCpu) (o : Option OnLocalBody) (v : OnLocal) (l : Option OnLocal) → ReleasesOn a r b o → o ≡ None → r ≡ v.held → l ≡ None
    → LocalReleases a v b DONE l
went a r b o v l is none held gone = ⊎_elim
    (λ done. record { words = is.words; how = inl (refl, subst (λ (x : OnLocalBody). HasReleased a.cpu x.reference b.cpu) held done.0, gone) })
    (λ late. absurd (no_body o (record { table = r.table; reference = late.0 }) late.2 none))
    is.how

-- Through a handle and a reference

pub through : {B : Type 0} (c c' : Option B) (l l' : Option OnLocal) (n : ℕ) (P : B → OnLocal → B → Option OnLocal → Type 0) (a b : B) (v : OnLocal) → c ≡ Some a → l ≡ Some v → c' ≡ Some b
    → P a v b l' → ThroughLocal c c' l l' n P
through {B} c c' l l' n P a b v cpu local now had = record {
  empty = λ either. absurd (⊎_elim (λ none. no_body c a cpu none) (λ none. no_body l v local none) either);
  full = λ x w is too. (b, now, subst (λ (z : OnLocal). P x z b l') (one_body l v w local too) (subst (λ (y : B). P y v b l') (one_body c a x cpu is) had));
}
