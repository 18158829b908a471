-- A wait from C is as the law of such waits asks, and its handles stay of their registry.
use Rattle.std.proofs.Common.{◌≡◌, ◌+◌, ◌≢◌, ◌⊎◌, ◌==◌, if◌then◌else◌, ◌∙◌, ⊎_elim, ℕ, Bool, Option, Some, None, Result, Ok, Err, refl, sym, ap, subst, suc, false, List, [], IfOk, IfErr, append-nil, ne_eqb}
use Rattle.std.proofs.lemmas.Option.{none-some, same_Some}
use Rattle.c_calls.specs.Types.{Refusal, Change, Entry, Inside, Waiting, WrongCpu}
use Rattle.registry_values.specs.Common.{number_of_refusal}
use Rattle.cpu_words.specs.Common.{Named}
use Rattle.passive_list.specs.Common.{OnPlainCpu, OnPlainKeeper, OnCpu, OnKeeper, HasHeardOn}
use Rattle.name_registry.specs.Common.{HasAttachedFor, HasDetachedFor, KeepsWords, is_inside}
use Rattle.cpu_words.proofs.shown.Seeing.{prefix_both}
use Rattle.c_handles.specs.Bodies.{IsReferenceOf, OnLocal}
use Rattle.c_handles.specs.declared.values.plain.TheConstants.{DONE, NOT_BEGUN}
use Rattle.c_handles.specs.declared.values.wait.CWait.{CWait}
use Rattle.c_calls.specs.Calls.{Exits, IsOfCpu, Through}
use Rattle.c_calls.specs.Turns.{Begins, IsTurnOfWait, IsUnderWay, IsWaitedFor, PerformAnswers, PerformCalls, PerformsAt, TurnAnswers, Turns, TurnsAt, WritesTold, why_refused}
use Rattle.c_callers.specs.{IsCpuOf, IsLocalOf, IsOn}

-- Handles stay of their registry.

exits_words : (a b : OnPlainCpu) (n : ℕ) (o : Option ℕ) → a.cpu.view.begin ≡ o → Exits a b n → b.words ≡ a.words
exits_words a b n None at is = ap (λ (o : OnPlainCpu). o.words) (is.outside at).1
exits_words a b n (Some s) at is = (is.inside (λ none. none-some s (sym none ∙ at))).2

pub exited_here : (w : Named) (c c' : Option OnPlainCpu) (n : ℕ) → IsCpuOf w c → Through c c' n (Unit {0}) (λ a b. Exits a b n) → IsCpuOf w c'
exited_here w None c' n of is = λ x at. absurd (none-some x (sym (is.empty refl).1 ∙ at))
exited_here w (Some a) c' n of is =
    let made = is.full a refl in
    λ x at. ap (λ (o : OnPlainCpu). o.words) (sym (same_Some made.0 x (sym made.1 ∙ at))) ∙ (exits_words a made.0 n a.cpu.view.begin refl made.2 ∙ of a refl)

pub here : (w : Named) (c : Option OnPlainCpu) (x : OnPlainCpu) → c ≡ Some x → x.words ≡ w → IsCpuOf w c
here w c x is of = λ y at. ap (λ (o : OnPlainCpu). o.words) (sym (same_Some x y (sym is ∙ at))) ∙ of

pub of_cpu : (w : Named) (c : Option OnPlainCpu) (l : Option OnLocal) → IsCpuOf w c → IsLocalOf w l → IsOfCpu c l
of_cpu w c l of at = λ x v has is. subst (λ (o : Named). IsReferenceOf o v.held) (sym (of x has)) (at v is)

-- A wait from C is as the law of such waits asks, by what its calls on the bodies ensure.

-- What a CPU keeps over a call

same : (x y : OnCpu) → y ≡ x → IsOn x y
same x y is = record {
  knows = ([], append-nil x.known_log ∙ ap (λ (o : OnCpu). o.known_log) (sym is));
  id = ap (λ (o : OnCpu). o.view.id) is;
  inside = ap (λ (o : OnCpu). is_inside o) is;
}

pub same_cpu : (x : OnPlainCpu) → IsOn x.cpu x.cpu
same_cpu x = same x.cpu x.cpu refl

heard : (h : List Change) (x y : OnCpu) → HasHeardOn h x y → IsOn x y
heard h x y had = record { knows = had.known_log; id = ap (λ (o : OnCpu). o.view.id) had.is; inside = ap (λ (o : OnCpu). is_inside o) had.is }

pub both : (x m y : OnCpu) → IsOn x m → IsOn m y → IsOn x y
both x m y a b = record { knows = prefix_both x.known_log m.known_log y.known_log a.knows b.knows; id = b.id ∙ a.id; inside = b.inside ∙ a.inside }

begun_on : (k l : OnPlainKeeper) (x y : OnPlainCpu) (wait : CWait) → Begins k x l y wait → IsOn x.cpu y.cpu
begun_on k l x y wait is = heard _ x.cpu y.cpu is.begun.hold.hears

turned_on : (k l : OnPlainKeeper) (x y : OnPlainCpu) (told : Option ℕ) (old new : CWait) → Turns k x l y told old new → IsOn x.cpu y.cpu
turned_on k l x y None old new is = both x.cpu is.cpu y.cpu (heard _ x.cpu is.cpu is.glanced.hold.hears) (heard _ is.cpu y.cpu is.finished.hears)
turned_on k l x y (Some c) old new is =
    both x.cpu is.cpu y.cpu (heard _ x.cpu is.cpu is.glanced.hold.hears) (same is.cpu y.cpu (ap (λ (p : OnKeeper × OnCpu). p.1) is.finished))

pub attached_on : (a b : OnPlainKeeper) (x y : OnPlainCpu) (r : Result Entry Refusal) → IfOk r (λ e. HasAttachedFor a.keeper x.cpu e b.keeper y.cpu) → IfErr r (λ _. (b ≡ a) × (y ≡ x))
    → IsOn x.cpu y.cpu
attached_on a b x y (Ok e) made refused = heard _ x.cpu y.cpu made.cpu
attached_on a b x y (Err f) made refused = same x.cpu y.cpu (ap (λ (o : OnPlainCpu). o.cpu) refused.1)

pub detached_on : (a b : OnPlainKeeper) (x y : OnPlainCpu) (r : Result Entry Refusal) → IfOk r (λ e. HasDetachedFor a.keeper x.cpu e b.keeper y.cpu) → IfErr r (λ _. (b ≡ a) × (y ≡ x))
    → IsOn x.cpu y.cpu
detached_on a b x y (Ok e) made refused = heard _ x.cpu y.cpu made.cpu
detached_on a b x y (Err f) made refused = same x.cpu y.cpu (ap (λ (o : OnPlainCpu). o.cpu) refused.1)

-- The calls through handles that have these bodies; `waited` of a turn is null.

both_there : (k : OnPlainKeeper) (x : OnPlainCpu) (X : Type 0) → (Some k ≡ None) ⊎ (Some x ≡ None) → X
both_there k x X either = absurd (⊎_elim (λ (none : Some k ≡ None). none-some k (sym none)) (λ (none : Some x ≡ None). none-some x (sym none)) either)

begun_call : (k l : OnPlainKeeper) (x y : OnPlainCpu) (first wait : CWait) → PerformAnswers k x l y DONE first wait → PerformCalls (Some k) (Some x) (Some l) (Some y) DONE (Some first) (Some wait)
begun_call k l x y first wait answers =
    let at : PerformsAt k x l y DONE (Some first) (Some wait) = record {
      null = λ none. absurd (none-some first (sym none));
      there = λ w is. (wait, refl, subst (λ (v : CWait). PerformAnswers k x l y DONE v wait) (same_Some first w is) answers);
    } in
    record {
      empty = both_there k x _;
      full = λ a b has is. (l, y, refl, refl, subst (λ (p : OnPlainKeeper × OnPlainCpu). PerformsAt p.0 p.1 l y DONE (Some first) (Some wait)) (λ i. (same_Some k a has i, same_Some x b is i)) at);
    }

-- what a turn returns
abbrev answer_of : Result (Option ℕ) ℕ → ℕ
answer_of (Ok None) = DONE
answer_of (Ok (Some c)) = number_of_refusal (Waiting c)
answer_of (Err e) = e

nothing_written : (r : Result (Option ℕ) ℕ) → WritesTold r (answer_of r) None None
nothing_written (Ok None) = (refl, refl)
nothing_written (Ok (Some c)) = (refl, refl)
nothing_written (Err e) = (refl, refl)

-- by the wait's CPU m, after any calls
turned_call : (words : Named) (m : OnPlainCpu) (k l : OnPlainKeeper) (x y : OnPlainCpu) (r : Result (Option ℕ) ℕ) (old new : CWait) → k.words ≡ words → IsOn m.cpu x.cpu
    → TurnAnswers k x l y r old new → IsTurnOfWait words m old (answer_of r) y new
turned_call words m k l x y r old new ours on answers =
    let n = answer_of r in
    let at : TurnsAt k x l y n (Some old) (Some new) None None = record {
      null = λ none. absurd (none-some old (sym none));
      there = λ w is. (new, refl, r, subst (λ (v : CWait). TurnAnswers k x l y r v new) (same_Some old w is) answers, nothing_written r);
    } in
    record {
      keeper = k;
      cpu = x;
      left = y;
      ours = ours;
      after = λ _. on.knows;
      is_left = record { its = λ _. refl; other = λ not. absurd (not on.id) };
      kept = Some l;
      place = None;
      told = None;
      call = record {
        empty = both_there k x _;
        full = λ a b has is. (l, y, refl, refl, subst (λ (p : OnPlainKeeper × OnPlainCpu). TurnsAt p.0 p.1 l y n (Some old) (Some new) None None) (λ i. (same_Some k a has i, same_Some x b is i)) at);
      };
    }

-- From call to call

-- by what a begin outside returns
pub record Began (k l : OnPlainKeeper) (x y : OnPlainCpu) (wait : CWait) : Type 0 where
  pub under : IsUnderWay k.words x y wait
  pub its : wait.begun ≡ x.cpu.view.id + 1
  pub on : IsOn x.cpu y.cpu

pub began : (k l : OnPlainKeeper) (x y : OnPlainCpu) (n : ℕ) (first wait : CWait) → is_inside x.cpu ≡ false → PerformAnswers k x l y n first wait → Began k l x y wait
began k l x y n first wait out answers =
    let made = answers.outside out in
    let is : PerformAnswers k x l y DONE first wait = subst (λ (a : ℕ). PerformAnswers k x l y a first wait) made.0 answers in
    record {
      under = record { keeper = k; ours = refl; kept = Some l; cpu = y; first = first; begun = wait; begins = begun_call k l x y first wait is; turns = 0; between = (refl, refl) };
      its = made.1.its;
      on = begun_on k l x y wait made.1;
    }

pub goes_on : (words : Named) (x m : OnPlainCpu) (k l : OnPlainKeeper) (c d : OnPlainCpu) (r : Result (Option ℕ) ℕ) (old new : CWait) → k.words ≡ words
    → IsUnderWay words x m old → IsOn m.cpu c.cpu → TurnAnswers k c l d r old new → IsUnderWay words x d new
goes_on words x m k l c d r old new ours is on answers = record {
  keeper = is.keeper;
  ours = is.ours;
  kept = is.kept;
  cpu = is.cpu;
  first = is.first;
  begun = is.begun;
  begins = is.begins;
  turns = suc is.turns;
  between = (m, old, answer_of r, is.between, turned_call words m k l c d r old new ours on answers);
}

pub is_done : (words : Named) (x m : OnPlainCpu) (k l : OnPlainKeeper) (c d : OnPlainCpu) (r : Result (Option ℕ) ℕ) (old new : CWait) → k.words ≡ words
    → IsUnderWay words x m old → IsOn m.cpu c.cpu → TurnAnswers k c l d r old new → r ≡ Ok None → IsWaitedFor words x d
is_done words x m k l c d r old new ours is on answers none = record {
  near = m;
  left = old;
  under = is;
  end = new;
  last = subst (λ (n : ℕ). IsTurnOfWait words m old n d new) (ap answer_of none) (turned_call words m k l c d r old new ours on answers);
}

-- what a turn keeps, refused or not
pub record Keeps (k : OnPlainKeeper) (c : OnPlainCpu) (l : OnPlainKeeper) (d : OnPlainCpu) (old new : CWait) : Type 0 where
  pub its : new.begun ≡ old.begun
  pub on : IsOn c.cpu d.cpu
  pub words : KeepsWords k c l d

keeps_by : (k l : OnPlainKeeper) (c d : OnPlainCpu) (r : Result (Option ℕ) ℕ) (old new : CWait) (why : Option ℕ) → why_refused old c.cpu ≡ why → TurnAnswers k c l d r old new → Keeps k c l d old new
keeps_by k l c d r old new (Some e) at is =
    let made = is.refused e at in record {
      its = ap (λ (w : CWait). w.begun) made.3;
      on = same c.cpu d.cpu (ap (λ (o : OnPlainCpu). o.cpu) made.2);
      words = (ap (λ (o : OnPlainKeeper). o.words) made.1, ap (λ (o : OnPlainCpu). o.words) made.2);
    }
keeps_by k l c d r old new None at is =
    let made = is.made at in
    record { its = ap (λ (w : CWait). w.begun) made.2.wait; on = turned_on k l c d made.0 old new made.2; words = made.2.words }

pub keeps : (k l : OnPlainKeeper) (c d : OnPlainCpu) (r : Result (Option ℕ) ℕ) (old new : CWait) → TurnAnswers k c l d r old new → Keeps k c l d old new
keeps k l c d r old new is = keeps_by k l c d r old new (why_refused old c.cpu) refl is

-- a turn by another CPU is refused
others : (n i : ℕ) (inside : Bool) → n ≢ 0 → n ≢ i + 1
    → (if n == 0 then Some NOT_BEGUN else (if n == i + 1 then (if inside then Some (number_of_refusal Inside) else None) else Some (number_of_refusal WrongCpu))) ≡ Some (number_of_refusal WrongCpu)
others n i inside some other = λ k. if ne_eqb n 0 some k then Some NOT_BEGUN else (if ne_eqb n (i + 1) other k then (if inside then Some (number_of_refusal Inside) else None) else Some (number_of_refusal WrongCpu))

pub other_refused : (k l : OnPlainKeeper) (c d : OnPlainCpu) (r : Result (Option ℕ) ℕ) (old new : CWait) → TurnAnswers k c l d r old new → old.begun ≢ 0 → old.begun ≢ c.cpu.view.id + 1
    → (r ≡ Err (number_of_refusal WrongCpu)) × (l ≡ k) × (d ≡ c) × (new ≡ old)
other_refused k l c d r old new is some other = is.refused (number_of_refusal WrongCpu) (others old.begun c.cpu.view.id (is_inside c.cpu) some other)
