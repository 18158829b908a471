-- A get of a local reference, by what its calls leave.
use Rattle.std.proofs.Common.{◌≡◌, ◌≢◌, ℕ, Option, Some, None, Result, Ok, Err, refl, ap}
use Rattle.name_registry.specs.Types.{Key, NotFound, ReferenceView, Refusal, Seen}
use Rattle.local_count.specs.{AnswersAcquireLocal}
use Rattle.local_count.specs.References.{OnPlainRef}
use Rattle.passive_list.specs.Common.{AnswersEnter, FindsInside, HasExitedOn, OnCpu}
use Rattle.passive_list.proofs.Sharing.{sharing, entered, found_inside}
use Rattle.name_registry.specs.Common.{FindsAndCounts, GetsLocal}

-- A find, and an acquire

pub counts_none : (key : Key) (a b : OnCpu) → FindsInside key a b None → FindsAndCounts key a b (Err NotFound)
counts_none key a b finds = record { found = None; middle = b; finds = finds; none = λ _. (refl, refl); some = λ off. absurd (off refl) }

some_found : (s : Seen) → ◌≡◌ {A = Option Seen} (Some s) None → ⊥
some_found s q = cc

pub counts_ok : (key : Key) (a m b : OnCpu) (s : Seen) (y : OnPlainRef) → FindsInside key a m (Some s) → AnswersAcquireLocal {X = OnPlainRef} m b (Ok y) (λ v. v.reference)
    → FindsAndCounts key a b (Ok y.reference)
counts_ok key a m b s y finds answers = record {
  found = Some s;
  middle = m;
  finds = finds;
  none = λ none. absurd (some_found s none);
  some = λ _. record { answer = answers.answer; refused = tt };
}

pub counts_err : (key : Key) (a m b : OnCpu) (s : Seen) (f : Refusal) → FindsInside key a m (Some s) → AnswersAcquireLocal {X = OnPlainRef} m b (Err f) (λ v. v.reference) → FindsAndCounts key a b (Err f)
counts_err key a m b s f finds answers = record {
  found = Some s;
  middle = m;
  finds = finds;
  none = λ none. absurd (some_found s none);
  some = λ _. record { answer = answers.answer; refused = answers.refused };
}

-- In the open section, or in one of the call's own

pub gets_inside : (key : Key) (a b : OnCpu) (r : Result ReferenceView Refusal) → a.view.begin ≢ None → FindsAndCounts key a b r → GetsLocal key a b r
gets_inside key a b r inside had = record { inside = λ _. had; outside = λ none. absurd (inside none) }

pub gets_refused : (key : Key) (a b : OnCpu) (f : Refusal) → a.view.begin ≡ None → AnswersEnter a b (Err f) → GetsLocal key a b (Err f)
gets_refused key a b f outside enters = record {
  inside = λ off. absurd (off outside);
  outside = λ _. record { first = b; entered = Err f; enters = enters; refused = λ g is. (ap (λ (i : Refusal). Err i) (same f g is), refl); inside = λ is. absurd (differ f is) };
}
  where
    same : (f g : Refusal) → ◌≡◌ {A = Result (Unit {0}) Refusal} (Err f) (Err g) → f ≡ g
    same f g q = cc

    differ : (f : Refusal) → ◌≡◌ {A = Result (Unit {0}) Refusal} (Err f) (Ok tt) → ⊥
    differ f q = cc

pub gets_outside : (key : Key) (a first last b : OnCpu) (r : Result ReferenceView Refusal) → a.view.begin ≡ None → AnswersEnter a first (Ok tt)
    → FindsAndCounts key first last r → HasExitedOn last b → GetsLocal key a b r
gets_outside key a first last b r outside enters had exits = record {
  inside = λ off. absurd (off outside);
  outside = λ _. record { first = first; entered = Ok tt; enters = enters; refused = λ f is. absurd (differ f is); inside = λ _. (last, had, exits) };
}
  where
    differ : (f : Refusal) → ◌≡◌ {A = Result (Unit {0}) Refusal} (Ok tt) (Err f) → ⊥
    differ f q = cc

-- For a CPU that has a share of a ledger

acquires_shared : (m : ℕ) (a b : OnCpu) (r : Result ReferenceView Refusal) → AnswersAcquireLocal a b r (λ v. v) → AnswersAcquireLocal (sharing m a) (sharing m b) r (λ v. v)
acquires_shared m a b (Ok x) had = record {
  answer = (had.answer.0, let it = had.answer.1 in record { entry = it.entry; found = it.found; is = it.is; cpu = ap (sharing m) it.cpu });
  refused = tt;
}
acquires_shared m a b (Err f) had = record { answer = had.answer; refused = ap (sharing m) had.refused }

counts_shared : (m : ℕ) (key : Key) (a b : OnCpu) (r : Result ReferenceView Refusal) → FindsAndCounts key a b r → FindsAndCounts key (sharing m a) (sharing m b) r
counts_shared m key a b r had = record {
  found = had.found;
  middle = sharing m had.middle;
  finds = found_inside m key a had.middle had.found had.finds;
  none = λ none. ((had.none none).0, ap (sharing m) (had.none none).1);
  some = λ some. acquires_shared m had.middle b r (had.some some);
}

pub gets_shared : (m : ℕ) (key : Key) (a b : OnCpu) (r : Result ReferenceView Refusal) → GetsLocal key a b r → GetsLocal key (sharing m a) (sharing m b) r
gets_shared m key a b r had = record {
  inside = λ inside. counts_shared m key a b r (had.inside inside);
  outside = λ outside. let own = had.outside outside in record {
    first = sharing m own.first;
    entered = own.entered;
    enters = entered m a own.first own.entered own.enters;
    refused = λ f is. ((own.refused f is).0, ap (sharing m) (own.refused f is).1);
    inside = λ is. let in_it = own.inside is in (sharing m in_it.0, counts_shared m key own.first in_it.0 r in_it.1, assumption in_it.2);
  };
}
