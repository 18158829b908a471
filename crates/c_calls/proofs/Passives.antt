-- Passive references as C has them: which of them are a CPU's own, and what C gets of the results of the calls beneath.
use Rattle.std.proofs.Common.{◌≡◌, ◌≢◌, ℕ, Option, Some, None, Result, Ok, Err, IfOk, IfErr, refl, sym, ap, subst, ◌∙◌, ⊎_elim, arith}
use Rattle.std.specs.Prelude.{◌<◌, nat_lt}
use Rattle.std.proofs.lemmas.Bool.{eq-eqb, lt-ltb, ne_eqb}
use Rattle.c_calls.specs.Types.{Entry, Key, Refusal, WrongCpu}
use Rattle.registry_values.specs.Answers as answers
use Rattle.registry_values.specs.Common.{number_of_refusal}
use Rattle.cpu_words.specs.Common.{references_to}
use Rattle.passive_list.specs.Common.{OnCpu, OnPlainCpu}
use Rattle.passive_list.specs.declared.lookup.Seen.{Seen}
use Rattle.passive_ref.specs.{AcquiresEntry, GetsBy, HasOneLess, OnPsref, why_not_copied, why_unusable}
use Rattle.name_registry.specs.LookingUp.{Gets, HasNotGot}
use Rattle.c_handles.specs.declared.values.plain.TheConstants.{DONE}
use Rattle.c_handles.specs.declared.values.plain.CEntry.{CEntry}
use Rattle.c_handles.specs.declared.values.plain.CPassive.{CPassive}
use Rattle.c_handles.specs.values.Texts.{entry_again, entry_out, no_passive, number_of}
use Rattle.c_calls.specs.Calls.{Through}
use Rattle.c_calls.specs.References.{AcquiresInside, CopiesHeld, GetsFor, Releases, ReleasesHeld, psref_of}
use Rattle.c_calls.proofs.Handles.{no_body, one_body}

-- A call on the body that there is, through its handle

pub through_some : (old : Option OnPlainCpu) (x y : OnPlainCpu) (n : ℕ) (Same : Type 0) (P : OnPlainCpu → OnPlainCpu → Type 0) → old ≡ Some x → P x y → Through old (Some y) n Same P
through_some old x y n Same P was had = record {
  empty = λ none. absurd (no_body old x was none);
  full = λ a is. (y, refl, subst (λ (z : OnPlainCpu). P z y) (one_body old x a was is) had);
}

-- What a get gave is written

pub got_into : (key : Key) (a b : OnPlainCpu) (r : Result (Entry × OnPsref) Refusal) (i n : ℕ) (old new : CPassive) → i ≡ a.cpu.view.id → n ≡ number_of r → Gets key a.cpu b.cpu r
    → IfErr r (λ _. new ≡ old) → IfOk r (λ g. new ≡ record { entry = entry_out g.0; cpu = i }) → b.words ≡ a.words → GetsFor key a b n old new
got_into key a b r i n old new own number gets same written words = record {
  r = r;
  is = number;
  answer = gets;
  refused = same;
  writes = subst (λ (j : ℕ). IfOk r (λ g. new ≡ record { entry = entry_out g.0; cpu = j })) own written;
  words = words;
}

-- A get that got nothing left the CPU's number

same_by : (kept : Option Seen) (key : Key) (a c : OnCpu) → GetsBy kept key a c None → c.view.id ≡ a.view.id
same_by None key a c had = ap (λ (x : OnCpu). x.view.id) had.1
same_by (Some s) key a c had = ⊎_elim (λ full. ap (λ (x : OnCpu). x.view.id) full.0) (λ up. ap (λ (x : OnCpu). x.view.id) up.is) had

pub same_id : (key : Key) (a c : OnCpu) → HasNotGot key a c → c.view.id ≡ a.view.id
same_id key a c had = ⊎_elim (λ tried. same_by tried.1.0 key a c tried.1.2) (λ not. ap (λ (x : OnCpu). x.view.id) not.1) had

-- What an acquire gave is written
pub acquired_into : (e : CEntry) (key : Key) (a b : OnPlainCpu) (r : Result OnPsref Refusal) (i n : ℕ) (old new : CPassive) → i ≡ a.cpu.view.id → n ≡ number_of r → AcquiresEntry e.number key a.cpu b.cpu r
    → IfErr r (λ _. new ≡ old) → IfOk r (λ _. new ≡ record { entry = entry_again e; cpu = i }) → b.words ≡ a.words → AcquiresInside e key a b n old new
acquired_into e key a b r i n old new own number had same written words = record {
  r = r;
  is = number;
  answer = had;
  refused = same;
  writes = subst (λ (j : ℕ). IfOk r (λ _. new ≡ record { entry = entry_again e; cpu = j })) own written;
  words = words;
}

-- Whose reference it is

pub of_another : (p : CPassive) (a : OnPlainCpu) → p.cpu ≢ a.cpu.view.id → why_unusable a.cpu.view (psref_of p) ≡ Some WrongCpu
of_another p a off = ap (λ own. answers.why_unusable own (nat_lt 0 (references_to p.entry.number a.cpu.view.references))) (ne_eqb p.cpu a.cpu.view.id off)

pub own_held : (p : CPassive) (a : OnPlainCpu) → p.cpu ≡ a.cpu.view.id → 0 < references_to p.entry.number a.cpu.view.references → why_unusable a.cpu.view (psref_of p) ≡ None
own_held p a own some = λ i. answers.why_unusable (eq-eqb p.cpu a.cpu.view.id own i) (lt-ltb 0 (references_to p.entry.number a.cpu.view.references) some i)

-- a copy, and a release, on another CPU

pub copied_elsewhere : (p : CPassive) (a : OnPlainCpu) (new : CPassive) (w n : ℕ) → w ≡ a.cpu.view.id → p.cpu ≢ w → n ≡ number_of_refusal WrongCpu → CopiesHeld p a a n new new
copied_elsewhere p a new w n is off number = record {
  r = Err WrongCpu;
  is = number;
  answer = ap (why_not_copied a.cpu.view p.entry.number) (of_another p a (λ same. off (same ∙ sym is)));
  refused = (refl, refl);
  writes = tt;
  words = refl;
}

pub released_elsewhere : (p : CPassive) (a : OnPlainCpu) (w n : ℕ) → w ≡ a.cpu.view.id → p.cpu ≢ w → n ≡ number_of_refusal WrongCpu → ReleasesHeld p a a n p
released_elsewhere p a w n is off number =
    record { r = Err WrongCpu; is = number; answer = of_another p a (λ same. off (same ∙ sym is)); refused = (refl, refl); emptied = tt; words = refl }

-- a release by the slot
pub released_at : (p : CPassive) (a b : OnPlainCpu) (new : CPassive) → p.cpu ≡ a.cpu.view.id → b.words ≡ a.words
    → (0 < references_to p.entry.number a.cpu.view.references) × HasOneLess p.entry.number a.cpu b.cpu → new ≡ no_passive → ReleasesHeld p a b DONE new
released_at p a b new own words had empty =
    record { r = Ok tt; is = refl; answer = (own_held p a own had.0, had.1); refused = tt; emptied = empty; words = words }

-- through C's reference
pub released_here : (p : CPassive) (a b : OnPlainCpu) (new : CPassive) → p.cpu ≡ a.cpu.view.id → b.words ≡ a.words → 0 < p.entry.number
    → (0 < references_to p.entry.number a.cpu.view.references) × HasOneLess p.entry.number a.cpu b.cpu → new ≡ no_passive → Releases p a b DONE new
released_here p a b new own words begun had empty = record { empty = λ none. absurd (omega (arith, none, begun)); held = λ _. released_at p a b new own words had empty }
