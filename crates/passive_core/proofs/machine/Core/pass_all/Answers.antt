use Rattle.std.proofs.Common.{refl, ◌≡◌, ℕ, ◌<◌, ◌≤◌, true, sym, ap, subst, ◌∙◌, arith, inr}
use Rattle.std.proofs.lemmas.Bool.{cases_eq}
use Rattle.protocol.specs.Common.{AllPassed, Holds, State, mark_at}
use Rattle.registry_values.specs.Common.{retired_number, is_retired, slot_at}
use Rattle.protocol.proofs.Occupied.{in_within, is_retired_tells}
use Rattle.passive_core.proofs.Performing.{only_more, still_passed}
use Rattle.passive_core.specs.Common.{IsWaiting}
use Rattle.passive_core.proofs.Advancing.{passes_none}
use Rattle.passive_core.proofs.Making.{only_after, only_none}
use Rattle.passive_core.proofs.machine.Core.pass_all.Goals as goal
use Rattle.protocol.proofs.Either.{either}

pub loop-t-preserved : goal.loop-t-preserved
loop-t-preserved c =
    let s = c.args.self.now in
    let l = c.loop-t in
    let n = c.pass_entry.new.self in
    let lt : l.t < s.settings.slots = subst (λ (x : State). l.t < x.settings.slots) c.self.view_is c.loop-t-test.true in
    let slots : (u : ℕ) → slot_at l.self.slots u ≡ slot_at s.slots u = λ u. ap (λ (x : State). slot_at x.slots u) l.invariant.only.only in
    record {
      made = only_after IsWaiting s l.self n l.invariant.made c.pass_entry.ensures.made;
      only = only_more s l.self n l.invariant.only c.pass_entry.ensures.only;
      passed = λ u below gone. either (cases_eq u l.t)
          (λ same.
          let here : is_retired (slot_at s.slots l.t) ≡ true = ap (λ (k : ℕ). is_retired (slot_at s.slots k)) (sym same) ∙ gone in
          subst (AllPassed n) (sym same) (c.pass_entry.ensures.passed l.t (ap is_retired (slots l.t) ∙ here) (c.requires.numbers l.t lt ∙ ap retired_number (sym (slots l.t)))))
          (λ off. still_passed l.self n u c.pass_entry.ensures.only (l.invariant.passed u (omega (arith, below, off)) gone));
    }

pub returns-clause-passed : goal.returns-clause-passed
returns-clause-passed c = λ t gone.
    let s = c.args.self.now in
    let e = is_retired_tells (slot_at s.slots t) gone in
    let lt : t < s.settings.slots = omega (arith, in_within s.slots t e.0 (inr e.1), (subst Holds c.self.view_is c.self.invariant).shape.slots) in
    c.loop-t.invariant.passed t (omega (arith, lt, subst (λ (x : State). x.settings.slots ≤ c.loop-t.t) c.self.view_is c.loop-t-test.false)) gone

pub loop-t-init : goal.loop-t-init
loop-t-init c = record {
  only = record { only = refl; marks = λ t d. passes_none (mark_at c.args.self.now.marks t d); elsewhere = λ t off. refl };
  passed = λ u below gone. absurd (omega (arith, below));
  made = only_none IsWaiting c.args.self.now;
}
