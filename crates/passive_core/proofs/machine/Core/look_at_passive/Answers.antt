use Rattle.std.proofs.Common.{◌≡◌, ◌<◌, ◌≤◌, true, false, refl, sym, subst, ◌∙◌, ap, arith}
use Rattle.passive_core.specs.Common.{has_passive, IsPassiveLookFor}
use Rattle.passive_core.specs.Types.{Mark}
use Rattle.protocol.specs.Common.{State, mark_at}
use borrow.Author.Count.{below_more}
use Rattle.registry_values.proofs.Slots.{least_is, none_below}
use Rattle.passive_core.proofs.Advancing.{marks_clear_none, marks_clear_more, not_false, not_true, only_marks, passive_same}
use Rattle.passive_core.proofs.Making.{only_after, only_none}
use Rattle.passive_core.proofs.machine.Core.look_at_passive.Goals as goal

pub returns-then-not-clears-clause-answer : goal.returns-then-not-clears-clause-answer
returns-then-not-clears-clause-answer c =
    let s = c.args.self.now in
    let l = c.loop-c in
    let has : has_passive l.self c.args.t l.c ≡ true = not_false (has_passive l.self c.args.t l.c) c.clears.result c.clears.ensures.answer c.if-not-clears.true in
    sym (least_is (has_passive s c.args.t) l.c s.settings.cpus (subst (λ (x : State). l.c < x.settings.cpus) c.self.view_is c.loop-c-test.true)
    (sym (passive_same s l.self c.args.t l.c l.invariant.only (ap (λ (m : Mark). m.clear) (l.invariant.above l.c (omega arith)))) ∙ has) l.invariant.none)

pub returns-then-not-clears-clause-marks : goal.returns-then-not-clears-clause-marks
returns-then-not-clears-clause-marks c = marks_clear_more c.args.self.now.marks c.loop-c.self.marks c.clears.new.self.marks c.args.t c.loop-c.invariant.marks c.clears.ensures.marks

pub returns-then-not-clears-clause-stopped : goal.returns-then-not-clears-clause-stopped
returns-then-not-clears-clause-stopped c =
    let s = c.args.self.now in
    let l = c.loop-c in
    let marks = marks_clear_more s.marks l.self.marks c.clears.new.self.marks c.args.t l.invariant.marks c.clears.ensures.marks in
    let cpus : c.clears.new.self.settings.cpus ≡ s.settings.cpus = ap (λ (x : State). x.settings.cpus) (only_marks s l.self c.clears.new.self l.invariant.only c.clears.ensures.only) in
    record {
      marks = marks;
      passed = λ d lt. (marks.here d).passed (c.requires.passed d (omega (arith, lt, cpus)));
      below = λ d lt. (c.clears.ensures.marks.here d).clear (l.invariant.clear d lt);
      here = sym c.clears.ensures.clear ∙ c.if-not-clears.true;
      above = λ d lt. ap (λ (m : Mark). m.clear) (c.clears.ensures.others d (λ same. omega (arith, lt, same)) ∙ l.invariant.above d (omega (arith, lt)));
    }

pub loop-c-preserved : goal.loop-c-preserved
loop-c-preserved c =
    let s = c.args.self.now in
    let l = c.loop-c in
    let none : has_passive l.self c.args.t l.c ≡ false = not_true (has_passive l.self c.args.t l.c) c.clears.result c.clears.ensures.answer c.if-not-clears.false in
    record {
      only = only_marks s l.self c.clears.new.self l.invariant.only c.clears.ensures.only;
      marks = marks_clear_more s.marks l.self.marks c.clears.new.self.marks c.args.t l.invariant.marks c.clears.ensures.marks;
      made = only_after (IsPassiveLookFor c.args.t) s l.self c.clears.new.self l.invariant.made c.clears.ensures.made;
      above = λ d le. c.clears.ensures.others d (λ same. omega (arith, le, same)) ∙ l.invariant.above d (omega (arith, le));
      clear = below_more (λ d. (mark_at c.clears.new.self.marks c.args.t d).clear ≡ true) l.c
          (λ d lt. (c.clears.ensures.marks.here d).clear (l.invariant.clear d lt)) (sym c.clears.ensures.clear ∙ c.if-not-clears.false);
      none = below_more (λ d. has_passive s c.args.t d ≡ false) l.c l.invariant.none (sym (passive_same s l.self c.args.t l.c l.invariant.only (ap (λ (m : Mark). m.clear) (l.invariant.above l.c (omega arith)))) ∙ none);
    }

pub returns-clause-answer : goal.returns-clause-answer
returns-clause-answer c = sym (none_below (has_passive c.args.self.now c.args.t) c.args.self.now.settings.cpus
    (λ d lt. c.loop-c.invariant.none d (omega (arith, lt, subst (λ (x : State). x.settings.cpus ≤ c.loop-c.c) c.self.view_is c.loop-c-test.false))))

pub loop-c-init : goal.loop-c-init
loop-c-init c = record {
  only = refl;
  marks = marks_clear_none c.args.self.now.marks c.args.t;
  made = only_none (IsPassiveLookFor c.args.t) c.args.self.now;
  above = λ d le. refl;
  clear = λ d lt. absurd (omega (arith, lt));
  none = λ d lt. absurd (omega (arith, lt));
}

pub returns-then-not-clears-clause-made : goal.returns-then-not-clears-clause-made
returns-then-not-clears-clause-made c = only_after (IsPassiveLookFor c.args.t) c.args.self.now c.loop-c.self c.clears.new.self c.loop-c.invariant.made c.clears.ensures.made
