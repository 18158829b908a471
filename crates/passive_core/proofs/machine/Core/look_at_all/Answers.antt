use Rattle.std.proofs.Common.{◌≡◌, ◌<◌, ◌≤◌, true, false, refl, sym, subst, ◌∙◌, arith}
use borrow.Author.Count.{below_more}
use Rattle.passive_core.specs.Common.{is_open_since, IsLookFor}
use Rattle.protocol.specs.Common.{State, mark_at}
use Rattle.registry_values.proofs.Slots.{least_is, none_below}
use Rattle.passive_core.proofs.Advancing.{marks_pass_none, not_false, not_true, only_marks, open_same, marks_pass_more}
use Rattle.passive_core.proofs.Making.{only_after, only_none}
use Rattle.passive_core.proofs.machine.Core.look_at_all.Goals as goal

pub returns-then-not-passes-clause-answer : goal.returns-then-not-passes-clause-answer
returns-then-not-passes-clause-answer c =
    let s = c.args.self.now in
    let l = c.loop-c in
    let open_ : is_open_since l.self c.args.t l.c ≡ true = not_false (is_open_since l.self c.args.t l.c) c.passes.result c.passes.ensures.answer c.if-not-passes.true in
    sym (least_is (is_open_since s c.args.t) l.c s.settings.cpus (subst (λ (x : State). l.c < x.settings.cpus) c.self.view_is c.loop-c-test.true)
    (sym (open_same s l.self c.args.t l.c l.invariant.only l.invariant.marks) ∙ open_) l.invariant.closed)

pub returns-then-not-passes-clause-marks : goal.returns-then-not-passes-clause-marks
returns-then-not-passes-clause-marks c = marks_pass_more c.args.self.now.marks c.loop-c.self.marks c.passes.new.self.marks c.args.t c.loop-c.invariant.marks c.passes.ensures.marks

pub returns-then-not-passes-clause-stopped : goal.returns-then-not-passes-clause-stopped
returns-then-not-passes-clause-stopped c =
    let s = c.args.self.now in
    let l = c.loop-c in
    record {
      marks = marks_pass_more s.marks l.self.marks c.passes.new.self.marks c.args.t l.invariant.marks c.passes.ensures.marks;
      below = λ d lt. (c.passes.ensures.marks.here d).passed (l.invariant.passed d lt);
      here = sym c.passes.ensures.passed ∙ c.if-not-passes.true;
      above = λ d lt. c.passes.ensures.others d (λ same. omega (arith, lt, same)) ∙ l.invariant.above d (omega (arith, lt));
    }

pub loop-c-preserved : goal.loop-c-preserved
loop-c-preserved c =
    let s = c.args.self.now in
    let l = c.loop-c in
    let closed : is_open_since l.self c.args.t l.c ≡ false = not_true (is_open_since l.self c.args.t l.c) c.passes.result c.passes.ensures.answer c.if-not-passes.false in
    record {
      only = only_marks s l.self c.passes.new.self l.invariant.only c.passes.ensures.only;
      marks = marks_pass_more s.marks l.self.marks c.passes.new.self.marks c.args.t l.invariant.marks c.passes.ensures.marks;
      made = only_after (IsLookFor c.args.t) s l.self c.passes.new.self l.invariant.made c.passes.ensures.made;
      above = λ d le. c.passes.ensures.others d (λ same. omega (arith, le, same)) ∙ l.invariant.above d (omega (arith, le));
      passed = below_more (λ d. (mark_at c.passes.new.self.marks c.args.t d).passed ≡ true) l.c
          (λ d lt. (c.passes.ensures.marks.here d).passed (l.invariant.passed d lt)) (sym c.passes.ensures.passed ∙ c.if-not-passes.false);
      closed = below_more (λ d. is_open_since s c.args.t d ≡ false) l.c l.invariant.closed (sym (open_same s l.self c.args.t l.c l.invariant.only l.invariant.marks) ∙ closed);
    }

pub returns-clause-answer : goal.returns-clause-answer
returns-clause-answer c = sym (none_below (is_open_since c.args.self.now c.args.t) c.args.self.now.settings.cpus
    (λ d lt. c.loop-c.invariant.closed d (omega (arith, lt, subst (λ (x : State). x.settings.cpus ≤ c.loop-c.c) c.self.view_is c.loop-c-test.false))))

pub loop-c-init : goal.loop-c-init
loop-c-init c = record {
  only = refl;
  marks = marks_pass_none c.args.self.now.marks c.args.t;
  made = only_none (IsLookFor c.args.t) c.args.self.now;
  above = λ d le. refl;
  passed = λ d lt. absurd (omega (arith, lt));
  closed = λ d lt. absurd (omega (arith, lt));
}

pub returns-then-not-passes-clause-made : goal.returns-then-not-passes-clause-made
returns-then-not-passes-clause-made c = only_after (IsLookFor c.args.t) c.args.self.now c.loop-c.self c.passes.new.self c.loop-c.invariant.made c.passes.ensures.made
