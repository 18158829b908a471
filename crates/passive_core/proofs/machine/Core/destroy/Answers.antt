use Rattle.std.proofs.Common.{sym, ◌∙◌}
use Rattle.passive_core.proofs.Advancing.{advance_again, answer_again, marks_again, not_freed}
use Rattle.passive_core.proofs.Making.{work_again}
use Rattle.passive_core.proofs.machine.Core.destroy.Goals as goal
use Rattle.registry_values.proofs.Answers.{same_Ok}

pub loop-preserved : goal.loop-preserved
loop-preserved c =
    let s = c.args.self.now in
    let l = c.loop in
    let held = not_freed l.stage c.in_default.not-Freed in
    let answer = c.in_ok-stage-2.ensures.answer ∙ answer_again s l.self c.args.number l.stage held l.invariant.stage l.invariant.after l.invariant.marks in
    let same = same_Ok c.in_ok-stage-2.stage l.stage (answer ∙ sym l.invariant.stage) in
    record {
      stage = answer;
      after = advance_again s l.self c.advance-in-loop.new.self c.args.number l.stage c.in_ok-stage-2.stage held l.invariant.after c.in_ok-stage-2.ensures.after same;
      marks = marks_again s l.self c.advance-in-loop.new.self c.args.number l.stage c.in_ok-stage-2.stage held l.invariant.after l.invariant.marks c.in_ok-stage-2.ensures.marks same;
      made = work_again s l.self c.advance-in-loop.new.self c.args.number l.stage c.in_ok-stage-2.stage held l.invariant.after l.invariant.made c.in_ok-stage-2.ensures.made same;
      rest = c.in_ok-stage-2.ensures.rest;
      settings = c.in_ok-stage-2.ensures.settings ∙ l.invariant.settings;
      ready = λ d acts. c.in_ok-stage-2.ensures.ready d (l.invariant.ready d acts);
    }
