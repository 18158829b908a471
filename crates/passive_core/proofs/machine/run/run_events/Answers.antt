use Rattle.std.proofs.Common.{None, Err, subst, get_or, arith}
use Rattle.protocol.specs.Common.{Steps}
use Rattle.passive_core.specs.Types.{StepFault, Seat}
use Rattle.protocol.proofs.runs.Steps.{ran_more}
use Rattle.passive_core.proofs.machine.run.run_events.Goals as goal
use Rattle.passive_core.proofs.machine.run.run_events.Goals.{in-Ok, in-Err-NotAllowed}

pub loop-done-preserved : goal.loop-done-preserved
loop-done-preserved c =
    let l = c.loop-done in
    elim c.match-step.branch [
      | in-Ok w ↦
          let more = ran_more _ c.args.events.now l.done _ l.core l.counted _ c.loop-done-test.true l.invariant.so_far w.in-Ok.ensures in
          record { so_far = rw w.counted-is more; each = rw w.counted-is (omega arith) }
      | in-Err-NotAllowed w ↦
          let steps = subst (λ (f : StepFault). Steps l.core c.step.new.self (get_or c.args.events.now l.done (Seat 0)) (Err f)) w.in-Err-NotAllowed.field-0-is w.in-Err-NotAllowed.ensures in
          let more = ran_more _ c.args.events.now l.done _ l.core l.counted None c.loop-done-test.true l.invariant.so_far steps.0 in
          record { so_far = rw (w.counted-is, steps.1) more; each = rw w.counted-is (omega arith) }
    ]
