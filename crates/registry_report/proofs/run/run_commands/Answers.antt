-- `run_commands`: its clauses `err`, `ok`, `front` and `run`; that each turn of its loop keeps the invariants.
use Rattle.std.proofs.Common.{[], get_or, refl, subst, sym, ◌∙◌}
use Rattle.registry_report.specs.Common.{IsLineOf, WritesFront, AppendsPrefix}
use Rattle.registry_report.specs.Report.{report_from}
use Rattle.registry_report.proofs.Written.{on_err, report_done, report_step, report_stopped, run_done, run_so_far, run_step, run_stopped, appends_none, written_none}
use Rattle.registry_report.proofs.run.run_commands.Goals as goal

pub loop-command-init : goal.loop-command-init
loop-command-init g c = record {
  kept = refl;
  so_far = λ r on. (r, on, written_none (g.W.Write.contents c.args.writer.now) (report_from r c.args.commands.now));
  printed = ([], refl, appends_none (g.W.Write.contents c.args.writer.now));
}

pub loop-command-preserved : goal.loop-command-preserved
loop-command-preserved g c =
    let l = c.loop-command in
    record {
      kept = c.carry_out.ensures.kept ∙ l.invariant.kept;
      so_far = λ r on.
          let p = l.invariant.so_far r on in (
            _,
            c.in_ok-text.ensures.shows p.0 p.1,
            report_step _ (g.W.Write.contents l.writer) _ (report_from r c.args.commands.now) p.0 c.args.commands.now l.command-index _ c.as_bytes.result.now
                c.loop-command-test.true p.2 (c.as_bytes.ensures.value ∙ c.in_ok-text.ensures.line p.0 p.1) c.in_ok-write_text.ensures.ok,
          );
      printed = run_step _ (g.W.Write.contents l.writer) _ c.args.commands.now l.command-index _ c.as_bytes.result.now c.loop-command-test.true l.invariant.printed
          (subst (IsLineOf (get_or c.args.commands.now l.command-index _)) (sym c.as_bytes.ensures.value) c.in_ok-text.ensures.shape) c.in_ok-write_text.ensures.ok;
    }

pub returns-in_err-write_text-clause-err : goal.returns-in_err-write_text-clause-err
returns-in_err-write_text-clause-err g c = λ r on.
    let l = c.loop-command in
    let p = l.invariant.so_far r on in
    on_err (AppendsPrefix (g.W.Write.contents c.args.writer.now) (g.W.Write.contents c.write_text.new.writer) (report_from r c.args.commands.now)) _
    (report_stopped _ (g.W.Write.contents l.writer) _ (report_from r c.args.commands.now) p.0 c.args.commands.now l.command-index _ c.as_bytes.result.now
    c.loop-command-test.true p.2 (c.as_bytes.ensures.value ∙ c.in_ok-text.ensures.line p.0 p.1) c.in_err-write_text.ensures.err)

pub returns-clause-ok : goal.returns-clause-ok
returns-clause-ok g c = λ r on.
    let l = c.loop-command in
    let p = l.invariant.so_far r on in
    report_done (g.W.Write.contents c.args.writer.now) (g.W.Write.contents l.writer) (report_from r c.args.commands.now) p.0 c.args.commands.now l.command-index c.loop-command-test.false p.2

pub returns-in_err-text-clause-front : goal.returns-in_err-text-clause-front
returns-in_err-text-clause-front g c =
    let l = c.loop-command in
    on_err (WritesFront (g.W.Write.contents c.args.writer.now) (g.W.Write.contents l.writer) c.args.commands.now) _
    (run_so_far (g.W.Write.contents c.args.writer.now) (g.W.Write.contents l.writer) c.args.commands.now l.command-index l.invariant.printed)

pub returns-in_err-write_text-clause-front : goal.returns-in_err-write_text-clause-front
returns-in_err-write_text-clause-front g c =
    let l = c.loop-command in
    on_err (WritesFront (g.W.Write.contents c.args.writer.now) (g.W.Write.contents c.write_text.new.writer) c.args.commands.now) _
    (run_stopped _ (g.W.Write.contents l.writer) _ c.args.commands.now l.command-index _ c.as_bytes.result.now c.loop-command-test.true l.invariant.printed
    (subst (IsLineOf (get_or c.args.commands.now l.command-index _)) (sym c.as_bytes.ensures.value) c.in_ok-text.ensures.shape) c.in_err-write_text.ensures.err)

pub returns-clause-run : goal.returns-clause-run
returns-clause-run g c =
    let l = c.loop-command in
    run_done (g.W.Write.contents c.args.writer.now) (g.W.Write.contents l.writer) c.args.commands.now l.command-index c.loop-command-test.false l.invariant.printed
