-- `run_core`: its clauses `err` and `ok`; what `run_on` requires.
use Rattle.std.proofs.Common.{List, OnErr, OnOk, ap, subst, ◌∙◌}
use Rattle.std.specs.Io.KnownBytes.{Appends}
use Rattle.registry_report.specs.Types.{Command}
use Rattle.registry_report.specs.Common.{opening_registry, report, SessionState, AppendsPrefix}
use Rattle.registry_report.specs.Report.{report_from}
use Rattle.registry_report.proofs.shows.Sectioned.{begins}
use Rattle.registry_report.proofs.Written.{nothing_yet, on_err}
use Rattle.registry_report.proofs.run.run_core.Goals as goal

pub run_on-requires : goal.run_on-requires
run_on-requires g c = rw (ap (λ (s : SessionState). s.core.settings) c.in_ok-session.ensures.opening ∙ c.settings.ensures.value, c.commands.ensures.value) c.commands.ensures.suited

pub returns-in_err-session-clause-err : goal.returns-in_err-session-clause-err
returns-in_err-session-clause-err g c = on_err (AppendsPrefix (g.W.Write.contents c.args.writer.now) (g.W.Write.contents c.args.writer.now) (report c.args.script.now)) _
    (nothing_yet (g.W.Write.contents c.args.writer.now) (report c.args.script.now))

pub returns-clause-ok : goal.returns-clause-ok
returns-clause-ok g c =
    let first = g.W.Write.contents c.args.writer.now in
    let last = g.W.Write.contents c.run_on.new.writer in
    subst (λ (ks : List Command). OnOk c.run_on.result (Appends first last (report_from (opening_registry c.args.script.now.settings) ks))) c.commands.ensures.value
    (c.run_on.ensures.ok (opening_registry c.args.script.now.settings) (begins _ _ _ c.in_ok-session.ensures.opening c.settings.ensures.value))

pub returns-clause-err : goal.returns-clause-err
returns-clause-err g c =
    let first = g.W.Write.contents c.args.writer.now in
    let last = g.W.Write.contents c.run_on.new.writer in
    subst (λ (ks : List Command). OnErr c.run_on.result (AppendsPrefix first last (report_from (opening_registry c.args.script.now.settings) ks))) c.commands.ensures.value
    (c.run_on.ensures.err (opening_registry c.args.script.now.settings) (begins _ _ _ c.in_ok-session.ensures.opening c.settings.ensures.value))
