-- `CoreSessionSession::peek`: its clause `answer`.
use Rattle.std.proofs.Common.{None, ap, ◌∙◌}
use Rattle.std.specs.Prelude.{slice_index_or}
use Rattle.registry_report.specs.Common.{SessionState}
use Rattle.registry_report.proofs.calls.Done.{peek_gives}
use Rattle.registry_report.proofs.calls.Sessions.{filled_tells}
use Rattle.registry_report.proofs.core_session.CoreSessionSession.peek.Goals as goal

pub returns-clause-answer : goal.returns-clause-answer
returns-clause-answer c = λ r on. peek_gives _ _ r c.args.label.place c.in_ok-id.id c.number-number.result c.record-rec.result c.self.view_is on
    (ap (λ (s : SessionState). slice_index_or s.locals c.args.label.place None) c.self.view_is ∙ filled_tells _ c.in_ok-id.id c.in_ok-id.ensures) c.number-number.ensures
    (c.record-rec.ensures.answer c.number-number.result c.number-number.ensures)
