-- `CoreSessionSession::read`: its clauses `answer` and `shows`.
use Rattle.std.proofs.Common.{None, ap, sym, ◌∙◌, Err, Ok}
use Rattle.std.specs.Prelude.{slice_index_or}
use Rattle.registry_report.specs.Common.{SessionState, read_answer}
use Rattle.registry_report.proofs.calls.Done.{read_gives, read_leaves, told_err}
use Rattle.registry_report.proofs.calls.Sessions.{filled_tells}
use Rattle.registry_report.proofs.calls.Walked.{gives}
use Rattle.registry_report.proofs.core_session.CoreSessionSession.read.Goals as goal

pub returns-in_err-answer-clause-answer : goal.returns-in_err-answer-clause-answer
returns-in_err-answer-clause-answer c = λ r on. gives c.from_residual-in_err-answer.result (read_answer r c.args.cpu c.args.label.place)
    (read_gives _ _ r c.args.cpu c.args.label.place c.in_ok-psref.psref (Err c.in_err-answer.field-0.0) c.self.view_is on
    (ap (λ (s : SessionState). slice_index_or s.passives c.args.label.place None) c.self.view_is ∙ filled_tells _ c.in_ok-psref.psref (sym c.in_ok-psref.was ∙ c.passive.ensures))
    c.in_err-answer.ensures.answer ∙ sym (told_err _ _ c.from_residual-in_err-answer.ensures))

pub returns-clause-answer : goal.returns-clause-answer
returns-clause-answer c = λ r on. read_gives _ _ r c.args.cpu c.args.label.place c.in_ok-psref.psref (Ok c.in_ok-answer.field-0) c.self.view_is on
    (ap (λ (s : SessionState). slice_index_or s.passives c.args.label.place None) c.self.view_is ∙ filled_tells _ c.in_ok-psref.psref (sym c.in_ok-psref.was ∙ c.passive.ensures))
    c.in_ok-answer.ensures.answer

pub returns-clause-shows : goal.returns-clause-shows
returns-clause-shows c = λ r on. read_leaves _ _ c.read-answer.new.self r (Ok c.in_ok-answer.field-0) c.self.view_is on c.in_ok-answer.ensures.after
