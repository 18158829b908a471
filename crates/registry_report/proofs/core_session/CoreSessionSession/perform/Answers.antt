-- `CoreSessionSession::perform`: its clauses `answer`, `shows` and `hitch`.
use Rattle.registry_report.proofs.calls.Done.{perform_does}
use Rattle.registry_report.specs.Types.{Perform}
use Rattle.registry_report.proofs.calls.Hitches.{hitch_is, perform_refused}
use Rattle.registry_report.proofs.core_session.CoreSessionSession.perform.Goals as goal

pub returns-clause-answer : goal.returns-clause-answer
returns-clause-answer c = λ r on. (perform_does _ _ c.perform-answer.new.self r c.args.cpu c.perform-answer.result c.as_answer.result c.self.view_is on c.as_answer.ensures
    c.perform-answer.ensures.answer c.perform-answer.ensures.after).0

pub returns-clause-shows : goal.returns-clause-shows
returns-clause-shows c = λ r on. (perform_does _ _ c.perform-answer.new.self r c.args.cpu c.perform-answer.result c.as_answer.result c.self.view_is on c.as_answer.ensures
    c.perform-answer.ensures.answer c.perform-answer.ensures.after).1

pub returns-clause-hitch : goal.returns-clause-hitch
returns-clause-hitch c =
    hitch_is (Perform c.args.cpu c.args.turns) c.as_answer.result c.perform-answer.result _ c.as_answer.ensures c.perform-answer.ensures.answer (perform_refused c.self.inside.core c.args.cpu)
