-- `CoreSessionSession::advance`: its clauses `answer` and `shows`.
use Rattle.registry_report.proofs.calls.Done.{advance_does}
use Rattle.registry_report.proofs.core_session.CoreSessionSession.advance.Goals as goal

pub returns-clause-answer : goal.returns-clause-answer
returns-clause-answer c = λ r on. (advance_does _ _ c.advance-answer.new.self r c.args.number c.advance-answer.result c.as_answer.result c.self.view_is c.self.invariant on c.as_answer.ensures
    c.advance-answer.ensures.answer c.advance-answer.ensures.after c.at_rest.ensures.holds).0

pub returns-clause-shows : goal.returns-clause-shows
returns-clause-shows c = λ r on. (advance_does _ _ c.advance-answer.new.self r c.args.number c.advance-answer.result c.as_answer.result c.self.view_is c.self.invariant on c.as_answer.ensures
    c.advance-answer.ensures.answer c.advance-answer.ensures.after c.at_rest.ensures.holds).1
