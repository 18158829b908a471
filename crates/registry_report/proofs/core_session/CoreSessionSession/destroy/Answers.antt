-- `CoreSessionSession::destroy`: its clauses `answer`, `shows` and `hitch`.
use Rattle.registry_report.proofs.calls.Done.{destroy_does}
use Rattle.registry_report.specs.Types.{Destroy}
use Rattle.registry_report.proofs.calls.Hitches.{destroy_refused, hitch_is}
use Rattle.registry_report.proofs.core_session.CoreSessionSession.destroy.Goals as goal

pub returns-clause-answer : goal.returns-clause-answer
returns-clause-answer c = λ r on. (destroy_does _ _ c.destroy-answer.new.self r c.args.cpu c.args.number c.destroy-answer.result c.as_answer.result c.self.view_is c.self.invariant on
    c.as_answer.ensures c.destroy-answer.ensures.answer c.destroy-answer.ensures.after c.at_rest.ensures.holds).0

pub returns-clause-shows : goal.returns-clause-shows
returns-clause-shows c = λ r on. (destroy_does _ _ c.destroy-answer.new.self r c.args.cpu c.args.number c.destroy-answer.result c.as_answer.result c.self.view_is c.self.invariant on
    c.as_answer.ensures c.destroy-answer.ensures.answer c.destroy-answer.ensures.after c.at_rest.ensures.holds).1

pub returns-clause-hitch : goal.returns-clause-hitch
returns-clause-hitch c = hitch_is (Destroy c.args.cpu c.args.number c.args.turns) c.as_answer.result c.destroy-answer.result _ c.as_answer.ensures c.destroy-answer.ensures.answer
    (destroy_refused c.self.inside.core c.args.cpu c.args.number)
