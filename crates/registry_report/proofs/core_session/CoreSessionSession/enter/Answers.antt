-- `CoreSessionSession::enter`: its clauses `shows` and `hitch`.
use Rattle.registry_report.proofs.calls.Done.{enter_does}
use Rattle.registry_report.specs.Types.{Enter}
use Rattle.registry_report.proofs.calls.Hitches.{enter_refused, hitch_is}
use Rattle.registry_report.proofs.calls.Sessions.{cpu_known}
use Rattle.registry_report.proofs.core_session.CoreSessionSession.enter.Goals as goal

pub returns-clause-shows : goal.returns-clause-shows
returns-clause-shows c = λ r on. (enter_does _ _ c.enter-answer.new.self r c.args.cpu c.enter-answer.result c.as_answer.result c.self.view_is c.self.invariant on c.as_answer.ensures
    (cpu_known _ _ _ c.self.view_is c.requires) c.enter-answer.ensures.answer c.enter-answer.ensures.after).1

pub returns-clause-hitch : goal.returns-clause-hitch
returns-clause-hitch c = hitch_is (Enter c.args.cpu) c.as_answer.result c.enter-answer.result _ c.as_answer.ensures c.enter-answer.ensures.answer (enter_refused c.self.inside.core c.args.cpu)
