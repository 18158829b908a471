-- `CoreSessionSession::attach`: its clauses `answer`, `shows` and `hitch`.
use Rattle.registry_report.proofs.calls.Done.{attach_does}
use Rattle.registry_language.specs.declared.command.Command.TheVariants.{Attach}
use Rattle.registry_report.proofs.calls.Hitches.{attach_hitch, attach_refused}
use Rattle.registry_report.proofs.core_session.CoreSessionSession.attach.Goals as goal

pub returns-clause-answer : goal.returns-clause-answer
returns-clause-answer c = λ r on. (attach_does _ _ c.attach-answer.new.self r c.args.cpu c.args.rec c.attach-answer.result c.as_answer.result c.self.view_is c.self.invariant on c.as_answer.ensures
    c.attach-answer.ensures.answer c.attach-answer.ensures.after c.at_rest.ensures.holds).0

pub returns-clause-shows : goal.returns-clause-shows
returns-clause-shows c = λ r on. (attach_does _ _ c.attach-answer.new.self r c.args.cpu c.args.rec c.attach-answer.result c.as_answer.result c.self.view_is c.self.invariant on c.as_answer.ensures
    c.attach-answer.ensures.answer c.attach-answer.ensures.after c.at_rest.ensures.holds).1

pub returns-clause-hitch : goal.returns-clause-hitch
returns-clause-hitch c = attach_hitch (Attach c.args.cpu c.args.rec) c.as_answer.result c.attach-answer.result _ tt c.as_answer.ensures c.attach-answer.ensures.answer
    (attach_refused c.self.inside.core c.args.cpu c.args.rec)
