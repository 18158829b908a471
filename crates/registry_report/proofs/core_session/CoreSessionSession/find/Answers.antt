-- `CoreSessionSession::find`: its clauses `answer` and `shows`.
use Rattle.std.proofs.Common.{sym, ◌∙◌}
use Rattle.registry_report.proofs.calls.Done.{find_does}
use Rattle.registry_report.proofs.calls.Sessions.{cpu_known}
use Rattle.registry_report.proofs.core_session.CoreSessionSession.find.Goals as goal

pub returns-clause-answer : goal.returns-clause-answer
returns-clause-answer c = λ r on. (find_does _ _ c.find-answer.new.self r c.args.cpu (record { kind = c.args.kind; name = c.args.name }) c.find-answer.result c.self.view_is c.self.invariant on
    (cpu_known _ _ _ c.self.view_is c.requires) (sym c.inside.ensures ∙ c.if-not-inside.false) c.find-answer.ensures.answer c.find-answer.ensures.after).0

pub returns-clause-shows : goal.returns-clause-shows
returns-clause-shows c = λ r on. (find_does _ _ c.find-answer.new.self r c.args.cpu (record { kind = c.args.kind; name = c.args.name }) c.find-answer.result c.self.view_is c.self.invariant on
    (cpu_known _ _ _ c.self.view_is c.requires) (sym c.inside.ensures ∙ c.if-not-inside.false) c.find-answer.ensures.answer c.find-answer.ensures.after).1
