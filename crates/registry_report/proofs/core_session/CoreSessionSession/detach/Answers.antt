-- `CoreSessionSession::detach`: its clauses `answer` and `shows`; the invariant of `self`.
use Rattle.std.proofs.Common.{ap, ◌∙◌}
use Rattle.protocol.specs.Common.{State}
use Rattle.registry_report.proofs.calls.Done.{detach_does, detach_places}
use Rattle.registry_report.proofs.calls.Sessions.{same_places}
use Rattle.registry_report.proofs.core_session.CoreSessionSession.detach.Goals as goal

pub invariant_of-self : goal.invariant_of-self
invariant_of-self c =
    let left = c.detach-answer.ensures in
    same_places _ c.detach-answer.new.self c.self.invariant (record { rest = left.rest; ready = left.ready; holds = c.at_rest.ensures.holds })
    (ap (λ (s : State). s.locals) left.after ∙ detach_places c.self.inside.core c.args.cpu c.detach-answer.result)

pub returns-clause-answer : goal.returns-clause-answer
returns-clause-answer c = λ r on. (detach_does _ _ c.detach-answer.new.self r c.args.cpu (record { kind = c.args.kind; name = c.args.name }) c.detach-answer.result c.as_answer.result c.self.view_is
    c.self.invariant on c.as_answer.ensures c.detach-answer.ensures.answer c.detach-answer.ensures.live c.detach-answer.ensures.after c.at_rest.ensures.holds).0

pub returns-clause-shows : goal.returns-clause-shows
returns-clause-shows c = λ r on. (detach_does _ _ c.detach-answer.new.self r c.args.cpu (record { kind = c.args.kind; name = c.args.name }) c.detach-answer.result c.as_answer.result c.self.view_is
    c.self.invariant on c.as_answer.ensures c.detach-answer.ensures.answer c.detach-answer.ensures.live c.detach-answer.ensures.after c.at_rest.ensures.holds).1
