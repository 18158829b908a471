-- `CoreSessionSession::exit`: its clause `shows`; the invariant of `self`.
use Rattle.std.proofs.Common.{ap, ◌∙◌, sym}
use Rattle.protocol.specs.Common.{State}
use Rattle.registry_report.proofs.calls.Sessions.{cpu_known, exited_locals, same_places}
use Rattle.registry_report.proofs.calls.Done.{exit_does}
use Rattle.registry_report.proofs.core_session.CoreSessionSession.exit.Goals as goal

pub invariant_of-self : goal.invariant_of-self
invariant_of-self c =
    let left = c.exit.ensures in
    same_places _ c.exit.new.self c.self.invariant (record { rest = left.rest; ready = left.ready; holds = c.at_rest.ensures.holds })
    (ap (λ (s : State). s.locals) left.after ∙ exited_locals c.self.inside.core c.args.cpu _ _)

pub returns-clause-shows : goal.returns-clause-shows
returns-clause-shows c = λ r on. (exit_does _ _ c.exit.new.self r c.args.cpu c.inside-2.result c.self.view_is c.self.invariant on (cpu_known _ _ _ c.self.view_is c.requires)
    (sym c.inside.ensures ∙ c.if-not-inside.false) c.exit.ensures.after c.inside-2.ensures).1
