-- `CoreSessionSession::uncount`: its clause `shows`; the invariant of `self`.
use Rattle.std.proofs.Common.{None, ap, sym, ◌∙◌}
use Rattle.std.specs.Prelude.{slice_index_or}
use Rattle.protocol.specs.Common.{State}
use Rattle.registry_report.specs.Common.{SessionState}
use Rattle.registry_report.proofs.calls.Sessions.{cpu_known, filled_tells, given_up, released_locals}
use Rattle.registry_report.proofs.calls.Done.{uncount_leaves, uncount_none, unfilled}
use Rattle.registry_report.proofs.core_session.CoreSessionSession.uncount.Goals as goal

pub invariant_of-self : goal.invariant_of-self
invariant_of-self c =
    let left = c.release_local.ensures in
    given_up _ c.release_local.new.self c.args.label.place c.in_ok-id.id c.self.invariant (record { rest = left.rest; ready = left.ready; holds = c.at_rest.ensures.holds }) c.requires.label
    (ap (λ (s : SessionState). slice_index_or s.locals c.args.label.place None) c.self.view_is ∙ filled_tells _ c.in_ok-id.id c.in_ok-id.ensures)
    (ap (λ (s : State). s.locals) left.after ∙ released_locals c.self.inside.core c.args.cpu c.in_ok-id.id c.number-number.result _ c.self.invariant.holds c.number-number.ensures)

pub returns-in_err-id-clause-shows : goal.returns-in_err-id-clause-shows
returns-in_err-id-clause-shows c = λ r on. uncount_none c.args.self.now r c.args.cpu c.args.label.place c.from_residual.result on (unfilled _ _ (sym c.local.ensures ∙ c.in_err-id.was))

pub returns-clause-shows : goal.returns-clause-shows
returns-clause-shows c = λ r on. uncount_leaves _ _ c.release_local.new.self r c.args.cpu c.args.label.place c.in_ok-id.id c.number-number.result c.self.view_is c.self.invariant on
    (cpu_known _ _ _ c.self.view_is c.requires.known) c.requires.label (ap (λ (s : SessionState). slice_index_or s.locals c.args.label.place None) c.self.view_is ∙ filled_tells _ c.in_ok-id.id
    c.in_ok-id.ensures) c.number-number.ensures c.release_local.ensures.after
