-- `CoreSessionSession::held`: its clause `answer`.
use Rattle.std.proofs.Common.{None, ap, sym, ◌∙◌}
use Rattle.std.specs.Prelude.{slice_index_or}
use Rattle.registry_report.specs.Common.{SessionState}
use Rattle.registry_report.proofs.calls.Done.{held_gives}
use Rattle.registry_report.proofs.calls.Sessions.{filled_tells}
use Rattle.registry_report.proofs.core_session.CoreSessionSession.held.Goals as goal

pub returns-clause-answer : goal.returns-clause-answer
returns-clause-answer c = λ r on. held_gives _ _ r c.args.cpu c.args.label.place c.in_ok-psref.psref c.held.result c.self.view_is on
    (ap (λ (s : SessionState). slice_index_or s.passives c.args.label.place None) c.self.view_is ∙ filled_tells _ c.in_ok-psref.psref (sym c.in_ok-psref.was ∙ c.passive.ensures)) c.held.ensures
