-- `CoreSessionSession::reference`: its clause `shows`.
use Rattle.std.proofs.Common.{None, ap, ◌∙◌}
use Rattle.std.specs.Prelude.{slice_index_or}
use Rattle.registry_report.specs.Common.{SessionState}
use Rattle.registry_report.proofs.calls.Done.{free_label, reference_does}
use Rattle.registry_report.proofs.calls.Sessions.{cpu_known}
use Rattle.registry_report.proofs.core_session.CoreSessionSession.reference.Goals as goal

pub returns-clause-shows : goal.returns-clause-shows
returns-clause-shows c = λ r on. (reference_does _ _ c.acquire-answer.new.self r c.args.cpu c.args.label.place c.in_ok-psref.psref c.self.view_is c.self.invariant on
    (cpu_known _ _ _ c.self.view_is c.requires.known) c.requires.label (ap (λ (s : SessionState). slice_index_or s.passives c.args.label.place None) c.self.view_is ∙ free_label _ _ _ c.passive.ensures
    c.is_ok.ensures.value c.if-is_ok.false) c.in_ok-psref.ensures.answer c.in_ok-psref.ensures.after).1
