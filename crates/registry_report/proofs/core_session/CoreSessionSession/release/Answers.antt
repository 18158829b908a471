-- `CoreSessionSession::release`: its clauses `answer` and `shows`.
use Rattle.std.proofs.Common.{None, ap, sym, ◌∙◌}
use Rattle.std.specs.Prelude.{slice_index_or}
use Rattle.registry_report.specs.Common.{SessionState}
use Rattle.registry_report.proofs.calls.Done.{release_does, release_fails, told_err}
use Rattle.registry_report.proofs.calls.Sessions.{cpu_known, filled_tells}
use Rattle.registry_report.proofs.core_session.CoreSessionSession.release.Goals as goal

pub returns-in_err-answer-clause-answer : goal.returns-in_err-answer-clause-answer
returns-in_err-answer-clause-answer c = λ r on. (release_fails _ _ c.release-answer.new.self r c.args.cpu c.args.label.place c.in_ok-psref.psref c.in_err-answer.field-0.0
    c.from_residual-in_err-answer.result c.self.view_is on (ap (λ (s : SessionState). slice_index_or s.passives c.args.label.place None) c.self.view_is ∙ filled_tells _ c.in_ok-psref.psref
    (sym c.in_ok-psref.was ∙ c.passive.ensures)) c.in_err-answer.ensures.answer c.in_err-answer.ensures.after (told_err _ _ c.from_residual-in_err-answer.ensures)).0

pub returns-in_err-answer-clause-shows : goal.returns-in_err-answer-clause-shows
returns-in_err-answer-clause-shows c = λ r on. (release_fails _ _ c.release-answer.new.self r c.args.cpu c.args.label.place c.in_ok-psref.psref c.in_err-answer.field-0.0
    c.from_residual-in_err-answer.result c.self.view_is on (ap (λ (s : SessionState). slice_index_or s.passives c.args.label.place None) c.self.view_is ∙ filled_tells _ c.in_ok-psref.psref
    (sym c.in_ok-psref.was ∙ c.passive.ensures)) c.in_err-answer.ensures.answer c.in_err-answer.ensures.after (told_err _ _ c.from_residual-in_err-answer.ensures)).1

pub returns-clause-answer : goal.returns-clause-answer
returns-clause-answer c = λ r on. (release_does _ _ c.release-answer.new.self r c.args.cpu c.args.label.place c.in_ok-psref.psref c.self.view_is c.self.invariant on
    (cpu_known _ _ _ c.self.view_is c.requires.known) c.requires.label (ap (λ (s : SessionState). slice_index_or s.passives c.args.label.place None) c.self.view_is ∙ filled_tells _ c.in_ok-psref.psref
    (sym c.in_ok-psref.was ∙ c.passive.ensures)) c.in_ok-answer.ensures.answer.0 c.in_ok-answer.ensures.after).0

pub returns-clause-shows : goal.returns-clause-shows
returns-clause-shows c = λ r on. (release_does _ _ c.release-answer.new.self r c.args.cpu c.args.label.place c.in_ok-psref.psref c.self.view_is c.self.invariant on
    (cpu_known _ _ _ c.self.view_is c.requires.known) c.requires.label (ap (λ (s : SessionState). slice_index_or s.passives c.args.label.place None) c.self.view_is ∙ filled_tells _ c.in_ok-psref.psref
    (sym c.in_ok-psref.was ∙ c.passive.ensures)) c.in_ok-answer.ensures.answer.0 c.in_ok-answer.ensures.after).1
