-- `CoreSessionSession::copy`: its clauses `answer` and `shows`; the invariant of `self`.
use Rattle.std.proofs.Common.{None, ap, sym, ◌∙◌, Ok, Some, length-set, slice_set}
use Rattle.std.specs.Prelude.{slice_index_or}
use Rattle.registry_report.specs.Common.{SessionState}
use Rattle.registry_report.proofs.calls.Done.{copy_does, copy_fails, copy_taken, free_label, taken_label, told_err}
use Rattle.registry_report.proofs.calls.Sessions.{cpu_known, filled_tells}
use Rattle.protocol.specs.Common.{State}
use Rattle.registry_report.proofs.shows.Referred.{acquire_places, same_session}
use Rattle.registry_report.proofs.core_session.CoreSessionSession.copy.Goals as goal

pub invariant_of-self-2 : goal.invariant_of-self-2
invariant_of-self-2 c =
    let left = c.in_ok-second.ensures in
    same_session _ c.copy-answer.new.self (slice_set c.self.inside.passives c.args.target.place (Some c.in_ok-second.second)) c.self.invariant c.at_rest.ensures.holds
    (record { rest = left.rest; ready = λ d. left.ready d (c.self.invariant.quiet.ready d) })
    (ap (λ (s : State). s.locals) left.after ∙ acquire_places c.self.inside.core c.args.cpu (Ok c.in_ok-second.second))
    (length-set c.self.inside.passives c.args.target.place (Some c.in_ok-second.second))

pub returns-in_err-second-clause-answer : goal.returns-in_err-second-clause-answer
returns-in_err-second-clause-answer c = λ r on. (copy_fails _ _ c.copy-answer.new.self r c.args.cpu c.args.source.place c.args.target.place c.in_ok-psref.psref c.in_err-second.field-0.0
    c.from_residual-in_err-second.result c.self.view_is on (ap (λ (s : SessionState). slice_index_or s.passives c.args.source.place None) c.self.view_is ∙ filled_tells _ c.in_ok-psref.psref
    (sym c.in_ok-psref.was ∙ c.passive.ensures)) (ap (λ (s : SessionState). slice_index_or s.passives c.args.target.place None) c.self.view_is ∙ free_label _ _ _ c.passive-2.ensures
    c.is_ok.ensures.value c.if-is_ok.false) c.in_err-second.ensures.answer c.in_err-second.ensures.after (told_err _ _ c.from_residual-in_err-second.ensures)).0

pub returns-in_err-second-clause-shows : goal.returns-in_err-second-clause-shows
returns-in_err-second-clause-shows c = λ r on. (copy_fails _ _ c.copy-answer.new.self r c.args.cpu c.args.source.place c.args.target.place c.in_ok-psref.psref c.in_err-second.field-0.0
    c.from_residual-in_err-second.result c.self.view_is on (ap (λ (s : SessionState). slice_index_or s.passives c.args.source.place None) c.self.view_is ∙ filled_tells _ c.in_ok-psref.psref
    (sym c.in_ok-psref.was ∙ c.passive.ensures)) (ap (λ (s : SessionState). slice_index_or s.passives c.args.target.place None) c.self.view_is ∙ free_label _ _ _ c.passive-2.ensures
    c.is_ok.ensures.value c.if-is_ok.false) c.in_err-second.ensures.answer c.in_err-second.ensures.after (told_err _ _ c.from_residual-in_err-second.ensures)).1

pub returns-clause-answer : goal.returns-clause-answer
returns-clause-answer c = λ r on. (copy_does _ _ c.copy-answer.new.self r c.args.cpu c.args.source.place c.args.target.place c.in_ok-psref.psref c.in_ok-second.second c.self.view_is c.self.invariant
    on (cpu_known _ _ _ c.self.view_is c.requires.known) c.requires.target (ap (λ (s : SessionState). slice_index_or s.passives c.args.source.place None) c.self.view_is ∙ filled_tells _
    c.in_ok-psref.psref (sym c.in_ok-psref.was ∙ c.passive.ensures)) (ap (λ (s : SessionState). slice_index_or s.passives c.args.target.place None) c.self.view_is ∙ free_label _ _ _
    c.passive-2.ensures c.is_ok.ensures.value c.if-is_ok.false) c.in_ok-second.ensures.answer c.in_ok-second.ensures.after).0

pub returns-clause-shows : goal.returns-clause-shows
returns-clause-shows c = λ r on. (copy_does _ _ c.copy-answer.new.self r c.args.cpu c.args.source.place c.args.target.place c.in_ok-psref.psref c.in_ok-second.second c.self.view_is c.self.invariant on
    (cpu_known _ _ _ c.self.view_is c.requires.known) c.requires.target (ap (λ (s : SessionState). slice_index_or s.passives c.args.source.place None) c.self.view_is ∙ filled_tells _
    c.in_ok-psref.psref (sym c.in_ok-psref.was ∙ c.passive.ensures)) (ap (λ (s : SessionState). slice_index_or s.passives c.args.target.place None) c.self.view_is ∙ free_label _ _ _
    c.passive-2.ensures c.is_ok.ensures.value c.if-is_ok.false) c.in_ok-second.ensures.answer c.in_ok-second.ensures.after).1

pub returns-then-is_ok-clause-shows : goal.returns-then-is_ok-clause-shows
returns-then-is_ok-clause-shows c = λ r on. let taken = taken_label _ _ _ c.passive-2.ensures c.is_ok.ensures.value c.if-is_ok.true in
    copy_taken c.args.self.now r c.args.cpu c.args.source.place c.args.target.place c.in_ok-psref.psref taken.0 on (filled_tells _ c.in_ok-psref.psref (sym c.in_ok-psref.was ∙ c.passive.ensures)) taken.1
