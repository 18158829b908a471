-- `CoreSessionSession::count`: its clauses `shows` and `answer`; what `number` requires; the invariant of `self`.
use Rattle.std.proofs.Common.{None, ap, subst, ◌∙◌}
use Rattle.protocol.specs.Common.{State}
use Rattle.registry_report.proofs.calls.Sessions.{counted_locals, cpu_known, new_live, taken_up}
use Rattle.std.specs.Prelude.{slice_index_or}
use Rattle.registry_report.specs.Common.{SessionState, IsSession}
use Rattle.registry_report.proofs.calls.Done.{count_does, count_fails, free_label, taken_label, taken_leaves, told_err}
use Rattle.registry_report.proofs.core_session.CoreSessionSession.count.Goals as goal

pub number-requires : goal.number-requires
number-requires c =
    let before = c.self.inside in
    let left = c.in_ok-id.ensures in
    let places = counted_locals before.core c.args.cpu c.self.invariant.holds left.answer.0 in
    new_live (record { core = before.core; passives = before.passives; locals = before.locals }) c.acquire_local-answer.new.self c.in_ok-id.id places.0 left.answer.1
    (ap (λ (s : State). s.locals) left.after ∙ places.1)

pub invariant_of-self-2 : goal.invariant_of-self-2
invariant_of-self-2 c =
    let left = c.in_ok-id.ensures in
    let places = counted_locals c.self.inside.core c.args.cpu c.self.invariant.holds left.answer.0 in
    taken_up _ c.acquire_local-answer.new.self c.args.label.place c.in_ok-id.id places.0 c.self.invariant (record { rest = left.rest; ready = left.ready; holds = c.at_rest.ensures.holds })
    c.requires.label left.answer.1 (ap (λ (s : State). s.locals) left.after ∙ places.1)

pub returns-then-is_ok-clause-shows : goal.returns-then-is_ok-clause-shows
returns-then-is_ok-clause-shows c = λ r on. let taken = taken_label _ _ _ c.local.ensures c.is_ok.ensures.value c.if-is_ok.true in
    taken_leaves c.args.self.now r c.args.cpu c.args.label.place taken.0 on (subst IsSession c.self.view_is c.self.invariant) taken.1

pub returns-in_err-id-clause-answer : goal.returns-in_err-id-clause-answer
returns-in_err-id-clause-answer c = λ r on. (count_fails _ _ c.acquire_local-answer.new.self r c.args.cpu c.args.label.place c.in_err-id.field-0.0 c.from_residual.result c.self.view_is
    c.self.invariant on (cpu_known _ _ _ c.self.view_is c.requires.known) (ap (λ (s : SessionState). slice_index_or s.locals c.args.label.place None) c.self.view_is ∙ free_label _ _ _ c.local.ensures
    c.is_ok.ensures.value c.if-is_ok.false) c.in_err-id.ensures.answer c.in_err-id.ensures.after (told_err _ _ c.from_residual.ensures)).0

pub returns-in_err-id-clause-shows : goal.returns-in_err-id-clause-shows
returns-in_err-id-clause-shows c = λ r on. (count_fails _ _ c.acquire_local-answer.new.self r c.args.cpu c.args.label.place c.in_err-id.field-0.0 c.from_residual.result c.self.view_is c.self.invariant
    on (cpu_known _ _ _ c.self.view_is c.requires.known) (ap (λ (s : SessionState). slice_index_or s.locals c.args.label.place None) c.self.view_is ∙ free_label _ _ _ c.local.ensures
    c.is_ok.ensures.value c.if-is_ok.false) c.in_err-id.ensures.answer c.in_err-id.ensures.after (told_err _ _ c.from_residual.ensures)).1

pub returns-clause-answer : goal.returns-clause-answer
returns-clause-answer c = λ r on. (count_does _ _ c.acquire_local-answer.new.self r c.args.cpu c.args.label.place c.in_ok-id.id c.number.result c.self.view_is c.self.invariant on
    (cpu_known _ _ _ c.self.view_is c.requires.known) c.requires.label (ap (λ (s : SessionState). slice_index_or s.locals c.args.label.place None) c.self.view_is ∙ free_label _ _ _ c.local.ensures
    c.is_ok.ensures.value c.if-is_ok.false) c.in_ok-id.ensures.answer c.in_ok-id.ensures.after c.number.ensures).0

pub returns-clause-shows : goal.returns-clause-shows
returns-clause-shows c = λ r on. (count_does _ _ c.acquire_local-answer.new.self r c.args.cpu c.args.label.place c.in_ok-id.id c.number.result c.self.view_is c.self.invariant on
    (cpu_known _ _ _ c.self.view_is c.requires.known) c.requires.label (ap (λ (s : SessionState). slice_index_or s.locals c.args.label.place None) c.self.view_is ∙ free_label _ _ _ c.local.ensures
    c.is_ok.ensures.value c.if-is_ok.false) c.in_ok-id.ensures.answer c.in_ok-id.ensures.after c.number.ensures).1
