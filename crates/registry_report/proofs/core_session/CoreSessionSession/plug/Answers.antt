-- `CoreSessionSession::plug`: its clauses `shows`, `answer` and `hitch`; the invariant of `self`.
use Rattle.std.proofs.Common.{Err, None, ap, sym, ◌∙◌}
use Rattle.std.specs.Prelude.{slice_index_or}
use Rattle.protocol.specs.Common.{State}
use Rattle.registry_report.specs.Common.{SessionState}
use Rattle.registry_report.proofs.calls.Sessions.{filled_tells, given_up}
use Rattle.registry_report.proofs.calls.Done.{plug_none, plug_fails, plug_does, told_err, unfilled}
use Rattle.registry_report.specs.Types.{Plug}
use Rattle.registry_report.proofs.calls.Hitches.{attach_hitch, attach_iface_refused}
use Rattle.registry_report.proofs.core_session.CoreSessionSession.plug.Goals as goal

pub invariant_of-self-2 : goal.invariant_of-self-2
invariant_of-self-2 c =
    let left = c.in_ok-entry.ensures in
    given_up _ c.attach_iface-answer.new.self c.args.label.place c.in_ok-id.id c.self.invariant (record { rest = left.rest; ready = left.ready; holds = c.at_rest.ensures.holds }) c.requires.label
    (ap (λ (s : SessionState). slice_index_or s.locals c.args.label.place None) c.self.view_is ∙ filled_tells _ c.in_ok-id.id c.in_ok-id.ensures) (ap (λ (s : State). s.locals) left.after)

pub returns-in_err-id-clause-shows : goal.returns-in_err-id-clause-shows
returns-in_err-id-clause-shows c = λ r on. plug_none c.args.self.now r c.args.cpu c.args.label.place c.args.rec c.from_residual.result on (unfilled _ _ (sym c.local.ensures ∙ c.in_err-id.was))

pub returns-in_err-entry-clause-answer : goal.returns-in_err-entry-clause-answer
returns-in_err-entry-clause-answer c = λ r on. (plug_fails _ _ c.attach_iface-answer.new.self r c.args.cpu c.args.label.place c.in_ok-id.id c.args.rec c.in_err-entry.field-0.0
    c.from_residual-in_err-entry.result c.self.view_is c.self.invariant on c.requires.label
    (ap (λ (s : SessionState). slice_index_or s.locals c.args.label.place None) c.self.view_is ∙ filled_tells _ c.in_ok-id.id c.in_ok-id.ensures) c.requires.iface c.requires.lawful
    c.in_err-entry.ensures.answer c.in_err-entry.ensures.after (told_err _ _ c.from_residual-in_err-entry.ensures)).0

pub returns-in_err-entry-clause-shows : goal.returns-in_err-entry-clause-shows
returns-in_err-entry-clause-shows c = λ r on. (plug_fails _ _ c.attach_iface-answer.new.self r c.args.cpu c.args.label.place c.in_ok-id.id c.args.rec c.in_err-entry.field-0.0
    c.from_residual-in_err-entry.result c.self.view_is c.self.invariant on c.requires.label
    (ap (λ (s : SessionState). slice_index_or s.locals c.args.label.place None) c.self.view_is ∙ filled_tells _ c.in_ok-id.id c.in_ok-id.ensures) c.requires.iface c.requires.lawful
    c.in_err-entry.ensures.answer c.in_err-entry.ensures.after (told_err _ _ c.from_residual-in_err-entry.ensures)).1

pub returns-clause-answer : goal.returns-clause-answer
returns-clause-answer c = λ r on. (plug_does _ _ c.attach_iface-answer.new.self r c.args.cpu c.args.label.place c.in_ok-id.id c.args.rec c.in_ok-entry.entry c.self.view_is c.self.invariant on
    c.requires.label (ap (λ (s : SessionState). slice_index_or s.locals c.args.label.place None) c.self.view_is ∙ filled_tells _ c.in_ok-id.id c.in_ok-id.ensures) c.requires.iface c.requires.lawful
    c.in_ok-entry.ensures.answer c.in_ok-entry.ensures.after c.at_rest.ensures.holds).0

pub returns-clause-shows : goal.returns-clause-shows
returns-clause-shows c = λ r on. (plug_does _ _ c.attach_iface-answer.new.self r c.args.cpu c.args.label.place c.in_ok-id.id c.args.rec c.in_ok-entry.entry c.self.view_is c.self.invariant on
    c.requires.label (ap (λ (s : SessionState). slice_index_or s.locals c.args.label.place None) c.self.view_is ∙ filled_tells _ c.in_ok-id.id c.in_ok-id.ensures) c.requires.iface c.requires.lawful
    c.in_ok-entry.ensures.answer c.in_ok-entry.ensures.after c.at_rest.ensures.holds).1

pub returns-in_err-entry-clause-hitch : goal.returns-in_err-entry-clause-hitch
returns-in_err-entry-clause-hitch c = attach_hitch (Plug c.args.cpu c.args.rec c.args.label) c.from_residual-in_err-entry.result (Err c.in_err-entry.field-0.0) _ tt
    (told_err _ _ c.from_residual-in_err-entry.ensures) c.in_err-entry.ensures.answer (attach_iface_refused c.self.inside.core c.args.cpu c.args.rec c.in_ok-id.id)
