use Rattle.std.proofs.Common.{◌≡◌, true, subst, sym, ap, ◌∙◌}
use Rattle.std.specs.Prelude.{Result}
use Rattle.passive_core.specs.Types.{Entry, Refusal}
use Rattle.registry_values.proofs.Answers.{handed_on}
use Rattle.passive_core.specs.Common.{IsAnswer, attach_answer, all_seated, may_act, Makes, linking_events}
use Rattle.passive_core.proofs.Making.{begun_makes, linking_makes}
use Rattle.protocol.specs.Common.{State, Holds}
use Rattle.passive_core.proofs.Attaching.{MayLink, answer_refused, call_acts, call_restored, driver_links}
use Rattle.passive_core.proofs.machine.Core.attach.Goals.{In_ok-entry}
use Rattle.passive_core.proofs.machine.Core.attach.Goals as goal

pub returns-in_err-entry-clause-answer : goal.returns-in_err-entry-clause-answer
returns-in_err-entry-clause-answer c = subst (λ (r : Result Entry Refusal). IsAnswer (attach_answer c.args.self.now c.args.c c.args.rec) r)
    (sym (handed_on c.from_residual.result c.in_err-entry.field-0.0 c.from_residual.ensures.0 c.from_residual.ensures.1))
    (answer_refused _ _ _ _ _ _ _ c.inside.ensures c.is_iface.ensures c.given_entry-given.ensures.value c.in_err-entry.ensures.value)

-- the entry's words may be stored, and then it may be linked
linking : (c : In_ok-entry) → MayLink (all_seated c.args.self.now) c.in_ok-entry.entry
linking c = driver_links c.args.self.now c.args.rec c.in_ok-entry.entry (subst Holds c.self.view_is c.self.invariant) c.requires.rest
    (sym c.given_entry-given.ensures.value ∙ c.in_ok-entry.ensures.fit.2) (sym c.is_iface.ensures ∙ c.in_ok-entry.ensures.fit.1) c.requires.lawful

pub prepare-requires : goal.prepare-requires
prepare-requires c = rw (c.begin_change.ensures.after, c.in_ok-make_room.ensures.same) (linking (goal.at.prepare-requires c).In_ok-entry).writes

pub link-requires : goal.link-requires
link-requires c = rw (c.prepare.ensures.after, c.begin_change.ensures.after, c.in_ok-make_room.ensures.same) (linking (goal.at.link-requires c).In_ok-entry).links

pub restore-requires-clause-holds : goal.restore-requires-clause-holds
restore-requires-clause-holds c =
    let s = c.args.self.now in
    let on = subst Holds c.self.view_is c.self.invariant in
    rw (call_restored s c.make_room.new.self c.begin_change.new.self c.prepare.new.self c.link.new.self c.in_ok-entry.entry c.words_before-before.result c.in_ok-make_room.ensures.same
    c.words_before-before.ensures c.begin_change.ensures.after c.prepare.ensures.after c.in-Err.ensures.err) on

pub returns-in-Err-clause-after : goal.returns-in-Err-clause-after
returns-in-Err-clause-after c =
    c.restore.ensures ∙ call_restored c.args.self.now c.make_room.new.self c.begin_change.new.self c.prepare.new.self c.link.new.self c.in_ok-entry.entry c.words_before-before.result
    c.in_ok-make_room.ensures.same c.words_before-before.ensures c.begin_change.ensures.after c.prepare.ensures.after c.in-Err.ensures.err

pub returns-in-Ok-clause-ready : goal.returns-in-Ok-clause-ready
returns-in-Ok-clause-ready c d may =
    let before : may_act c.make_room.new.self d ≡ true = rw c.in_ok-make_room.ensures.same may in
    call_acts c.begin_change.new.self c.prepare.new.self c.link.new.self c.end_change.new.self c.in_ok-entry.entry c.args.c d c.prepare.ensures.after c.in-Ok.ensures.ok c.end_change.ensures.after
    (c.begin_change.ensures.ready d before)

pub returns-in-Ok-clause-made : goal.returns-in-Ok-clause-made
returns-in-Ok-clause-made c =
    let s = c.args.self.now in
    let e = c.in_ok-entry.entry in
    let u = c.begin_change.new.self in
    let n = c.end_change.new.self in
    let seated : u ≡ all_seated s = c.begin_change.ensures.after ∙ ap all_seated c.in_ok-make_room.ensures.same in
    let links = linking_makes u c.prepare.new.self c.link.new.self n e c.args.c c.prepare.ensures.made
    (rw (c.prepare.ensures.after, seated) (linking (goal.at.returns-in-Ok-clause-made c).In_ok-entry).links) c.in-Ok.ensures.ok c.end_change.ensures.made in
    begun_makes s c.make_room.new.self u n c.args.c (linking_events s c.args.c e) c.in_ok-make_room.ensures.same c.begin_change.ensures.made
    (subst (λ (x : State). Makes u (linking_events x c.args.c e) n) seated links)

pub returns-in-Err-clause-made : goal.returns-in-Err-clause-made
returns-in-Err-clause-made c = returns-in-Err-clause-after c
