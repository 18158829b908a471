use Rattle.std.proofs.Common.{◌≡◌, None, [], ◌∷◌, true, not, subst, sym, ap, ◌∙◌}
use Rattle.std.proofs.lemmas.Bool.{not-false}
use Rattle.std.specs.Prelude.{Result}
use Rattle.passive_core.specs.Types.{Entry, Refusal, Keep}
use Rattle.registry_values.proofs.Answers.{handed_on}
use Rattle.passive_core.specs.Common.{IsAnswer, attach_iface_answer, with_attach_undone, with_reference_given_back, with_reference_kept, all_seated, may_act, Makes, linking_events}
use Rattle.passive_core.proofs.Making.{begun_makes, linking_makes, makes_more}
use Rattle.protocol.specs.Common.{State, kept_at, Holds}
use Rattle.passive_core.proofs.Attaching.{MayPlug, answer_refused, call_acts, iface_links, plug_restored, plug_words_restored}
use Rattle.passive_core.proofs.machine.Core.attach_iface.Goals.{After-restore, In-Err, In_ok-entry}
use Rattle.passive_core.proofs.machine.Core.attach_iface.Goals as goal

pub returns-in_err-entry-clause-answer : goal.returns-in_err-entry-clause-answer
returns-in_err-entry-clause-answer c = subst (λ (r : Result Entry Refusal). IsAnswer (attach_iface_answer c.args.self.now c.args.c c.args.rec c.args.id) r)
    (sym (handed_on c.from_residual.result c.in_err-entry.field-0.0 c.from_residual.ensures.0 c.from_residual.ensures.1))
    (answer_refused _ _ _ _ _ _ _ c.inside.ensures (ap not c.is_to_driver.ensures) c.given_entry-given.ensures.value c.in_err-entry.ensures.value)

-- the slot may take the reference over, and then the entry may be linked
plugging : (c : In_ok-entry) → MayPlug c.args.self.now c.in_ok-entry.entry c.args.id
plugging c = iface_links c.args.self.now c.args.rec c.in_ok-entry.entry c.args.id (subst Holds c.self.view_is c.self.invariant) c.requires.rest
    (sym c.given_entry-given.ensures.value ∙ c.in_ok-entry.ensures.fit.2) (sym c.is_to_driver.ensures ∙ not-false c.is_to_driver.result c.in_ok-entry.ensures.fit.1) c.requires.iface c.requires.lawful

-- where memory was refused the words come back, and then the reference
words_back : (c : In-Err) → with_attach_undone c.link.new.self c.in_ok-entry.entry.slot c.words_before-before.result ≡ with_reference_kept c.args.self.now c.in_ok-entry.entry.slot c.args.id
words_back c =
    plug_words_restored c.args.self.now c.make_room.new.self c.begin_change.new.self c.keep.new.self c.prepare.new.self c.link.new.self c.in_ok-entry.entry c.args.id c.words_before-before.result
    (assumption (c.in_ok-make_room.ensures.same, c.words_before-before.ensures, c.in-Err.ensures.err))

all_back : (c : After-restore) → kept_at c.args.self.now.keeps c.in_ok-entry.entry.slot ≡ None → c.restore.new.self ≡ with_reference_kept c.args.self.now c.in_ok-entry.entry.slot c.args.id
    → with_reference_given_back c.restore.new.self c.in_ok-entry.entry.slot c.args.id c.local_at-place.result ≡ c.args.self.now
all_back c empty words =
    plug_restored c.args.self.now c.make_room.new.self c.restore.new.self c.in_ok-entry.entry.slot c.args.id c.local_at-place.result empty c.in_ok-make_room.ensures.same c.local_at-place.ensures words

pub keep-requires-clause-write : goal.keep-requires-clause-write
keep-requires-clause-write c = rw (c.begin_change.ensures.after, c.in_ok-make_room.ensures.same) (plugging (goal.at.keep-requires-clause-write c).In_ok-entry).writes

pub keep-requires-clause-nothing : goal.keep-requires-clause-nothing
keep-requires-clause-nothing c = rw (c.begin_change.ensures.after, c.in_ok-make_room.ensures.same) (plugging (goal.at.keep-requires-clause-nothing c).In_ok-entry).empty

pub prepare-requires : goal.prepare-requires
prepare-requires c = rw (c.keep.ensures.after, c.begin_change.ensures.after, c.in_ok-make_room.ensures.same) (plugging (goal.at.prepare-requires c).In_ok-entry).links.writes

pub link-requires : goal.link-requires
link-requires c = rw (c.prepare.ensures.after, c.keep.ensures.after, c.begin_change.ensures.after, c.in_ok-make_room.ensures.same) (plugging (goal.at.link-requires c).In_ok-entry).links.links

pub restore-requires-clause-holds : goal.restore-requires-clause-holds
restore-requires-clause-holds c =
    let x = goal.at.restore-requires-clause-holds c in
    subst Holds (sym (words_back x.In-Err)) (plugging x.In_ok-entry).holds

pub give_back-requires-clause-holds : goal.give_back-requires-clause-holds
give_back-requires-clause-holds c =
    let x = goal.at.give_back-requires-clause-holds c in
    subst Holds (sym (all_back x.After-restore (plugging x.In_ok-entry).empty (c.restore.ensures ∙ words_back x.In-Err))) (subst Holds c.self.view_is c.self.invariant)

pub returns-in-Err-clause-after : goal.returns-in-Err-clause-after
returns-in-Err-clause-after c =
    let x = goal.at.returns-in-Err-clause-after c in
    c.give_back.ensures ∙ all_back x.After-restore (plugging x.In_ok-entry).empty (c.restore.ensures ∙ words_back x.In-Err)

pub returns-in-Ok-clause-ready : goal.returns-in-Ok-clause-ready
returns-in-Ok-clause-ready c d may =
    let before : may_act c.make_room.new.self d ≡ true = rw c.in_ok-make_room.ensures.same may in
    let kept : may_act c.keep.new.self d ≡ true = rw c.keep.ensures.after (c.begin_change.ensures.ready d before) in
    call_acts c.keep.new.self c.prepare.new.self c.link.new.self c.end_change.new.self c.in_ok-entry.entry c.args.c d c.prepare.ensures.after c.in-Ok.ensures.ok c.end_change.ensures.after kept

pub returns-in-Ok-clause-made : goal.returns-in-Ok-clause-made
returns-in-Ok-clause-made c =
    let s = c.args.self.now in
    let e = c.in_ok-entry.entry in
    let u = c.begin_change.new.self in
    let k = c.keep.new.self in
    let n = c.end_change.new.self in
    let seated : u ≡ all_seated s = c.begin_change.ensures.after ∙ ap all_seated c.in_ok-make_room.ensures.same in
    let kept : k ≡ with_reference_kept (all_seated s) e.slot c.args.id = c.keep.ensures.after ∙ ap (λ (x : State). with_reference_kept x e.slot c.args.id) seated in
    let links = linking_makes k c.prepare.new.self c.link.new.self n e c.args.c c.prepare.ensures.made
    (rw (c.prepare.ensures.after, kept) (plugging (goal.at.returns-in-Ok-clause-made c).In_ok-entry).links.links) c.in-Ok.ensures.ok c.end_change.ensures.made in
    begun_makes s c.make_room.new.self u n c.args.c (Keep e.slot c.args.id ∷ linking_events s c.args.c e) c.in_ok-make_room.ensures.same c.begin_change.ensures.made
    (makes_more u k n (Keep e.slot c.args.id ∷ []) (linking_events s c.args.c e) c.keep.ensures.made (subst (λ (x : State). Makes k (linking_events x c.args.c e) n) kept links))

pub returns-in-Err-clause-made : goal.returns-in-Err-clause-made
returns-in-Err-clause-made c = returns-in-Err-clause-after c
