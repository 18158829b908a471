use Rattle.std.proofs.Common.{◌≡◌, inr, refl, Some, sym, ap, subst, ◌∙◌}
use Rattle.passive_core.specs.Types.{Mark, Look}
use Rattle.passive_core.specs.Common.{MarksPass, SameBut, IsLookFor}
use Rattle.protocol.specs.Common.{after_look, Holds, State, section_at, mark_at}
use Rattle.registry_values.specs.Common.{mark_after_look}
use Rattle.passive_core.proofs.Advancing.{look_is, look_marks, mark_beside, look_passes, passed_left}
use Rattle.protocol.proofs.Cells.{mark_there}
use Rattle.passive_core.proofs.Making.{only_none, only_one}
use Rattle.passive_core.proofs.machine.Core.passes.Goals as goal

pub returns-then-mark_at-clause-answer : goal.returns-then-mark_at-clause-answer
returns-then-mark_at-clause-answer c =
    let s = c.args.self.now in
    let on : Holds s = subst Holds c.self.view_is c.self.invariant in
    passed_left s c.args.t c.args.c on c.requires.rest c.requires.retired c.requires.cpu (ap (λ (m : Mark). m.passed) (sym c.mark_at.ensures) ∙ c.if-mark_at.true)

pub returns-clause-answer : goal.returns-clause-answer
returns-clause-answer c =
    let s = c.args.self.now in
    let on : Holds s = subst Holds c.self.view_is c.self.invariant in
    let new : c.make.new.self ≡ after_look s c.args.t c.args.c = look_is s c.make.new.self c.args.t c.args.c c.make.result c.requires.rest c.requires.retired c.requires.cpu c.make.ensures in
    let m : Mark = mark_after_look (mark_at s.marks c.args.t c.args.c) (section_at s c.args.c) in
    let there : mark_at c.make.new.self.marks c.args.t c.args.c ≡ m = ap (λ (x : State). mark_at x.marks c.args.t c.args.c) new ∙ mark_there s c.args.t c.args.c m on c.requires.slot c.requires.cpu in
    ap (λ (x : Mark). x.passed) (c.mark_at-2.ensures ∙ there) ∙ look_passes s c.args.t c.args.c on c.requires.rest c.requires.retired c.requires.cpu

pub returns-clause-marks : goal.returns-clause-marks
returns-clause-marks c =
    let s = c.args.self.now in
    let new : c.make.new.self ≡ after_look s c.args.t c.args.c = look_is s c.make.new.self c.args.t c.args.c c.make.result c.requires.rest c.requires.retired c.requires.cpu c.make.ensures in
    subst (λ (x : State). MarksPass s.marks x.marks c.args.t) (sym new) (look_marks s c.args.t c.args.c)

pub returns-clause-others : goal.returns-clause-others
returns-clause-others c =
    let s = c.args.self.now in
    let new : c.make.new.self ≡ after_look s c.args.t c.args.c = look_is s c.make.new.self c.args.t c.args.c c.make.result c.requires.rest c.requires.retired c.requires.cpu c.make.ensures in
    subst (λ (x : State). SameBut s.marks x.marks c.args.t c.args.c) (sym new) (mark_beside s.marks c.args.t c.args.c (mark_after_look (mark_at s.marks c.args.t c.args.c) (section_at s c.args.c)))

pub returns-then-mark_at-clause-made : goal.returns-then-mark_at-clause-made
returns-then-mark_at-clause-made c = only_none (IsLookFor c.args.t) c.args.self.now

pub returns-clause-made : goal.returns-clause-made
returns-clause-made c = only_one (IsLookFor c.args.t) c.args.self.now c.make.new.self (Look (Some c.args.t) c.args.c) c.make.result (inr (c.args.c, refl)) c.make.ensures
