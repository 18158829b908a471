use Rattle.std.proofs.Common.{◌≡◌, inr, refl, sym, ap, subst, ◌∙◌}
use Rattle.passive_core.specs.Types.{Mark, PassiveLook}
use Rattle.passive_core.specs.Common.{MarksClear, SameBut, IsPassiveLookFor}
use Rattle.protocol.specs.Common.{after_look_passive, may_look_passive, Holds, State, mark_at, passive_at}
use Rattle.registry_values.specs.Common.{mark_after_passive_look}
use Rattle.passive_core.proofs.Advancing.{clear_left, examines_passive, guard_some, mark_beside, passive_clears, passive_look_is, passive_look_marks}
use Rattle.protocol.proofs.Cells.{mark_there}
use Rattle.passive_core.proofs.Making.{only_none, only_one}
use Rattle.passive_core.proofs.machine.Core.clears.Goals as goal

pub returns-then-mark_at-clause-answer : goal.returns-then-mark_at-clause-answer
returns-then-mark_at-clause-answer c =
    clear_left c.args.self.now c.args.t c.args.c (ap (λ (m : Mark). m.clear) (sym c.mark_at.ensures) ∙ c.if-mark_at.true)

pub make-requires-clause-allowed : goal.make-requires-clause-allowed
make-requires-clause-allowed c =
    let s = c.args.self.now in
    guard_some (may_look_passive s c.args.t c.args.c) _ _ (examines_passive s c.args.t c.args.c c.requires.rest c.requires.retired c.requires.passed c.requires.cpu)

pub returns-clause-answer : goal.returns-clause-answer
returns-clause-answer c =
    let s = c.args.self.now in
    let on : Holds s = subst Holds c.self.view_is c.self.invariant in
    let new : c.make.new.self ≡ after_look_passive s c.args.t c.args.c =
    passive_look_is s c.make.new.self c.args.t c.args.c c.make.result c.requires.rest c.requires.retired c.requires.passed c.requires.cpu c.make.ensures in
    let m : Mark = mark_after_passive_look (mark_at s.marks c.args.t c.args.c) (passive_at s.passive c.args.c c.args.t) in
    let there : mark_at c.make.new.self.marks c.args.t c.args.c ≡ m = ap (λ (x : State). mark_at x.marks c.args.t c.args.c) new ∙ mark_there s c.args.t c.args.c m on c.requires.slot c.requires.cpu in
    ap (λ (x : Mark). x.clear) (c.mark_at-2.ensures ∙ there) ∙ passive_clears s c.args.t c.args.c

pub returns-clause-marks : goal.returns-clause-marks
returns-clause-marks c =
    let s = c.args.self.now in
    let new : c.make.new.self ≡ after_look_passive s c.args.t c.args.c =
    passive_look_is s c.make.new.self c.args.t c.args.c c.make.result c.requires.rest c.requires.retired c.requires.passed c.requires.cpu c.make.ensures in
    subst (λ (x : State). MarksClear s.marks x.marks c.args.t) (sym new) (passive_look_marks s c.args.t c.args.c)

pub returns-clause-others : goal.returns-clause-others
returns-clause-others c =
    let s = c.args.self.now in
    let new : c.make.new.self ≡ after_look_passive s c.args.t c.args.c =
    passive_look_is s c.make.new.self c.args.t c.args.c c.make.result c.requires.rest c.requires.retired c.requires.passed c.requires.cpu c.make.ensures in
    subst (λ (x : State). SameBut s.marks x.marks c.args.t c.args.c) (sym new)
    (mark_beside s.marks c.args.t c.args.c (mark_after_passive_look (mark_at s.marks c.args.t c.args.c) (passive_at s.passive c.args.c c.args.t)))

pub returns-then-mark_at-clause-made : goal.returns-then-mark_at-clause-made
returns-then-mark_at-clause-made c = only_none (IsPassiveLookFor c.args.t) c.args.self.now

pub returns-clause-made : goal.returns-clause-made
returns-clause-made c = only_one (IsPassiveLookFor c.args.t) c.args.self.now c.make.new.self (PassiveLook c.args.t c.args.c) c.make.result (inr (c.args.c, refl)) c.make.ensures
