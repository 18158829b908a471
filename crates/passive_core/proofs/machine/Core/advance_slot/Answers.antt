use Rattle.std.proofs.Common.{◌≡◌, ap, ◌∙◌, None}
use Rattle.passive_core.specs.Types.{Retired}
use Rattle.protocol.specs.Common.{State, held_at}
use Rattle.registry_values.specs.Common.{slot_at, stage_of}
use Rattle.passive_core.proofs.Advancing.{passive_stage, settled_stage}
use Rattle.passive_core.proofs.Making.{looks_more, passive_more, work_done}
use Rattle.passive_core.proofs.machine.Core.advance_slot.Goals as goal

pub returns-in-Some-look_at_passive-clause-stage : goal.returns-in-Some-look_at_passive-clause-stage
returns-in-Some-look_at_passive-clause-stage c = λ e gone. passive_stage c.args.self.now c.look_at_all.new.self c.args.t e.number c.in-Some-look_at_passive.c
    c.look_at_all.result c.look_at_passive.result c.look_at_all.ensures.answer c.in_default.not-Some c.look_at_all.ensures.only c.look_at_all.ensures.marks
    c.look_at_passive.ensures.answer c.in-Some-look_at_passive.is

pub returns-clause-stage : goal.returns-clause-stage
returns-clause-stage c = λ e gone.
    let s = c.args.self.now in
    let t = c.args.t in
    let there : slot_at c.collect_all.new.self.slots t ≡ Retired e = ap (λ (x : State). slot_at x.slots t) c.collect_all.ensures.gathered.only
    ∙ (ap (λ (x : State). slot_at x.slots t) c.look_at_passive.ensures.only ∙ (ap (λ (x : State). slot_at x.slots t) c.look_at_all.ensures.only ∙ gone)) in
    let held = ap (λ (x : State). held_at x.locals x.hands x.keeps x.due e.number t) c.collect_all.ensures.gathered.only
    ∙ (ap (λ (x : State). held_at x.locals x.hands x.keeps x.due e.number t) c.look_at_passive.ensures.only
    ∙ ap (λ (x : State). held_at x.locals x.hands x.keeps x.due e.number t) c.look_at_all.ensures.only) in
    settled_stage s c.look_at_all.new.self t e.number c.look_at_all.result c.look_at_passive.result c.settle.result c.look_at_all.ensures.answer c.in_default.not-Some
    c.look_at_all.ensures.only c.look_at_all.ensures.marks c.look_at_passive.ensures.answer c.in_default-look_at_passive.not-Some
    (c.settle.ensures.stage e there ∙ ap (stage_of t None None) held)

pub returns-in-Some-look_at_passive-clause-made : goal.returns-in-Some-look_at_passive-clause-made
returns-in-Some-look_at_passive-clause-made c = looks_more c.args.self.now c.look_at_all.new.self c.look_at_passive.new.self c.args.t c.look_at_all.ensures.made c.look_at_passive.ensures.made

pub returns-clause-made : goal.returns-clause-made
returns-clause-made c = work_done c.args.self.now c.collect_all.new.self c.settle.new.self c.args.t c.settle.result c.settle.ensures.after
    (passive_more c.args.self.now c.look_at_passive.new.self c.collect_all.new.self c.args.t
    (looks_more c.args.self.now c.look_at_all.new.self c.look_at_passive.new.self c.args.t c.look_at_all.ensures.made c.look_at_passive.ensures.made) c.collect_all.ensures.made)
    c.settle.ensures.made
