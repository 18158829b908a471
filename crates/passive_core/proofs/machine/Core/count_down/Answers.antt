use Rattle.std.proofs.Common.{◌≡◌, false, [], ◌∷◌, ◌∙◌, ap, subst, sym}
use Rattle.protocol.specs.Common.{Holds, after_collected}
use Rattle.passive_core.specs.Common.{is_counting, local_slot, with_count_less}
use Rattle.passive_core.specs.Types.{JoinRef, CountDown, SplitBack}
use Rattle.protocol.proofs.keeps.SectionKeeps.{idle_tells}
use Rattle.passive_core.proofs.Locals.{back_allowed, counted_down, down_allowed, down_fell, down_went, gone_back, lifted, lifts, live_slot, slot_is}
use Rattle.protocol.proofs.keeps.References.{standing_tells}
use Rattle.passive_core.proofs.Making.{makes_first, makes_one}
use Rattle.passive_core.proofs.machine.Core.count_down.Goals.{In-Collected}
use Rattle.passive_core.proofs.machine.Core.count_down.Goals as goal

pub make-requires-2-clause-allowed : goal.make-requires-2-clause-allowed
make-requires-2-clause-allowed c =
    let s = c.args.self.now in
    let n = c.number-number.result in
    let on = subst Holds c.self.view_is c.self.invariant in
    let t = live_slot s c.args.id n on c.number-number.ensures in
    let joined = lifts s _ c.args.c n c.args.id _ c.number-number.ensures c.requires.idle c.make.ensures in
    down_allowed s c.make.new.self c.args.c n c.args.id t.0 on t.1 (idle_tells s c.args.c on c.requires.idle).0 joined

-- the count was collected, and the reference is in the hand
fell : (c : In-Collected) → (is_counting c.args.self.now c.args.c (local_slot c.args.self.now c.args.id) ≡ false)
    × (c.make-2.new.self ≡ after_collected (lifted c.args.self.now c.args.c c.number-number.result c.args.id) c.args.c c.number-number.result c.args.id)
fell c =
    let s = c.args.self.now in
    let n = c.number-number.result in
    let on = subst Holds c.self.view_is c.self.invariant in
    let t = live_slot s c.args.id n on c.number-number.ensures in
    let joined = lifts s _ c.args.c n c.args.id _ c.number-number.ensures c.requires.idle c.make.ensures in
    let low = (idle_tells s c.args.c on c.requires.idle).0 in
    let told = down_fell s c.make.new.self c.make-2.new.self c.args.c n c.args.id t.0 c.make-2.result on t.1 low joined c.make-2.ensures c.in-Collected.is in
    (ap (is_counting s c.args.c) (slot_is s c.args.id n t.0 c.number-number.ensures t.1) ∙ told.0, told.1)

pub make-requires-in-Collected-clause-allowed : goal.make-requires-in-Collected-clause-allowed
make-requires-in-Collected-clause-allowed c =
    let s = c.args.self.now in
    let on = subst Holds c.self.view_is c.self.invariant in
    let told = fell (goal.at.make-requires-in-Collected-clause-allowed c).In-Collected in
    back_allowed s c.make-2.new.self c.args.c c.number-number.result c.args.id on (idle_tells s c.args.c on c.requires.idle).0 told.1

pub returns-in-Collected-clause-value : goal.returns-in-Collected-clause-value
returns-in-Collected-clause-value c = sym (fell (goal.at.returns-in-Collected-clause-value c).In-Collected).0

pub returns-in-Collected-clause-kept : goal.returns-in-Collected-clause-kept
returns-in-Collected-clause-kept c = λ _.
    let s = c.args.self.now in
    let n = c.number-number.result in
    let on = subst Holds c.self.view_is c.self.invariant in
    let idle = idle_tells s c.args.c on c.requires.idle in
    let told = fell (goal.at.returns-in-Collected-clause-kept c).In-Collected in
    gone_back s c.make-2.new.self c.make-in-Collected.new.self c.args.c n c.args.id _ on idle.0 idle.1 (standing_tells _ n c.number-number.ensures) told.1 c.make-in-Collected.ensures

pub returns-in_default : goal.returns-in_default
returns-in_default c =
    let s = c.args.self.now in
    let n = c.number-number.result in
    let on = subst Holds c.self.view_is c.self.invariant in
    let t = live_slot s c.args.id n on c.number-number.ensures in
    let told = idle_tells s c.args.c on c.requires.idle in
    let joined = lifts s _ c.args.c n c.args.id _ c.number-number.ensures c.requires.idle c.make.ensures in
    let went = down_went s c.make.new.self c.make-2.new.self c.args.c n c.args.id t.0 c.make-2.result on t.1 told.0 joined c.make-2.ensures c.in_default.not-Collected in
    let at = slot_is s c.args.id n t.0 c.number-number.ensures t.1 in
    record {
      value = sym (ap (is_counting s c.args.c) at ∙ went.0);
      counted = λ _. went.1 ∙ (counted_down s c.args.c n c.args.id t.0 told.1 ∙ ap (with_count_less s c.args.c c.args.id) (sym at));
      kept = λ no. absurd (let q = no in cc);
      made = makes_first s c.make.new.self c.make-2.new.self (JoinRef c.args.c c.args.id) c.make.result (CountDown c.args.c ∷ []) c.make.ensures
          (makes_one c.make.new.self c.make-2.new.self (CountDown c.args.c) c.make-2.result c.make-2.ensures);
    }

pub returns-in-Collected-clause-made : goal.returns-in-Collected-clause-made
returns-in-Collected-clause-made c =
    makes_first c.args.self.now c.make.new.self c.make-in-Collected.new.self (JoinRef c.args.c c.args.id) c.make.result (CountDown c.args.c ∷ SplitBack c.args.c ∷ []) c.make.ensures
    (makes_first c.make.new.self c.make-2.new.self c.make-in-Collected.new.self (CountDown c.args.c) c.make-2.result (SplitBack c.args.c ∷ []) c.make-2.ensures
    (makes_one c.make-2.new.self c.make-in-Collected.new.self (SplitBack c.args.c) c.make-in-Collected.result c.make-in-Collected.ensures))
