use Rattle.std.proofs.Common.{◌≡◌, ◌<◌, true, false, refl, sym, ap, subst, ◌∙◌, None}
use Rattle.registry_values.specs.Common.{wait_answer, least_below, retired_number, is_retired, slot_at}
use Rattle.passive_core.specs.Common.{all_seated, may_act, AllOutside, OnlyPasses, IsWaiting}
use Rattle.protocol.specs.Common.{is_inside, Holds, State}
use Rattle.registry_values.proofs.Answers.{handed_on}
use Rattle.registry_values.proofs.Slots.{least_none}
use Rattle.passive_core.proofs.Entering.{acting_on}
use Rattle.passive_core.proofs.Making.{only_after, only_none, seats_wait}
use Rattle.passive_core.proofs.machine.Core.perform.Goals as goal

pub returns-in_err-waiting_for-clause-ready : goal.returns-in_err-waiting_for-clause-ready
returns-in_err-waiting_for-clause-ready c = λ d acts.
    let s = c.args.self.now in
    ap (λ (x : State). may_act x d) (c.wait_for_sections.ensures.same ∙ c.seat_all.ensures) ∙ acting_on s d (subst Holds c.self.view_is c.self.invariant) acts

pub returns-in_err-waiting_for-clause-answer : goal.returns-in_err-waiting_for-clause-answer
returns-in_err-waiting_for-clause-answer c =
    let least : c.wait_for_sections.result ≡ least_below (is_inside c.args.self.now) c.args.self.now.settings.cpus =
    c.wait_for_sections.ensures.answer ∙ ap (λ (x : State). least_below (is_inside x) x.settings.cpus) c.seat_all.ensures in
    let outside : is_inside c.args.self.now c.args.c ≡ false = sym c.inside.ensures ∙ c.if-inside.false in
    rw outside (handed_on c.from_residual.result c.in_err-waiting_for.field-0.0 c.from_residual.ensures.0 c.from_residual.ensures.1 ∙ (c.in_err-waiting_for.ensures.value ∙ ap wait_answer least))

pub pass_all-requires-clause-outside : goal.pass_all-requires-clause-outside
pass_all-requires-clause-outside c =
    let s = c.args.self.now in
    let none : least_below (is_inside s) s.settings.cpus ≡ None =
    ap (λ (x : State). least_below (is_inside x) x.settings.cpus) (sym c.seat_all.ensures) ∙ (sym c.wait_for_sections.ensures.answer ∙ c.in_ok-waiting_for.ensures.none) in
    subst AllOutside (sym (c.wait_for_sections.ensures.same ∙ c.seat_all.ensures)) (least_none (is_inside s) s.settings.cpus none)

pub pass_all-requires-clause-numbers : goal.pass_all-requires-clause-numbers
pass_all-requires-clause-numbers c = λ t lt.
    let s = c.args.self.now in
    let seated : c.wait_for_sections.new.self ≡ all_seated s = c.wait_for_sections.ensures.same ∙ c.seat_all.ensures in
    c.retired_numbers-retired.ensures t (subst (λ (x : State). t < x.settings.slots) seated lt) ∙ ap (λ (x : State). retired_number (slot_at x.slots t)) (sym seated)

pub returns-clause-answer : goal.returns-clause-answer
returns-clause-answer c =
    let s = c.args.self.now in
    let seated : c.wait_for_sections.new.self ≡ all_seated s = c.wait_for_sections.ensures.same ∙ c.seat_all.ensures in
    let none : least_below (is_inside s) s.settings.cpus ≡ None =
    ap (λ (x : State). least_below (is_inside x) x.settings.cpus) (sym c.seat_all.ensures) ∙ (sym c.wait_for_sections.ensures.answer ∙ c.in_ok-waiting_for.ensures.none) in
    rw (sym c.inside.ensures ∙ c.if-inside.false, none) refl

pub returns-clause-after : goal.returns-clause-after
returns-clause-after c =
    let s = c.args.self.now in
    let seated : c.wait_for_sections.new.self ≡ all_seated s = c.wait_for_sections.ensures.same ∙ c.seat_all.ensures in
    let only : OnlyPasses (all_seated s) c.pass_all.new.self = subst (λ (x : State). OnlyPasses x c.pass_all.new.self) seated c.pass_all.ensures.only in
    record {
      only = only.only;
      marks = only.marks;
      elsewhere = only.elsewhere;
      passed = λ t gone. c.pass_all.ensures.passed t (ap (λ (x : State). is_retired (slot_at x.slots t)) seated ∙ gone);
    }

pub returns-clause-ready : goal.returns-clause-ready
returns-clause-ready c = λ d acts.
    let s = c.args.self.now in
    let seated : c.wait_for_sections.new.self ≡ all_seated s = c.wait_for_sections.ensures.same ∙ c.seat_all.ensures in
    let before : may_act c.wait_for_sections.new.self d ≡ true = ap (λ (x : State). may_act x d) seated ∙ acting_on s d (subst Holds c.self.view_is c.self.invariant) acts in
    ap (λ (x : State). may_act x d) c.pass_all.ensures.only.only ∙ before

pub returns-then-inside-clause-made : goal.returns-then-inside-clause-made
returns-then-inside-clause-made c = only_none IsWaiting c.args.self.now

pub returns-in_err-waiting_for-clause-made : goal.returns-in_err-waiting_for-clause-made
returns-in_err-waiting_for-clause-made c =
    seats_wait c.args.self.now c.seat_all.new.self c.wait_for_sections.new.self (subst Holds c.self.view_is c.self.invariant) c.requires.rest c.seat_all.ensures c.wait_for_sections.ensures.same

pub returns-clause-made : goal.returns-clause-made
returns-clause-made c =
    let s = c.args.self.now in
    only_after IsWaiting s c.wait_for_sections.new.self c.pass_all.new.self
    (seats_wait s c.seat_all.new.self c.wait_for_sections.new.self (subst Holds c.self.view_is c.self.invariant) c.requires.rest c.seat_all.ensures c.wait_for_sections.ensures.same)
    c.pass_all.ensures.made
