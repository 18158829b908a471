use Rattle.std.proofs.Common.{◌≡◌, true, sym, ap, subst, ◌∙◌, Ok}
use Rattle.passive_core.specs.Types.{Retired, Stage}
use Rattle.passive_core.specs.Common.{first_obstacle, stage_in, may_act}
use Rattle.protocol.specs.Common.{Holds, State}
use Rattle.registry_values.specs.Common.{is_retired, slot_at}
use Rattle.passive_core.proofs.Advancing.{holders_are_open, stage_acts}
use Rattle.registry_values.proofs.Slots.{retired_slot_tells}
use Rattle.passive_core.proofs.Entering.{acting_on}
use Rattle.passive_core.proofs.Performing.{plain_is}
use Rattle.passive_core.proofs.Making.{only_seats, work_seated}
use Rattle.passive_core.proofs.machine.Core.advance.Goals as goal

pub returns-in_default-clause-holders : goal.returns-in_default-clause-holders
returns-in_default-clause-holders c = holders_are_open c.args.self.now (subst Holds c.self.view_is c.self.invariant) c.requires

pub advance_slot-requires-clause-retired : goal.advance_slot-requires-clause-retired
advance_slot-requires-clause-retired c =
    let e = retired_slot_tells c.args.self.now.slots c.args.number c.in-Some.t (sym c.in-Some.ensures.value) in
    ap (λ (x : State). is_retired (slot_at x.slots c.in-Some.t)) c.seat_all.ensures ∙ ap is_retired e.1.1

pub returns-clause-answer : goal.returns-clause-answer
returns-clause-answer c =
    let s = c.args.self.now in
    let e = retired_slot_tells s.slots c.args.number c.in-Some.t (sym c.in-Some.ensures.value) in
    let there : slot_at c.seat_all.new.self.slots c.in-Some.t ≡ Retired e.1.0 = ap (λ (x : State). slot_at x.slots c.in-Some.t) c.seat_all.ensures ∙ e.1.1 in
    let stage : c.advance_slot.result ≡ first_obstacle s c.in-Some.t c.args.number =
    c.advance_slot.ensures.stage e.1.0 there ∙ (ap (λ (x : State). first_obstacle x c.in-Some.t e.1.0.number) c.seat_all.ensures ∙ ap (first_obstacle s c.in-Some.t) e.1.2) in
    ap (λ (x : Stage). Ok x) stage ∙ ap (stage_in s c.args.number) c.in-Some.ensures.value

pub returns-clause-plain : goal.returns-clause-plain
returns-clause-plain c = λ untried. returns-clause-answer c ∙ plain_is c.args.self.now c.args.number (subst Holds c.self.view_is c.self.invariant) untried

pub returns-clause-holders : goal.returns-clause-holders
returns-clause-holders c = holders_are_open c.args.self.now (subst Holds c.self.view_is c.self.invariant) c.requires

pub returns-clause-ready : goal.returns-clause-ready
returns-clause-ready c = λ d acts.
    let s = c.args.self.now in
    let seated : may_act c.seat_all.new.self d ≡ true = ap (λ (x : State). may_act x d) c.seat_all.ensures ∙ acting_on s d (subst Holds c.self.view_is c.self.invariant) acts in
    stage_acts c.seat_all.new.self c.advance_slot.new.self c.in-Some.t d c.advance_slot.result
    (ap (λ (x : State). x.seated) c.seat_all.ensures ∙ sym (ap (λ (x : State). x.settings.cpus) c.seat_all.ensures)) c.advance_slot.ensures.after seated

pub returns-clause-made : goal.returns-clause-made
returns-clause-made c =
    let s = c.args.self.now in
    let on : Holds s = subst Holds c.self.view_is c.self.invariant in (
      c.in-Some.t,
      sym c.in-Some.ensures.value,
      work_seated s c.seat_all.new.self c.advance_slot.new.self c.in-Some.t c.advance_slot.result (only_seats s c.seat_all.new.self on c.requires c.seat_all.ensures) c.advance_slot.ensures.made,
    )
