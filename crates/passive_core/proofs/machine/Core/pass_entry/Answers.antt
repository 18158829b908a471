use Rattle.std.proofs.Common.{◌≡◌, sym, ap, subst, ◌∙◌, Some}
use Rattle.std.proofs.lemmas.Option.{none-some, same_Some}
use Rattle.protocol.specs.Common.{AllPassed, Holds}
use Rattle.registry_values.specs.Common.{retired_slot, is_retired}
use Rattle.registry_values.proofs.Slots.{retired_slot_tells}
use Rattle.passive_core.proofs.Performing.{none_open, only_one, retired_found}
use Rattle.passive_core.specs.Common.{IsWaiting}
use Rattle.passive_core.proofs.Making.{looks_wait, only_none}
use Rattle.passive_core.proofs.machine.Core.pass_entry.Goals as goal

pub look_at_all-requires-clause-retired : goal.look_at_all-requires-clause-retired
look_at_all-requires-clause-retired c =
    ap is_retired (retired_slot_tells c.args.self.now.slots c.in-Some.number c.in-Some-retired_slot.t (sym c.in-Some-retired_slot.ensures.value)).1.1

pub returns-in-Some-retired_slot-clause-only : goal.returns-in-Some-retired_slot-clause-only
returns-in-Some-retired_slot-clause-only c =
    only_one c.args.self.now c.look_at_all.new.self c.in-Some-retired_slot.t
    (ap is_retired (retired_slot_tells c.args.self.now.slots c.in-Some.number c.in-Some-retired_slot.t (sym c.in-Some-retired_slot.ensures.value)).1.1)
    c.look_at_all.ensures.only c.look_at_all.ensures.marks

pub returns-in-Some-retired_slot-clause-passed : goal.returns-in-Some-retired_slot-clause-passed
returns-in-Some-retired_slot-clause-passed c = λ t gone is.
    let s = c.args.self.now in
    let on : Holds s = subst Holds c.self.view_is c.self.invariant in
    let found : retired_slot s.slots c.in-Some.number ≡ Some t = retired_found s t c.in-Some.number on gone (sym c.in-Some.is ∙ is) in
    let same : c.in-Some-retired_slot.t ≡ t = same_Some c.in-Some-retired_slot.t t (c.in-Some-retired_slot.ensures.value ∙ found) in
    subst (AllPassed c.look_at_all.new.self) same (c.look_at_all.ensures.passed (c.look_at_all.ensures.answer ∙ none_open s c.in-Some-retired_slot.t c.requires.outside))

pub returns-in_default-retired_slot-clause-passed : goal.returns-in_default-retired_slot-clause-passed
returns-in_default-retired_slot-clause-passed c = λ t gone is.
    let s = c.args.self.now in
    let on : Holds s = subst Holds c.self.view_is c.self.invariant in
    let found : retired_slot s.slots c.in-Some.number ≡ Some t = retired_found s t c.in-Some.number on gone (sym c.in-Some.is ∙ is) in
    absurd (none-some t (sym c.in_default-retired_slot.is ∙ (c.retired_slot.ensures.value ∙ found)))

pub returns-in-Some-retired_slot-clause-made : goal.returns-in-Some-retired_slot-clause-made
returns-in-Some-retired_slot-clause-made c = looks_wait c.args.self.now c.look_at_all.new.self c.in-Some-retired_slot.t c.look_at_all.ensures.made

pub returns-in_default-retired_slot-clause-made : goal.returns-in_default-retired_slot-clause-made
returns-in_default-retired_slot-clause-made c = only_none IsWaiting c.args.self.now

pub returns-in_default-clause-made : goal.returns-in_default-clause-made
returns-in_default-clause-made c = only_none IsWaiting c.args.self.now
