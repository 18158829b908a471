use Rattle.std.proofs.Common.{◌≡◌, inl, inr, refl, sym, subst, ◌∙◌, Some, None}
use Rattle.passive_core.specs.Types.{Done, KeptSub, Vacate}
use Rattle.protocol.specs.Common.{after_kept_sub, after_vacate, may_vacate, narrow_step, Holds, kept_at}
use Rattle.passive_core.proofs.Advancing.{allowed, gave_up, gives_up, guard_some, kept_slot, left_by, vacated, vacates}
use Rattle.registry_values.proofs.Slots.{none_is}
use Rattle.passive_core.proofs.Entering.{made_is}
use Rattle.protocol.proofs.keeps.SectionKeeps.{some_from}
use Rattle.passive_core.specs.Common.{IsFreeingOf}
use Rattle.passive_core.proofs.Making.{only_one}
use Rattle.passive_core.proofs.machine.Core.free.Goals as goal

pub make-requires-clause-allowed : goal.make-requires-clause-allowed
make-requires-clause-allowed c =
    let s = c.args.self.now in
    let on : Holds s = subst Holds c.self.view_is c.self.invariant in
    let d = some_from c.kept_at.result (sym c.is_some.ensures ∙ c.if-is_some.true) in
    let kept : kept_at s.keeps c.args.t ≡ Some d.0 = sym c.kept_at.ensures.value ∙ d.1 in
    let u = kept_slot s c.args.t d.0 on kept in
    allowed (narrow_step s (KeptSub c.args.t)) _ (gives_up s c.args.t d.0 u.0 on kept u.1 c.requires.drained)

pub returns-then-is_some-clause-after : goal.returns-then-is_some-clause-after
returns-then-is_some-clause-after c =
    let s = c.args.self.now in
    let on : Holds s = subst Holds c.self.view_is c.self.invariant in
    let d = some_from c.kept_at.result (sym c.is_some.ensures ∙ c.if-is_some.true) in
    let kept : kept_at s.keeps c.args.t ≡ Some d.0 = sym c.kept_at.ensures.value ∙ d.1 in
    let u = kept_slot s c.args.t d.0 on kept in
    gave_up s c.make.new.self c.args.t d.0 u.0 on kept u.1 c.requires.drained
    (left_by (narrow_step s (KeptSub c.args.t)) (after_kept_sub s c.args.t u.0) c.make.new.self Done c.make.result (gives_up s c.args.t d.0 u.0 on kept u.1 c.requires.drained) c.make.ensures)

pub make-requires-2-clause-allowed : goal.make-requires-2-clause-allowed
make-requires-2-clause-allowed c =
    let s = c.args.self.now in
    let none : kept_at s.keeps c.args.t ≡ None = sym c.kept_at.ensures.value ∙ none_is c.kept_at.result (sym c.is_some.ensures ∙ c.if-is_some.false) in
    guard_some (may_vacate s c.args.t) _ _ (vacates s c.args.t none c.requires.drained)

pub returns-clause-after : goal.returns-clause-after
returns-clause-after c =
    let s = c.args.self.now in
    let on : Holds s = subst Holds c.self.view_is c.self.invariant in
    let none : kept_at s.keeps c.args.t ≡ None = sym c.kept_at.ensures.value ∙ none_is c.kept_at.result (sym c.is_some.ensures ∙ c.if-is_some.false) in
    vacated s c.make-2.new.self c.args.t on none c.requires.drained
    (made_is (may_vacate s c.args.t) (after_vacate s c.args.t) c.make-2.new.self Done c.make-2.result (vacates s c.args.t none c.requires.drained) c.make-2.ensures)

pub returns-then-is_some-clause-made : goal.returns-then-is_some-clause-made
returns-then-is_some-clause-made c = only_one (IsFreeingOf c.args.t) c.args.self.now c.make.new.self (KeptSub c.args.t) c.make.result (inr (inl refl)) c.make.ensures

pub returns-clause-made : goal.returns-clause-made
returns-clause-made c = only_one (IsFreeingOf c.args.t) c.args.self.now c.make-2.new.self (Vacate c.args.t) c.make-2.result (inr (inr refl)) c.make-2.ensures
