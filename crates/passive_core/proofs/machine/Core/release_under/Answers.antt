use Rattle.std.proofs.Common.{ℕ, [], ◌∷◌, Option, ◌∙◌, refl, subst, sym}
use Rattle.protocol.specs.Common.{Holds, narrow_step}
use Rattle.passive_core.specs.Types.{JoinKeeper, TotalSub}
use Rattle.passive_core.proofs.Locals.{joined_keeper, live_slot, slot_is, sub_allowed}
use Rattle.passive_core.proofs.Passives.{is_some, made}
use Rattle.passive_core.specs.Common.{under_events, Makes}
use Rattle.passive_core.proofs.Making.{makes_first, makes_one}
use Rattle.passive_core.proofs.machine.Core.release_under.Goals as goal

pub unreachable-requires : goal.unreachable-requires
unreachable-requires c =
    let t = live_slot c.args.self.now c.args.id c.number-number.result (subst Holds c.self.view_is c.self.invariant) c.number-number.ensures in
    c.in_default.not-Some t.0 (c.slot_of.ensures.value ∙ t.1)

pub make-requires-clause-allowed : goal.make-requires-clause-allowed
make-requires-clause-allowed c =
    let s = c.args.self.now in
    let of = sym c.in-Some.ensures.value in
    is_some (narrow_step s (JoinKeeper c.args.id)) _ (joined_keeper s c.args.c c.args.id c.number-number.result c.in-Some.t
    (subst Holds c.self.view_is c.self.invariant) c.requires.known c.requires.rest c.number-number.ensures of c.requires.collected) refl

pub make-requires-2-clause-allowed : goal.make-requires-2-clause-allowed
make-requires-2-clause-allowed c =
    let s = c.args.self.now in
    let of = sym c.in-Some.ensures.value in
    let joined = joined_keeper s c.args.c c.args.id c.number-number.result c.in-Some.t
    (subst Holds c.self.view_is c.self.invariant) c.requires.known c.requires.rest c.number-number.ensures of c.requires.collected in
    sub_allowed s c.make.new.self c.args.id c.in-Some.t (made s (narrow_step s (JoinKeeper c.args.id)) _ c.make.new.self _ joined c.make.ensures)

pub returns-clause-made : goal.returns-clause-made
returns-clause-made c =
    let s = c.args.self.now in
    let at = slot_is s c.args.id c.number-number.result c.in-Some.t c.number-number.ensures (sym c.in-Some.ensures.value) in
    subst (λ (o : Option ℕ). Makes s (under_events c.args.id o) c.make-2.new.self) (sym at)
    (makes_first s c.make.new.self c.make-2.new.self (JoinKeeper c.args.id) c.make.result (TotalSub c.in-Some.t ∷ []) c.make.ensures
    (makes_one c.make.new.self c.make-2.new.self (TotalSub c.in-Some.t) c.make-2.result c.make-2.ensures))
