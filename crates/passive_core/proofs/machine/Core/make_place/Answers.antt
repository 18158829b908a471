use Rattle.std.proofs.Common.{◌∙◌, ap, position, sym}
use Rattle.protocol.specs.Common.{is_free}
use Rattle.passive_core.specs.Common.{state_shown}
use Rattle.passive_core.proofs.Locals.{grown_holds, grown_room}
use Rattle.passive_core.proofs.machine.Core.make_place.Goals as goal

pub invariant_of-self : goal.invariant_of-self
invariant_of-self c =
    let none = ap (position is_free) (sym c.deref.ensures.value) ∙ (sym c.free_place.ensures.value ∙ c.in-None.is) in
    grown_holds (state_shown c.self.inside) c.grow.new.list.items c.grow.result c.self.invariant none c.grow.ensures.ok c.grow.ensures.err

pub returns-in-None-clause-room : goal.returns-in-None-clause-room
returns-in-None-clause-room c =
    let none = ap (position is_free) (sym c.deref.ensures.value) ∙ (sym c.free_place.ensures.value ∙ c.in-None.is) in
    grown_room (state_shown c.self.inside).locals c.grow.new.list.items c.grow.result none c.grow.ensures.ok
