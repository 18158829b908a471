use Rattle.std.proofs.Common.{[], ◌∷◌, subst, arith}
use Rattle.protocol.specs.Common.{Holds}
use Rattle.passive_core.proofs.Entering.{depth_range}
use Rattle.passive_core.specs.Types.{Exit}
use Rattle.passive_core.proofs.Making.{makes_one, seated_and}
use Rattle.passive_core.proofs.machine.Core.exit.Goals as goal

pub overflow_sub-depth : goal.overflow_sub-depth
overflow_sub-depth c =
    let on = subst Holds c.self.view_is c.self.invariant in
    omega (arith, depth_range c.args.self.now c.args.c on c.requires.inside, c.depth-depth.ensures)

pub set_depth-requires-clause-deep : goal.set_depth-requires-clause-deep
set_depth-requires-clause-deep c =
    let on = subst Holds c.self.view_is c.self.invariant in
    omega (arith, depth_range c.args.self.now c.args.c on c.requires.inside, c.depth-depth.ensures)

pub returns-then-depth-eq1-clause-made : goal.returns-then-depth-eq1-clause-made
returns-then-depth-eq1-clause-made c = λ so. seated_and c.args.self.now c.seat_for.new.self c.make.new.self (Exit c.args.c ∷ []) c.seat_for.ensures.sound c.requires.rest c.seat_for.ensures.after
    (makes_one c.seat_for.new.self c.make.new.self (Exit c.args.c) c.make.result c.make.ensures)
