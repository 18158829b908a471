use Rattle.std.proofs.Common.{lt-ltb, length}
use Rattle.protocol.specs.Common.{least_id}
use Rattle.passive_core.specs.Types.{SplitRef}
use Rattle.passive_core.proofs.Entering.{step_left}
use Rattle.passive_core.proofs.machine.Core.split_in_place.Goals as goal

pub invariant_of-self : goal.invariant_of-self
invariant_of-self c =
    let room = lt-ltb (least_id c.args.self.now.locals) (length c.args.self.now.locals) c.requires.room in
    step_left (SplitRef c.args.c) c.self.view_is c.self.invariant (rw (c.requires.hand, c.least_id-id.ensures.value, room, ← c.self.view_is))
