use Rattle.std.proofs.Common.{subst}
use Rattle.protocol.specs.Common.{Holds}
use Rattle.passive_core.proofs.Entering.{acting_idle, acting_on}
use Rattle.passive_core.proofs.machine.Core.seat_for.Goals as goal

pub returns-clause-idle : goal.returns-clause-idle
returns-clause-idle c = rw c.seat_all.ensures (acting_idle c.args.self.now c.args.c (subst Holds c.self.view_is c.self.invariant) c.requires.known c.requires.ready)

pub returns-clause-ready : goal.returns-clause-ready
returns-clause-ready c d may = rw c.seat_all.ensures (acting_on c.args.self.now d (subst Holds c.self.view_is c.self.invariant) may)
