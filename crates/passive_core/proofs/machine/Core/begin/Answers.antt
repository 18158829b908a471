use Rattle.std.proofs.Common.{◌≡◌, subst, sym, true}
use Rattle.protocol.specs.Common.{State, is_idle, Holds}
use Rattle.passive_core.specs.Common.{may_act}
use Rattle.passive_core.proofs.Passives.{may_still}
use Rattle.passive_core.proofs.Entering.{acting_idle}
use Rattle.passive_core.proofs.machine.Core.begin.Goals as goal

pub returns-clause-idle : goal.returns-clause-idle
returns-clause-idle c = λ d low may.
    subst (λ (x : State). is_idle x d ≡ true) (sym c.seat_all.ensures) (acting_idle c.args.self.now d (subst Holds c.self.view_is c.self.invariant) low may)

pub returns-clause-ready : goal.returns-clause-ready
returns-clause-ready c = λ d may.
    subst (λ (x : State). may_act x d ≡ true) (sym c.seat_all.ensures) (may_still c.args.self.now (subst Holds c.self.view_is c.self.invariant) d may)
