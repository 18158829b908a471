use Rattle.std.proofs.Common.{[], ◌∷◌, subst, sym}
use Rattle.protocol.specs.Common.{State}
use Rattle.passive_core.specs.Common.{IsOneLess}
use Rattle.passive_core.proofs.Entering.{acting_untried}
use Rattle.passive_core.proofs.Passives.{sub_allowed, subbed, counted_less}
use Rattle.passive_core.specs.Types.{PassiveSub}
use Rattle.passive_core.proofs.Making.{makes_one, seated_and}
use Rattle.passive_core.proofs.machine.Core.subtract_passive.Goals as goal

pub make-requires-clause-allowed : goal.make-requires-clause-allowed
make-requires-clause-allowed c =
    sub_allowed c.args.self.now c.begin.new.self c.args.c c.args.number c.begin.ensures.seated (c.begin.ensures.idle c.args.c c.requires.known c.requires.ready) c.requires.held

pub returns-clause-counted : goal.returns-clause-counted
returns-clause-counted c =
    let is = subbed c.args.self.now c.begin.new.self c.make.new.self c.args.c c.args.number _ c.begin.ensures.seated
    (c.begin.ensures.idle c.args.c c.requires.known c.requires.ready) c.requires.held c.make.ensures in
    subst (λ (x : State). IsOneLess c.args.self.now x c.args.c c.args.number) (sym is) (counted_less c.args.self.now c.args.c c.args.number c.begin.ensures.sound c.requires.known
    (λ t. acting_untried c.args.self.now c.args.c t c.begin.ensures.sound c.requires.ready) c.requires.held)

pub returns-clause-made : goal.returns-clause-made
returns-clause-made c = seated_and c.args.self.now c.begin.new.self c.make.new.self (PassiveSub c.args.c c.args.number ∷ []) c.begin.ensures.sound c.requires.rest c.begin.ensures.seated
    (makes_one c.begin.new.self c.make.new.self (PassiveSub c.args.c c.args.number) c.make.result c.make.ensures)
