use Rattle.std.proofs.Common.{[], ◌∷◌, subst, sym}
use Rattle.protocol.specs.Common.{State}
use Rattle.passive_core.specs.Common.{IsOneMore}
use Rattle.passive_core.proofs.Entering.{acting_untried}
use Rattle.passive_core.proofs.Passives.{add_allowed, added, counted_more}
use Rattle.passive_core.specs.Types.{PassiveAdd}
use Rattle.passive_core.proofs.Making.{makes_one, seated_and}
use Rattle.passive_core.proofs.machine.Core.add_passive.Goals as goal

pub make-requires-clause-allowed : goal.make-requires-clause-allowed
make-requires-clause-allowed c = add_allowed c.args.self.now c.begin.new.self c.args.c c.args.number c.begin.ensures.sound c.begin.ensures.seated
    (c.begin.ensures.idle c.args.c c.requires.known c.requires.ready) c.requires.has c.requires.room

pub returns-clause-counted : goal.returns-clause-counted
returns-clause-counted c =
    let is = added c.args.self.now c.begin.new.self c.make.new.self c.args.c c.args.number _ c.begin.ensures.sound c.begin.ensures.seated
    (c.begin.ensures.idle c.args.c c.requires.known c.requires.ready) c.requires.has c.requires.room c.make.ensures in
    subst (λ (x : State). IsOneMore c.args.self.now x c.args.c c.args.number) (sym is) (counted_more c.args.self.now c.args.c c.args.number c.begin.ensures.sound c.requires.known
    (λ t. acting_untried c.args.self.now c.args.c t c.begin.ensures.sound c.requires.ready) c.requires.has)

pub returns-clause-made : goal.returns-clause-made
returns-clause-made c = seated_and c.args.self.now c.begin.new.self c.make.new.self (PassiveAdd c.args.c c.args.number ∷ []) c.begin.ensures.sound c.requires.rest c.begin.ensures.seated
    (makes_one c.begin.new.self c.make.new.self (PassiveAdd c.args.c c.args.number) c.make.result c.make.ensures)
