use Rattle.std.proofs.Common.{None, Some, [], ◌∷◌}
use Rattle.passive_core.specs.Types.{Hear, Tell}
use Rattle.passive_core.proofs.Making.{makes_first, makes_one, seated_and}
use Rattle.passive_core.proofs.machine.Core.begin_change.Goals as goal

pub returns-clause-made : goal.returns-clause-made
returns-clause-made c =
    let u = c.seat_for.new.self in
    let n = c.make-2.new.self in
    seated_and c.args.self.now u n (Tell (Some c.args.c) ∷ Hear None ∷ []) c.seat_for.ensures.sound c.requires.rest c.seat_for.ensures.after
    (makes_first u c.make.new.self n (Tell (Some c.args.c)) c.make.result (Hear None ∷ []) c.make.ensures (makes_one c.make.new.self n (Hear None) c.make-2.result c.make-2.ensures))
