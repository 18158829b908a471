use Rattle.std.proofs.Common.{None, Some, [], ◌∷◌}
use Rattle.passive_core.specs.Types.{Hear, Tell}
use Rattle.passive_core.proofs.Making.{makes_first, makes_one}
use Rattle.passive_core.proofs.machine.Core.end_change.Goals as goal

pub returns-clause-made : goal.returns-clause-made
returns-clause-made c =
    let n = c.make-2.new.self in
    makes_first c.args.self.now c.make.new.self n (Tell None) c.make.result (Hear (Some c.args.c) ∷ []) c.make.ensures
    (makes_one c.make.new.self n (Hear (Some c.args.c)) c.make-2.result c.make-2.ensures)
