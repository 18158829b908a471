use Rattle.std.proofs.Common.{sym}
use Rattle.name_registry.proofs.Worked.{look_leaves, cleared_grows}
use Rattle.name_registry.proofs.advancing.clears.Goals as goal

pub returns-clause-leaves : goal.returns-clause-leaves
returns-clause-leaves c = let change = c.look_passive.ensures.change in
    look_leaves c.args.keeper.now.keeper c.look_passive.new.keeper.keeper _ _ c.args.slot c.args.cpu _ (cleared_grows _ change.0) change.1 c.look_passive.ensures.slots (_, sym change.3)
