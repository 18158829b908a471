use Rattle.std.proofs.Common.{◌∙◌, sym}
use Rattle.name_registry.proofs.Worked.{sees_section, looked_none, look_leaves, looked_grows}
use Rattle.name_registry.proofs.advancing.passes.Goals as goal

pub returns-then-mark-clause-leaves : goal.returns-then-mark-clause-leaves
returns-then-mark-clause-leaves c = looked_none c.args.keeper.now.keeper c.args.slot

pub returns-clause-sees : goal.returns-clause-sees
returns-clause-sees c = λ unset. let change = c.look.ensures.change in
    sees_section c.args.words.now.settings c.args.keeper.now.keeper c.look.new.keeper.keeper c.args.slot c.args.cpu change.0 c.requires.works c.requires.cpu change.1 change.2 change.3
    (sym c.look.ensures.passed ∙ unset)

pub returns-clause-leaves : goal.returns-clause-leaves
returns-clause-leaves c = let change = c.look.ensures.change in
    look_leaves c.args.keeper.now.keeper c.look.new.keeper.keeper _ _ c.args.slot c.args.cpu _ (looked_grows _ change.0) change.1 c.look.ensures.slots (_, sym change.3)
