use Rattle.name_registry.proofs.Worked.{collection_leaves}
use Rattle.name_registry.proofs.advancing.collect_one.Goals as goal

pub returns-clause-leaves : goal.returns-clause-leaves
returns-clause-leaves c = collection_leaves c.args.keeper.now.keeper c.collect.new.keeper.keeper c.args.slot c.args.cpu c.collect.ensures.change
