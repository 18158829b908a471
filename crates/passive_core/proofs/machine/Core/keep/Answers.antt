use Rattle.passive_core.specs.Types.{Keep}
use Rattle.passive_core.proofs.Making.{makes_one}
use Rattle.passive_core.proofs.machine.Core.keep.Goals as goal

pub returns-clause-made : goal.returns-clause-made
returns-clause-made c = makes_one c.args.self.now c.make.new.self (Keep c.args.t c.args.id) c.make.result c.make.ensures
