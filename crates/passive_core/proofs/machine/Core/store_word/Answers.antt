use Rattle.passive_core.specs.Types.{StoreSlot}
use Rattle.passive_core.proofs.Making.{makes_one}
use Rattle.passive_core.proofs.machine.Core.store_word.Goals as goal

pub returns-clause-made : goal.returns-clause-made
returns-clause-made c = makes_one c.args.self.now c.make.new.self (StoreSlot c.args.t c.args.k c.args.v) c.make.result c.make.ensures
