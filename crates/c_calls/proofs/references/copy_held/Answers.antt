-- A copy on another CPU is refused.
use Rattle.std.proofs.Common.{rules}
use Rattle.c_calls.proofs.Passives.{copied_elsewhere}
use Rattle.c_calls.proofs.references.copy_held.Goals as goal

pub returns-then-from : goal.returns-then-from
returns-then-from c = copied_elsewhere c.args.from.now c.args.cpu.now c.args.copy.now c.from.result c.refused.result (search rules) c.if-from.true c.refused.ensures
