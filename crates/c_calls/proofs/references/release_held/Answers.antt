-- A release on another CPU is refused.
use Rattle.std.proofs.Common.{rules}
use Rattle.c_calls.proofs.Passives.{released_elsewhere}
use Rattle.c_calls.proofs.references.release_held.Goals as goal

pub returns-then-reference-from : goal.returns-then-reference-from
returns-then-reference-from c = released_elsewhere c.args.reference.now c.args.cpu.now c.from.result c.refused.result (search rules) c.if-reference-from.true c.refused.ensures
