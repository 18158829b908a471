-- What the fast path didn't answer the slow one does.
use Rattle.std.proofs.Common.{refl}
use Rattle.name_registry.proofs.looking_up.look_up_in.Goals as goal

pub returns-clause-looks : goal.returns-clause-looks
returns-clause-looks c = c.look_up_slow.ensures.looks c.args.cpu.now.cpu (c.in_default.ensures.missed refl)
