-- What the fast path didn't answer the slow one does.
use Rattle.std.proofs.Common.{refl}
use Rattle.name_registry.proofs.looking_up.get_in.Goals as goal

pub returns-clause-gets : goal.returns-clause-gets
returns-clause-gets c = c.get_slow.ensures.gets c.args.cpu.now.cpu (c.in_default.ensures.missed refl)
