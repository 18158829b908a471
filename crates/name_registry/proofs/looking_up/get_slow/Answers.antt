-- What the fast path didn't get is got anew.
use Rattle.name_registry.proofs.LookedUp.{got_anew}
use Rattle.name_registry.proofs.looking_up.get_slow.Goals as goal

pub returns-then-may_begin_on-clause-gets : goal.returns-then-may_begin_on-clause-gets
returns-then-may_begin_on-clause-gets c a missed =
    got_anew c.args.key a c.args.cpu.now.cpu _ _ missed (c.may_begin_on.ensures.0 c.if-may_begin_on.true) c.get_anew.ensures.gets
