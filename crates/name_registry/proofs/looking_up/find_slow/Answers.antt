-- After a load that told nothing the search is what is left of the find.
use Rattle.name_registry.proofs.LookedUp.{found_after}
use Rattle.name_registry.proofs.looking_up.find_slow.Goals as goal

pub returns-clause-looks : goal.returns-clause-looks
returns-clause-looks c a missed = found_after c.args.key a _ _ _ missed c.find_and_remember.ensures.found
