-- After a load that told nothing it looks up anew.
use Rattle.name_registry.proofs.LookedUp.{looked_anew}
use Rattle.name_registry.proofs.looking_up.look_up_anew.Goals as goal

pub returns-clause-looks : goal.returns-clause-looks
returns-clause-looks c a missed = looked_anew c.args.key a _ _ c.find_anew.result missed c.requires.may c.find_anew.ensures.found
