-- What one turn says by itself, of what went before.
use Rattle.c_calls.proofs.Waits.{ends_sections}
use Rattle.registry_c.proofs.turn_exports.kupaldiz_perform_turn.Goals as goal

pub returns-clause-ended : goal.returns-clause-ended
returns-clause-ended c = ends_sections _ _ _ _ _ _ _ _ _ c.perform_turn.ensures.call
