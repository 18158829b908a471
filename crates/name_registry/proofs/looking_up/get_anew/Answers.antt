-- A lookup that finds nothing is the answer. After another one the get follows.
use Rattle.std.proofs.Common.{ap, not, ◌∙◌}
use Rattle.passive_list.proofs.ByMemory.{nothing, something}
use Rattle.name_registry.proofs.LookedUp.{found_anew, missed_anew}
use Rattle.name_registry.proofs.looking_up.get_anew.Goals as goal

pub returns-then-is_none-clause-gets : goal.returns-then-is_none-clause-gets
returns-then-is_none-clause-gets c =
    let e = c.find_by_memory.ensures in
    missed_anew c.args.key _ _ c.find_by_memory.result (nothing _ (c.is_none.ensures ∙ ap not c.if-is_none.true)) e.found e.stays e.kept

pub returns-clause-gets : goal.returns-clause-gets
returns-clause-gets c =
    let e = c.find_by_memory.ensures in
    found_anew c.args.key _ _ _ c.find_by_memory.result _ (something _ (c.is_none.ensures ∙ ap not c.if-is_none.false)) e.found e.stays e.kept c.get_found.ensures.gets
