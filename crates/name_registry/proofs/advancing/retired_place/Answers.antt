use Rattle.std.proofs.Common.{◌∙◌, sym}
use Rattle.passive_list.proofs.Rows.{keeper_is}
use Rattle.name_registry.proofs.Worked.{retired_in_rows, place_works}
use Rattle.name_registry.proofs.advancing.retired_place.Goals as goal

pub returns-in-Some-clause-value : goal.returns-in-Some-clause-value
returns-in-Some-clause-value c = sym c.in-Some.is ∙ (c.place_retired_as.ensures ∙ retired_in_rows c.args.number c.rows.result.now _ c.args.keeper.now.keeper (keeper_is c.rows.ensures.are))

pub returns-in-Some-clause-works : goal.returns-in-Some-clause-works
returns-in-Some-clause-works c = place_works _ _ _ _ _ c.args.number c.in-Some.slot c.rows.ensures.agree c.rows.ensures.are (sym c.place_retired_as.ensures ∙ c.in-Some.is)

pub returns-in-None-clause-value : goal.returns-in-None-clause-value
returns-in-None-clause-value c = sym c.in-None.is ∙ (c.place_retired_as.ensures ∙ retired_in_rows c.args.number c.rows.result.now _ c.args.keeper.now.keeper (keeper_is c.rows.ensures.are))
