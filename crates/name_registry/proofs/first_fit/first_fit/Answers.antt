use Rattle.std.proofs.Common.{◌∙◌, ap, position, sym, take}
use Rattle.name_registry.specs.Types.{Settings}
use Rattle.passive_list.proofs.Rows.{keeper_is}
use Rattle.name_registry.specs.Common.{is_available_row}
use Rattle.name_registry.proofs.Worked.{first_fit_in_rows}
use Rattle.name_registry.proofs.first_fit.first_fit.Goals as goal

pub returns-in-Some-clause-value : goal.returns-in-Some-clause-value
returns-in-Some-clause-value c = sym c.in-Some.is ∙ (c.first_fit_place.ensures.value
    ∙ (ap (λ (z : Settings). position is_available_row (take z.slots c.rows.result.now)) c.settings.ensures.value
    ∙ first_fit_in_rows _ _ _ _ c.args.keeper.now.keeper c.rows.ensures.agree (keeper_is c.rows.ensures.are)))

pub returns-in-None-clause-value : goal.returns-in-None-clause-value
returns-in-None-clause-value c = sym c.in-None.is ∙ (c.first_fit_place.ensures.value
    ∙ (ap (λ (z : Settings). position is_available_row (take z.slots c.rows.result.now)) c.settings.ensures.value
    ∙ first_fit_in_rows _ _ _ _ c.args.keeper.now.keeper c.rows.ensures.agree (keeper_is c.rows.ensures.are)))
