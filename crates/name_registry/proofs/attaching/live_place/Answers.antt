use Rattle.std.proofs.Common.{◌∙◌, position, sym, ap}
use Rattle.registry_values.specs.Common.{is_live_as}
use Rattle.passive_list.specs.Common.{OnKeeper}
use Rattle.passive_list.proofs.Rows.{keeper_is}
use Rattle.name_registry.proofs.Attached.{keeper_shows, place_tells, no_place}
use Rattle.name_registry.proofs.Worked.{live_in_rows}
use Rattle.name_registry.proofs.attaching.live_place.Goals as goal

pub returns-in-Some-clause-lookup : goal.returns-in-Some-clause-lookup
returns-in-Some-clause-lookup c =
    let at = ap (λ (x : OnKeeper). position (is_live_as c.args.key) x.slots) (sym (keeper_is c.rows.ensures.are)) ∙ (live_in_rows c.args.key c.rows.result.now ∙ sym c.in-Some.ensures.value) in
    place_tells c.args.keeper.now.keeper c.args.key c.in-Some.slot (keeper_shows _ _ _ _ c.args.keeper.now.keeper c.rows.ensures.agree (keeper_is c.rows.ensures.are)) at

pub returns-in-None-clause-lookup : goal.returns-in-None-clause-lookup
returns-in-None-clause-lookup c =
    let at = ap (λ (x : OnKeeper). position (is_live_as c.args.key) x.slots) (sym (keeper_is c.rows.ensures.are)) ∙ (live_in_rows c.args.key c.rows.result.now ∙ sym c.in-None.ensures.value) in
    no_place c.args.keeper.now.keeper c.args.key (keeper_shows _ _ _ _ c.args.keeper.now.keeper c.rows.ensures.agree (keeper_is c.rows.ensures.are)) at
