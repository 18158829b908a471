-- What is told of one entry.
use Rattle.std.proofs.Common.{ap, ◌∙◌, arith, length, map, take}
use Rattle.std.proofs.lemmas.Int.{ints}
use Rattle.registry_values.specs.Common.{less_bias}
use Rattle.passive_list.proofs.Rows.{keeper_is}
use Rattle.name_registry.proofs.Audits.{has, tally_is}
use Rattle.name_registry.proofs.auditing.write_balance.Goals as goal

pub bounds-rows-t : goal.bounds-rows-t
bounds-rows-t g c =
    omega (arith, (has _ _ _ _ _ _ _ c.rows.ensures.agree (keeper_is c.rows.ensures.are) c.requires.entry).within, c.rows.ensures.agree.rows.size)

pub less_bias-total-requires : goal.less_bias-total-requires
less_bias-total-requires g c =
    let had = has _ _ _ _ _ _ _ c.rows.ensures.agree (keeper_is c.rows.ensures.are) c.requires.entry in
    omega (arith, c.total_or_bias.ensures ∙ had.total, had.high)

pub read_locals-requires-clause-entry : goal.read_locals-requires-clause-entry
read_locals-requires-clause-entry g c =
    let had = has _ _ _ _ _ _ _ c.rows.ensures.agree (keeper_is c.rows.ensures.are) c.requires.entry in
    (had.few, had.begun)

pub overflow_add-held : goal.overflow_add-held
overflow_add-held g c =
    let had = has _ _ _ _ _ _ _ c.rows.ensures.agree (keeper_is c.rows.ensures.are) c.requires.entry in
    omega (arith, ints, c.total_or_bias.ensures ∙ had.total, had.low, had.high, c.less_bias-total.ensures, c.sum.ensures.least, c.sum.ensures.most)

pub returns-clause-tally : goal.returns-clause-tally
returns-clause-tally g c =
    let had = has _ _ _ _ _ _ _ c.rows.ensures.agree (keeper_is c.rows.ensures.are) c.requires.entry in
    let read = c.total_or_bias.ensures ∙ had.total in
    let total = c.less_bias-total.ensures ∙ ap less_bias read in
    let locals = ap (λ us. take (length us) c.read_locals.new.row) c.read_locals.ensures.cpus ∙ c.read_locals.ensures.value in
    c.write.ensures ∙ ap g.W.WritesBalance.kept
    (tally_is c.args.keeper.now.keeper (map g.C.ReachesCpu.cpu c.args.cpus.now) c.args.number c.args.t _ _ _ locals (omega (arith, ints, total, c.less_bias-total.type_inv))
    (omega (arith, ints, c.sum.ensures.value, read, had.low, had.high, c.less_bias-total.ensures, c.sum.ensures.least, c.sum.ensures.most)))
