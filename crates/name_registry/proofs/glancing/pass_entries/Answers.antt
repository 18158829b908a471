-- Past the table's slots nothing is passed.
use Rattle.std.proofs.Common.{ap, arith}
use Rattle.name_registry.specs.Types.{MOST_SLOTS, Settings}
use Rattle.registry_values.proofs.Fit.{ranges}
use Rattle.name_registry.proofs.Passed.{none_retired, passes_past}
use Rattle.name_registry.proofs.glancing.pass_entries.Goals as goal

pub returns-clause-passes : goal.returns-clause-passes
returns-clause-passes c =
    let l = c.loop-slot in
    let own = c.settings-slot-end.ensures.own in
    let slots = ap (λ (z : Settings). z.slots) c.settings-slot-end.ensures.value in
    let few = (ranges c.args.keeper.now.words.settings own.1.agree.view.fit).slots in
    passes_past c.args.words.now.settings c.args.retired.now l.slot c.args.keeper.now.keeper l.keeper.keeper l.invariant.1
    (λ t past. none_retired c.args.keeper.now own.0 t own.1 (omega (arith, past, c.loop-slot-test.false, slots)))
    MOST_SLOTS (omega (arith, l.auto.slot-end, slots, few))
