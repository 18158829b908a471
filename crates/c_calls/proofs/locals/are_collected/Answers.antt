-- The entry is retired in the slot, and the marks are looked at.
use Rattle.std.proofs.Common.{◌≡◌, ◌+◌, ◌&&◌, true, ap, sym, ◌∙◌, arith}
use Rattle.c_calls.specs.Types.{Mark, Settings}
use Rattle.registry_values.specs.Common.{is_retired_as}
use Rattle.c_calls.specs.LocalCalls.{some_collected}
use Rattle.c_calls.proofs.Collected.{some_now, some_stays}
use Rattle.c_calls.proofs.locals.are_collected.Goals as goal

pub returns-then-mark : goal.returns-then-mark
returns-then-mark c =
    let k = c.args.keeper.now.keeper in
    let t = c.args.slot in
    let some : some_collected k t c.args.keeper.now.words.settings.cpus ≡ true =
    some_stays k t (c.loop-cpu.cpu + 1) c.args.keeper.now.words.settings.cpus (omega (arith, c.loop-cpu-test.true, ap (λ (z : Settings). z.cpus) c.settings-cpus.ensures.value))
    (some_now k t c.loop-cpu.cpu (ap (λ (m : Mark). m.collected) (sym c.mark.ensures) ∙ c.if-mark.true)) in
    sym (λ i. (ap (is_retired_as c.args.number) (sym c.slot.ensures) ∙ (sym c.is_retired_as.ensures ∙ c.if-not-is_retired_as.false)) i && some i)
