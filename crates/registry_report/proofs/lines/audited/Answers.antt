-- `audited`: that each turn of its loop keeps the invariants.
use Rattle.std.proofs.Common.{List, ℕ, ◌++◌, ◌∙◌, ap, map, sym, take}
use Rattle.registry_values.specs.Common.{tally_shown}
use Rattle.registry_report.specs.Types.{Balance}
use Rattle.registry_report.specs.Common.{balance_line, balance_lines}
use Rattle.registry_report.proofs.Written.{lines_step}
use Rattle.registry_report.proofs.lines.audited.Goals as goal

pub loop-balance-preserved : goal.loop-balance-preserved
loop-balance-preserved c =
    let so_far = balance_lines (map tally_shown (take c.loop-balance.balance-index c.args.balances.now)) in
    c.in_ok-push_str.ensures.bytes
    ∙ (ap (λ (z : List ℕ). z ++ c.deref.result.now) c.loop-balance.invariant
    ∙ (ap (λ (z : List ℕ). so_far ++ z) (c.deref.ensures ∙ c.in_ok-line.ensures.line)
    ∙ (ap (λ (b : Balance). so_far ++ balance_line (tally_shown b)) c.balance-item.is
    ∙ sym (lines_step tally_shown c.args.balances.now c.loop-balance.balance-index c.balance-item.result c.loop-balance-test.true))))
