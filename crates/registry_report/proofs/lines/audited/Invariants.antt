use Rattle.std.proofs.Common.{◌≡◌, map, take}
use Rattle.std.specs.Prelude.{string_bytes}
use Rattle.registry_values.specs.Common.{tally_shown}
use Rattle.registry_report.specs.Common.{balance_lines}
use Rattle.registry_report.proofs.lines.audited.Given as goal

-- the lines of the balances so far
abbrev pub invariant-loop-balance : goal.invariant-loop-balance
invariant-loop-balance l = string_bytes l.text ≡ balance_lines (map tally_shown (take l.balance-index l.balances))
