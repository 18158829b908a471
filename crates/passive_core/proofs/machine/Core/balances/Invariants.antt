use Rattle.std.proofs.Common.{◌≡◌, map}
use Rattle.passive_core.specs.Common.{tallies_below}
use Rattle.registry_values.specs.Common.{tally_shown}
use Rattle.passive_core.proofs.machine.Core.balances.Given as goal

-- what is said of the slots so far
abbrev pub invariant-loop-t : goal.invariant-loop-t
invariant-loop-t l = map tally_shown l.list.items ≡ tallies_below l.self l.t
