use Rattle.std.proofs.Common.{◌≡◌}
use Rattle.name_registry.specs.Common.{occupied}
use Rattle.name_registry.proofs.auditing.count_entries.Given as goal

-- the entries of the slots so far are counted
abbrev pub invariant-loop-t : goal.invariant-loop-t
invariant-loop-t l = l.count ≡ occupied l.keeper.keeper l.t
