use Rattle.std.proofs.Common.{◌≡◌, map}
use Rattle.name_registry.specs.Common.{AreTold, tally_met}
use Rattle.name_registry.proofs.auditing.write_balances.Given as goal

-- the balances of the slots so far are written
abbrev pub invariant-loop-t : goal.invariant-loop-t
invariant-loop-t g l = (l.cpus ≡ l.fn.cpus)
    × AreTold g.W.WritesBalance.shown (λ n t. g.W.WritesBalance.kept (tally_met l.keeper.keeper (map g.C.ReachesCpu.cpu l.fn.cpus) n t)) l.keeper.keeper l.t l.at l.fn.list l.list
