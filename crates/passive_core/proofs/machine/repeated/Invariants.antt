use Rattle.std.proofs.Common.{◌≡◌, replicate}
use Rattle.passive_core.proofs.machine.repeated.Given as goal

-- the items so far
abbrev pub invariant-loop : goal.invariant-loop
invariant-loop g l = l.list.items ≡ replicate l.counter l.item
