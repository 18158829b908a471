use Rattle.std.proofs.Common.{◌≡◌, drop}
use Rattle.registry_values.specs.Common.{are_zeros}
use Rattle.registry_values.proofs.name.are_zeros.Given as goal

-- zero bytes so far
abbrev pub invariant-loop-b : goal.invariant-loop-b
invariant-loop-b l = are_zeros (drop l.b-index l.bytes) ≡ are_zeros l.bytes
