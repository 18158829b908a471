use Rattle.std.proofs.Common.{◌≡◌, drop}
use Rattle.registry_values.specs.Common.{value_of}
use Rattle.registry_values.proofs.id.value_of.Given as goal

-- what the digits so far said, with the others
abbrev pub invariant-loop-digit : goal.invariant-loop-digit
invariant-loop-digit l = value_of l.value (drop l.digit-index l.digits) ≡ value_of l.first l.digits
