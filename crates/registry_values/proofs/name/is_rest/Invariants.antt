use Rattle.std.proofs.Common.{◌≡◌, drop}
use Rattle.registry_values.specs.Common.{is_rest}
use Rattle.registry_values.proofs.name.is_rest.Given as goal

-- letters and digits so far
abbrev pub invariant-loop-i : goal.invariant-loop-i
invariant-loop-i l = is_rest (drop l.i l.bytes) ≡ is_rest l.bytes
