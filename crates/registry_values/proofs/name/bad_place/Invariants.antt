use Rattle.std.proofs.Common.{◌≡◌, drop}
use Rattle.registry_values.specs.Common.{bad_place}
use Rattle.registry_values.proofs.name.bad_place.Given as goal

-- no bad byte so far
abbrev pub invariant-loop-i : goal.invariant-loop-i
invariant-loop-i l = bad_place l.i (drop l.i l.bytes) ≡ bad_place 0 l.bytes
