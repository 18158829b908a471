use Rattle.std.proofs.Common.{◌≡◌, ◌≤◌, vec_len, vec_capacity}
use Rattle.registry_values.specs.declared.limits.TheConstants.{MOST_CPUS}
use Rattle.registry_storm.proofs.baskets.Baskets.new.Given as goal

-- as many places as were counted, and room for the others
abbrev pub invariant-loop : goal.invariant-loop
invariant-loop g l = (vec_len l.places ≡ l.counter) × (MOST_CPUS ≤ vec_capacity l.places)
