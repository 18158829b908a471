use Rattle.std.proofs.Common.{◌≡◌, ◌<◌, ℕ, true, false, slice_index_or}
use Rattle.registry_values.proofs.mark.first_unseen.Given as goal

-- the CPUs so far were seen
abbrev pub invariant-loop-c : goal.invariant-loop-c
invariant-loop-c l = (d : ℕ) → d < l.c → slice_index_or l.seen d false ≡ true
