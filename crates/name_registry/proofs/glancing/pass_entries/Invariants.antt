use Rattle.std.proofs.Common.{◌≡◌}
use Rattle.name_registry.specs.Common.{PassesBelow}
use Rattle.name_registry.proofs.glancing.pass_entries.Given as goal

-- the entries so far were looked at
abbrev pub invariant-loop-slot : goal.invariant-loop-slot
invariant-loop-slot l = (l.keeper.words ≡ l.fn.keeper.words) × PassesBelow l.words.settings l.retired l.slot l.fn.keeper.keeper l.keeper.keeper
