use Rattle.std.proofs.Common.{◌≡◌}
use Rattle.name_registry.specs.Common.{HasLookedFor, LooksBelow, PassedBelow}
use Rattle.name_registry.proofs.advancing.look_at_all.Given as goal

-- the CPUs so far have passed, and looks alone were made
abbrev pub invariant-loop-cpu : goal.invariant-loop-cpu
invariant-loop-cpu l = record {
  words : l.keeper.words ≡ l.fn.keeper.words;
  leaves : HasLookedFor l.fn.keeper.keeper l.slot l.keeper.keeper;
  passed : PassedBelow l.keeper.keeper.view l.slot l.cpu;
  looks : LooksBelow l.cpu l.fn.keeper.keeper l.slot l.keeper.keeper;
}
