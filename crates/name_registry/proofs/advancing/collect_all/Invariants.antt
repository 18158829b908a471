use Rattle.std.proofs.Common.{◌≡◌}
use Rattle.name_registry.specs.Common.{HasWorkedFor, CollectedBelow}
use Rattle.name_registry.proofs.advancing.collect_all.Given as goal

-- the words of the CPUs so far are collected
abbrev pub invariant-loop-cpu : goal.invariant-loop-cpu
invariant-loop-cpu l = record {
  words : l.keeper.words ≡ l.fn.keeper.words;
  leaves : HasWorkedFor l.fn.keeper.keeper l.slot l.keeper.keeper;
  collected : CollectedBelow l.keeper.keeper.view l.slot l.cpu;
}
