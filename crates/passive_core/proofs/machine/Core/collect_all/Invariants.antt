use Rattle.std.proofs.Common.{◌≡◌, ◌<◌, ℕ, true}
use Rattle.protocol.specs.Common.{mark_at}
use Rattle.passive_core.specs.Common.{Gathers, IsCollectionFor, MakesOnly}
use Rattle.passive_core.proofs.machine.Core.collect_all.Given as goal

-- the words of the CPUs so far are collected
abbrev pub invariant-loop-c : goal.invariant-loop-c
invariant-loop-c l = record {
  gathered : Gathers l.fn.self l.self l.t;
  made : MakesOnly (IsCollectionFor l.t) l.fn.self l.self;
  collected : (d : ℕ) → d < l.c → (mark_at l.self.marks l.t d).collected ≡ true;
}
