use Rattle.std.proofs.Common.{◌≡◌, ◌<◌, ◌≤◌, ℕ, true, false}
use Rattle.protocol.specs.Common.{mark_at}
use Rattle.passive_core.specs.Common.{MarksClear, has_passive, MakesOnly, IsPassiveLookFor}
use Rattle.passive_core.proofs.machine.Core.look_at_passive.Given as goal

-- the CPUs so far are clear, and only marks for the slot have changed
abbrev pub invariant-loop-c : goal.invariant-loop-c
invariant-loop-c l = record {
  only : l.self ≡ record l.fn.self { marks = l.self.marks };
  marks : MarksClear l.fn.self.marks l.self.marks l.t;
  made : MakesOnly (IsPassiveLookFor l.t) l.fn.self l.self;
  above : (d : ℕ) → l.c ≤ d → mark_at l.self.marks l.t d ≡ mark_at l.fn.self.marks l.t d;
  clear : (d : ℕ) → d < l.c → (mark_at l.self.marks l.t d).clear ≡ true;
  none : (d : ℕ) → d < l.c → has_passive l.fn.self l.t d ≡ false;
}
