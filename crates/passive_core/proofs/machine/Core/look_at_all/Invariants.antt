use Rattle.std.proofs.Common.{◌≡◌, ◌<◌, ◌≤◌, ℕ, true, false}
use Rattle.protocol.specs.Common.{mark_at}
use Rattle.passive_core.specs.Common.{MarksPass, is_open_since, MakesOnly, IsLookFor}
use Rattle.passive_core.proofs.machine.Core.look_at_all.Given as goal

-- the CPUs so far have passed, and only marks for the slot have changed
abbrev pub invariant-loop-c : goal.invariant-loop-c
invariant-loop-c l = record {
  only : l.self ≡ record l.fn.self { marks = l.self.marks };
  marks : MarksPass l.fn.self.marks l.self.marks l.t;
  made : MakesOnly (IsLookFor l.t) l.fn.self l.self;
  above : (d : ℕ) → l.c ≤ d → mark_at l.self.marks l.t d ≡ mark_at l.fn.self.marks l.t d;
  passed : (d : ℕ) → d < l.c → (mark_at l.self.marks l.t d).passed ≡ true;
  closed : (d : ℕ) → d < l.c → is_open_since l.fn.self l.t d ≡ false;
}
