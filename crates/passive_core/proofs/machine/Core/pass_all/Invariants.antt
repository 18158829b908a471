use Rattle.std.proofs.Common.{◌≡◌, ◌<◌, ℕ, true}
use Rattle.protocol.specs.Common.{AllPassed}
use Rattle.passive_core.specs.Common.{OnlyPasses, IsWaiting, MakesOnly}
use Rattle.registry_values.specs.Common.{is_retired, slot_at}
use Rattle.passive_core.proofs.machine.Core.pass_all.Given as goal

-- every CPU has passed for the retired entries so far
abbrev pub invariant-loop-t : goal.invariant-loop-t
invariant-loop-t l = record {
  only : OnlyPasses l.fn.self l.self;
  passed : (u : ℕ) → u < l.t → is_retired (slot_at l.fn.self.slots u) ≡ true → AllPassed l.self u;
  made : MakesOnly IsWaiting l.fn.self l.self;
}
