use Rattle.std.proofs.Common.{◌≡◌, ℕ, true, false, slice_index_or}
use Rattle.protocol.specs.Common.{is_inside}
use Rattle.passive_core.specs.Common.{AreSeen}
use Rattle.passive_core.proofs.machine.Core.wait_for_sections.Given as goal

-- nothing has changed, and who is outside is known
abbrev pub invariant-loop : goal.invariant-loop
invariant-loop l = record {
  same : l.self ≡ l.fn.self;
  seen : AreSeen l.fn.self l.seen;
  sound : (c : ℕ) → slice_index_or l.seen c false ≡ true → is_inside l.fn.self c ≡ false;
}
