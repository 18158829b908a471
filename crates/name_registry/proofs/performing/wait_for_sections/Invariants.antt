use Rattle.std.proofs.Common.{◌≡◌, ℕ, suc}
use Rattle.name_registry.specs.Common.{LastTurn, none_seen}
use Rattle.name_registry.proofs.performing.wait_for_sections.Given as goal

-- as many turns were made as the counter says, and this is the result of the last
abbrev pub invariant-loop : goal.invariant-loop
invariant-loop g l = (n : ℕ) × (suc n ≡ l.counter) × LastTurn (g.I.UnderInterlock.glances l.snapshots) n l.fn.cpu none_seen l.waited l.cpu l.seen
