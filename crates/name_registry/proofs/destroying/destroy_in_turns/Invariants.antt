use Rattle.std.proofs.Common.{◌≡◌, ℕ, suc, Ok}
use Rattle.name_registry.specs.Common.{LastMeeting}
use Rattle.name_registry.proofs.destroying.destroy_in_turns.Given as goal

-- as many turns were made as the counter says, and the last one met this stage
abbrev pub invariant-loop : goal.invariant-loop
invariant-loop g l = (n : ℕ) × (suc n ≡ l.counter) × LastMeeting (g.I.AdvancesUnderInterlock.advances l.number) n l.fn.cpu (Ok l.stage) l.cpu
