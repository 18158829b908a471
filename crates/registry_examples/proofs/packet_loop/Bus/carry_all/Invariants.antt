use Rattle.std.specs.Prelude.{◌≡◌, ◌≤◌}
use Rattle.registry_examples.specs.{answers_in, total_of}
use Rattle.registry_examples.proofs.packet_loop.Bus.carry_all.Given as goal

-- no batch changes the registry; each packet that is counted was searched for
abbrev pub invariant-loop : goal.invariant-loop
invariant-loop g l = (l.cpu.made ≡ l.fn.cpu.made) × (total_of l.tally ≤ answers_in l.cpu.log)
