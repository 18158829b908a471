use Rattle.std.specs.Prelude.{◌≡◌, ◌≢◌, ◌+◌, ◌≤◌, None}
use Rattle.registry_examples.specs.{answers_in, total_of}
use Rattle.registry_examples.proofs.packet_loop.Bus.look_up_all.Given as goal

-- the section stays open, and no lookup changes the registry; each packet that is counted was searched for
abbrev pub invariant-loop : goal.invariant-loop
invariant-loop g l = (l.cpu.view.begin ≢ None) × (l.cpu.made ≡ l.fn.cpu.made) × (total_of l.tally + answers_in l.fn.cpu.log ≤ total_of l.fn.tally + answers_in l.cpu.log)
