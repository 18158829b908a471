use Rattle.std.proofs.Common.{◌≤◌, ◌*◌}
use Rattle.registry_examples.specs.{MakesAtMost, frees_in}
use Rattle.registry_examples.proofs.packet_loop.Bus.plug_all.Given as goal

-- so far each plug was freed, and no more was changed than an attach and a detach for each
abbrev pub invariant-loop-plug : goal.invariant-loop-plug
invariant-loop-plug g l = (l.plug ≤ frees_in l.cpu.known_log) × MakesAtMost (2 * l.plug) l.fn.cpu l.cpu
