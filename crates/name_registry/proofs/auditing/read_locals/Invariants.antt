use Rattle.std.proofs.Common.{◌≡◌, map}
use Rattle.name_registry.proofs.Lent.{AreLocals}
use Rattle.name_registry.proofs.auditing.read_locals.Given as goal

-- the counts of the CPUs so far are there
abbrev pub invariant-loop-c : goal.invariant-loop-c
invariant-loop-c g l = (l.cpus ≡ l.fn.cpus) × AreLocals l.keeper.keeper l.t l.number (map g.C.ReachesCpu.cpu l.fn.cpus) l.c l.row
