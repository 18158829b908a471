use Rattle.std.proofs.Common.{◌≡◌, ◌<◌, ℕ, map}
use Rattle.name_registry.proofs.Lent.{IsHere}
use Rattle.name_registry.proofs.auditing.are_all.Given as goal

-- those so far are here, and all are as before
abbrev pub invariant-loop-c : goal.invariant-loop-c
invariant-loop-c g l = (l.cpus ≡ l.fn.cpus) × ((k : ℕ) → k < l.c → IsHere (map g.C.ReachesCpu.table l.fn.cpus) (map g.C.ReachesCpu.cpu l.fn.cpus) k)
