use Rattle.passive_core.specs.Common.{all_seated, FindMakes}
use Rattle.protocol.specs.Common.{search_at}
use Rattle.passive_core.proofs.Entering.{Walks, left}
use Rattle.passive_core.proofs.machine.Core.find.Given as goal

-- the walk of this lookup
abbrev pub invariant-walk : goal.invariant-walk
invariant-walk l = Walks (all_seated l.fn.self) l.self l.c (record { kind = l.fn.kind; name = l.fn.name }) × FindMakes l.fn.self l.self l.c (record { kind = l.fn.kind; name = l.fn.name })

abbrev pub decreases-walk : goal.decreases-walk
decreases-walk l = left l.self (search_at l.self l.c)
