-- A release on another CPU is refused, and takes nothing away.
use Rattle.c_callers.proofs.Releases.{elsewhere}
use Rattle.c_callers.proofs.references.release_elsewhere.Goals as goal

pub returns-clause-wrong : goal.returns-clause-wrong
returns-clause-wrong c = (elsewhere _ _ _ _ _ c.requires c.release.ensures).0

pub returns-clause-same : goal.returns-clause-same
returns-clause-same c = let had = elsewhere _ _ _ _ _ c.requires c.release.ensures in (had.1, had.2)
