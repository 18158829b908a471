-- What the second of two releases returns, and what both take away.
use Rattle.std.proofs.Common.{subst}
use Rattle.c_callers.proofs.Releases.{ReleasesBy, once, second}
use Rattle.c_callers.proofs.references.release_twice.Goals as goal

pub returns-clause-empty : goal.returns-clause-empty
returns-clause-empty c = second _ _ _ _ _ _ _ _ c.release-first.ensures c.release-second.ensures

pub returns-clause-once : goal.returns-clause-once
returns-clause-once c a is =
    once a _ _ _ _ _ _ _ (subst (λ o. ReleasesBy o c.release-first.new.cpu.body c.release-first.result c.args.reference.now c.release-first.new.reference) is c.release-first.ensures) c.release-second.ensures
