-- A reference in a block of its own is released.
use Rattle.std.proofs.Common.{refl}
use Rattle.c_calls.specs.LocalCalls.{LocalReleases}
use Rattle.c_calls.proofs.Counted.{through}
use Rattle.c_calls.proofs.locals.try_release_local.Goals as goal

pub returns-in-Some-take_own : goal.returns-in-Some-take_own
returns-in-Some-take_own c =
    let taken = c.in-Some-take_own.ensures in
    through _ _ _ _ _ (λ x v y l. LocalReleases x v y c.release_own.result l) c.in-Some.body.now c.release_own.new.cpu taken.0 c.in-Some.ensures.value taken.1 refl (c.release_own.ensures taken.0 taken.2)
