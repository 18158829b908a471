-- What is behind the handle is released.
use Rattle.std.proofs.Common.{refl}
use Rattle.c_calls.specs.LocalCalls.{LocalReleases}
use Rattle.c_calls.proofs.Counted.{through}
use Rattle.c_calls.proofs.locals.release_rest.Goals as goal

pub returns-in-Reference : goal.returns-in-Reference
returns-in-Reference c =
    let taken = c.in-Reference.ensures.taken in
    through _ _ _ _ _ (λ x v y l. LocalReleases x v y c.release_own.result l) c.in-Some.body.now c.release_own.new.cpu taken.0 c.in-Some.ensures.value taken.1 refl (c.release_own.ensures taken.0 taken.2)
