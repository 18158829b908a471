-- `LiveSession::give_back`: its clauses `released`, `locals` and `ended`.
use Rattle.registry_live.proofs.Ended.{all_ended, still}
use Rattle.registry_live.proofs.Labelled.{released_later}
use Rattle.registry_live.proofs.session.LiveSession.give_back.Goals as goal

pub returns-clause-released : goal.returns-clause-released
returns-clause-released g c =
    let stays = still _ _ _ c.release_locals.ensures.locals in
    released_later _ _ _ _ stays.0 stays.1 c.release_passives.ensures.released

pub returns-clause-locals : goal.returns-clause-locals
returns-clause-locals g c = (c.release_locals.new.cpus, c.release_locals.ensures.locals, c.release_passives.ensures.only)

pub returns-clause-ended : goal.returns-clause-ended
returns-clause-ended g c = all_ended _ _ _ _ c.release_locals.ensures.locals c.release_passives.ensures.only
