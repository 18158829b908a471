-- `handle_mut` lends what the pointer is to.
use Rattle.std.proofs.Common.{refl, Some}
use Rattle.c_handles.specs.contracts.handle.KeeperHandle.{the_row as keeper_row}
use Rattle.c_handles.proofs.Lent.{lent_tests, lent}
use Rattle.c_handles.specs.contracts.keeper_place.KeeperPlace.{the_type as for_c}
use Rattle.c_handles.specs.contracts.keeper_place.KeeperPlace.handle_mut as f
use Rattle.c_handles.proofs.keeper_place.KeeperPlace.handle_mut.Statement.{statement}
use Rattle.c_handles.proofs.keeper_place.KeeperPlace.handle_mut.Code as code

pub handle_mut_spec : {M : Type 1} → statement M
handle_mut_spec 𝓤 𝓛 𝓜 𝓡 wired = lent _ lent_tests for_c (λ p. (p.at, tt)) keeper_row (λ p. p.value) (λ p x. record { at = p.at; value = Some x }) (λ p. refl) (λ p x. refl)
    (λ p x. refl) 𝓛 𝓜 𝓡 f.Key.name (code.unfolded 𝓤 𝓛.H 𝓜 𝓡 wired)
