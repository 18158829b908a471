-- `body_mut` lends what the pointer is to.
use Rattle.std.proofs.Common.{refl, Some}
use Rattle.c_handles.proofs.Lent.{token_tests, lent}
use Rattle.c_handles.specs.contracts.local_body.LocalBody.{the_row as body}
use Rattle.c_handles.specs.contracts.handle.LocalBlock.{the_type as for_c}
use Rattle.c_handles.specs.contracts.handle.LocalBlockCHandle.body_mut as f
use Rattle.c_handles.proofs.handle.LocalBlockCHandle.body_mut.Statement.{statement}
use Rattle.c_handles.proofs.handle.LocalBlockCHandle.body_mut.Code as code

pub body_mut_spec : {M : Type 1} → statement M
body_mut_spec 𝓤 𝓛 𝓜 𝓡 wired = lent _ (token_tests body) for_c (λ h. (h.at, tt)) body (λ h. h.body) (λ h x. record { at = h.at; body = Some x }) (λ h. refl) (λ h x. refl)
    (λ h x. refl) 𝓛 𝓜 𝓡 f.Key.name (code.unfolded 𝓤 𝓛.H 𝓜 𝓡 wired)
