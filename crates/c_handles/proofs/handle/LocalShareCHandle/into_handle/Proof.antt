-- `into_handle` keeps the pointer.
use Rattle.std.proofs.Common.{refl}
use Rattle.c_handles.proofs.Turned.{turned}
use Rattle.c_handles.specs.contracts.heap.handle.Handle.{the_type as handle}
use Rattle.c_handles.specs.contracts.copy_body.CopyBody.{the_row as body}
use Rattle.c_handles.specs.contracts.handle.LocalShare.{the_type as for_c}
use Rattle.c_handles.specs.contracts.handle.LocalShareCHandle.into_handle as f
use Rattle.c_handles.proofs.handle.LocalShareCHandle.into_handle.Statement.{statement}
use Rattle.c_handles.proofs.handle.LocalShareCHandle.into_handle.Code as code

pub into_handle_spec : {M : Type 1} → statement M
into_handle_spec 𝓤 𝓛 𝓜 𝓡 wired = turned for_c (handle body) (λ h. (h.at, tt)) (λ h. (h.at, tt)) 𝓛 𝓜 𝓡 (λ h. record { at = h.at; body = h.body })
    (λ h. refl) (λ h. refl) (f.clauses 𝓛 𝓜.mem 𝓡.returns) (λ y. (_, refl, refl)) f.Key.name (code.unfolded 𝓤 𝓛.H 𝓜 𝓡 wired)
