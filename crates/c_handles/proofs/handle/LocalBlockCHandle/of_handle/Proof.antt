-- `of_handle` keeps the pointer.
use Rattle.std.proofs.Common.{refl}
use Rattle.c_handles.proofs.Turned.{turned}
use Rattle.c_handles.specs.contracts.heap.handle.Handle.{the_type as handle}
use Rattle.c_handles.specs.contracts.local_body.LocalBody.{the_row as body}
use Rattle.c_handles.specs.contracts.handle.LocalBlock.{the_type as for_c}
use Rattle.c_handles.specs.contracts.handle.LocalBlockCHandle.of_handle as f
use Rattle.c_handles.proofs.handle.LocalBlockCHandle.of_handle.Statement.{statement}
use Rattle.c_handles.proofs.handle.LocalBlockCHandle.of_handle.Code as code

pub of_handle_spec : {M : Type 1} → statement M
of_handle_spec 𝓤 𝓛 𝓜 𝓡 wired = turned (handle body) for_c (λ h. (h.at, tt)) (λ h. (h.at, tt)) 𝓛 𝓜 𝓡 (λ h. record { at = h.at; body = h.body })
    (λ h. refl) (λ h. refl) (f.clauses 𝓛 𝓜.mem 𝓡.returns) (λ y. (_, refl, refl)) f.Key.name (code.unfolded 𝓤 𝓛.H 𝓜 𝓡 wired)
