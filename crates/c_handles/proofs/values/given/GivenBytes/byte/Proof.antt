-- `byte` copies one of the bytes that the pointer is to.
use Rattle.std.proofs.Common.{refl}
use base.Logic.{id⊢}
use Rattle.c_handles.proofs.ReadByte.{read}
use Rattle.c_handles.specs.contracts.values.given.GivenBytes.{the_type as for_c}
use Rattle.c_handles.specs.contracts.values.given.GivenBytes.byte as f
use Rattle.c_handles.proofs.values.given.GivenBytes.byte.Statement.{statement}
use Rattle.c_handles.proofs.values.given.GivenBytes.byte.Code as code

pub byte_spec : {M : Type 1} → statement M
byte_spec 𝓤 𝓛 𝓜 𝓡 wired = read for_c (λ g. (g.at, tt)) (λ g. g.share) (λ g. g.bytes) (λ g. refl) 𝓛 (f.clauses 𝓛 𝓜.mem 𝓡.returns) (λ y. id⊢ 𝓤 _)
    (λ y. (_, refl, (refl, refl))) 𝓜 𝓡 f.Key.name (code.unfolded 𝓤 𝓛.H 𝓜 𝓡 wired)
