-- `is_null` compares the pointer with null.
use Rattle.std.proofs.Common.{refl}
use base.Fraction.{full_share}
use Rattle.c_handles.specs.contracts.handle.CpuHandle.{the_row as cpu_row}
use Rattle.c_handles.proofs.LentRow.{asked}
use Rattle.c_handles.specs.contracts.rows.CpusPlace.{the_type as for_c}
use Rattle.c_handles.specs.contracts.rows.CpusPlace.is_null as f
use Rattle.c_handles.proofs.rows.CpusPlace.is_null.Statement.{statement}
use Rattle.c_handles.proofs.rows.CpusPlace.is_null.Code as code

pub is_null_spec : {M : Type 1} → statement M
is_null_spec 𝓤 𝓛 𝓜 𝓡 wired = asked for_c (λ p. (p.at, tt)) cpu_row (λ p. full_share) (λ p. p.value) (λ p. refl) 𝓛 (f.clauses 𝓛 𝓜.mem 𝓡.returns)
    (λ y. (_, refl, (refl, refl))) 𝓜 𝓡 f.Key.name (code.unfolded 𝓤 𝓛.H 𝓜 𝓡 wired)
