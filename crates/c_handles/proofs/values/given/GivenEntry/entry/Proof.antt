-- `entry` copies what the pointer is to.
use Rattle.std.proofs.Common.{refl}
use Rattle.c_handles.proofs.Given.{given}
use Rattle.c_handles.specs.contracts.values.plain.CEntry.{the_row as row}
use Rattle.c_handles.proofs.values.plain.CEntry.TheLaws.{the_row_copy, the_row_laws}
use Rattle.c_handles.specs.contracts.values.given.GivenEntry.{the_type as for_c}
use Rattle.c_handles.specs.contracts.values.given.GivenEntry.entry as f
use Rattle.c_handles.proofs.values.given.GivenEntry.entry.Statement.{statement}
use Rattle.c_handles.proofs.values.given.GivenEntry.entry.Code as code

pub entry_spec : {M : Type 1} → statement M
entry_spec {M} 𝓤 𝓛 𝓜 𝓡 wired =
    given for_c (λ g. (g.at, tt)) row (λ g. g.share) (λ g. g.entry) (λ g. refl) refl 𝓛 (the_row_copy.copies M 𝓤 𝓛) (the_row_laws.lawful 𝓛) (f.clauses 𝓛 𝓜.mem 𝓡.returns)
    (λ y. (_, refl, (refl, refl))) 𝓜 𝓡 f.Key.name (code.unfolded 𝓤 𝓛.H 𝓜 𝓡 wired)
