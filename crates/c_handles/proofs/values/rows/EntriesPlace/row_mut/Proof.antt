-- `row_mut` lends the row that the pointer is to.
use Rattle.std.proofs.Common.{refl, Some}
use Rattle.c_handles.specs.contracts.values.plain.CEntry.{the_row as entry_row}
use Rattle.c_handles.proofs.LentRow.{lent}
use Rattle.c_handles.specs.contracts.values.rows.EntriesPlace.{the_type as for_c}
use Rattle.c_handles.specs.contracts.values.rows.EntriesPlace.row_mut as f
use Rattle.c_handles.proofs.values.rows.EntriesPlace.row_mut.Statement.{statement}
use Rattle.c_handles.proofs.values.rows.EntriesPlace.row_mut.Code as code

pub row_mut_spec : {M : Type 1} → statement M
row_mut_spec 𝓤 𝓛 𝓜 𝓡 wired =
    lent for_c (λ p. (p.at, tt)) entry_row tt (λ p. p.value) (λ p xs. record { at = p.at; value = Some xs }) (λ p. refl) (λ p xs. refl) (λ p xs. refl) 𝓛 𝓜 𝓡 f.Key.name (code.unfolded 𝓤 𝓛.H 𝓜 𝓡 wired)
