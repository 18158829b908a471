-- The CPUs lent are those of the row.
use Rattle.std.proofs.Common.{◌≡◌, List, Some, sym, ap, ◌∙◌, subst}
use Rattle.c_handles.specs.declared.handle.CpuHandle.{CpuHandle}
use Rattle.c_handles.specs.declared.rows.CpusPlace.{CpusPlace}
use Rattle.c_calls.specs.Opening.{bodies_of, body_at}
use Rattle.c_handles.specs.values.Places.{row_in}
use Rattle.c_calls.proofs.audit.audit_into.Goals as goal

pub audit_list-requires-clause-same : goal.audit_list-requires-clause-same
audit_list-requires-clause-same c = λ i b at.
    let is = sym (ap row_in c.row_mut.ensures.value) ∙ ap (λ (p : CpusPlace). row_in p.value) c.is_null.ensures.0 in
    c.requires.same i b (subst (λ (hs : List CpuHandle). body_at (bodies_of hs) i ≡ Some b) is at)
