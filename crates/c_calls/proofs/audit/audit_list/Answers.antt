-- Without a list the audit writes to none.
use Rattle.std.proofs.Common.{sym, ap, ◌∙◌}
use Rattle.c_handles.specs.declared.values.rows.BalancesPlace.{BalancesPlace}
use Rattle.c_calls.specs.Opening.{bodies_of}
use Rattle.c_calls.proofs.Audited.{without_list}
use Rattle.c_calls.proofs.audit.audit_list.Goals as goal

pub returns-clause-call : goal.returns-clause-call
returns-clause-call c =
    let it = c.audit_body-2 in
    let e = it.ensures in
    without_list c.args.keeper.now it.new.keeper it.result (bodies_of c.args.cpus.now)
    (bodies_of it.new.cpus) c.args.room c.args.list.now.value c.is_null.new.self.value it.new.list c.args.length.now.value it.new.length.value
    (sym c.is_null.ensures.1 ∙ c.if-not-is_null.false) (ap (λ (p : BalancesPlace). p.value) c.is_null.ensures.0) c.if-room-ne0.false it.auto.list
    (record { words = e.keeper.0; keeper = e.keeper.1; cpus = e.cpus; notes = e.notes; told = e.told; unchanged = e.unchanged; answer = e.answer })
