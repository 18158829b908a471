-- What the arguments ask for is looked up. Where they ask for nothing, nothing has changed.
use Rattle.std.proofs.Common.{Some, refl, sym, ap, subst, ◌∙◌}
use Rattle.passive_list.specs.Common.{OnPlainCpu}
use Rattle.name_registry.specs.LookingUp.{LooksFast}
use Rattle.c_handles.specs.declared.values.answer.EntryAnswer.{EntryAnswer}
use Rattle.c_calls.proofs.Asked.{asks_bad, asks_good, missed_for, same_for}
use Rattle.c_calls.proofs.lookups.look_up_rest.Goals as goal

pub returns-in-Ok-clause-call : goal.returns-in-Ok-clause-call
returns-in-Ok-clause-call c a missed =
    let had = missed_for LooksFast c.args.kind c.args.given c.in-Ok.key a c.args.cpu.now _ c.in-Ok.ensures.value refl missed in
    asks_good c.args.kind (Some c.args.given) c.in-Ok.key _ _ _ _ c.in-Ok.ensures.value refl (c.look_up_key.ensures.call a (sym had.1) had.0)

pub returns-in-Err-clause-call : goal.returns-in-Err-clause-call
returns-in-Err-clause-call c a missed =
    let same = same_for LooksFast c.args.kind c.args.given c.in-Err.number a c.args.cpu.now _ c.in-Err.ensures.value refl missed in
    asks_bad c.args.kind (Some c.args.given) c.in-Err.number _ _ _ _ c.in-Err.ensures.value refl (ap (λ (r : EntryAnswer). r.number) c.answer.ensures) (same, ap (λ (r : EntryAnswer). r.place.value) c.answer.ensures)
