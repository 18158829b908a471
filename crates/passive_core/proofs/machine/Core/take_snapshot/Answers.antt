use Rattle.std.proofs.Common.{◌<◌, length, [], Some, sym, ◌∙◌, rules}
use Rattle.std.proofs.lemmas.List.{get_or_read}
use Rattle.passive_core.specs.Types.{Snapshot}
use Rattle.passive_core.proofs.Entering.{step_left}
use Rattle.passive_core.proofs.machine.Core.take_snapshot.Goals as goal

pub invariant_of-self : goal.invariant_of-self
invariant_of-self c =
    let low : c.args.t < length c.self.inside.marks.items = search rules in
    let row = get_or_read c.self.inside.marks.items c.args.t c.index_mut.result.now low c.index_mut.ensures.value [] in
    step_left (Snapshot (Some c.args.t) c.args.c) c.self.view_is c.self.invariant
    (rw (sym c.is_snapshot_due.ensures.value ∙ c.if-not-is_snapshot_due.false, c.section_at-word.ensures.value, c.due_after-due.ensures, row, ← c.self.view_is))
