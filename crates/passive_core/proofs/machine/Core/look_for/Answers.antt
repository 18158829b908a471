use Rattle.std.proofs.Common.{◌<◌, length, [], Some, sym, ◌∙◌, rules}
use Rattle.std.proofs.lemmas.List.{get_or_read}
use Rattle.passive_core.specs.Types.{Look}
use Rattle.passive_core.proofs.Entering.{step_left}
use Rattle.passive_core.proofs.machine.Core.look_for.Goals as goal

pub invariant_of-self : goal.invariant_of-self
invariant_of-self c =
    let low : c.args.t < length c.self.inside.marks.items = search rules in
    let row = get_or_read _ _ _ low c.index_mut.ensures.value [] in
    step_left (Look (Some c.args.t) c.args.c) c.self.view_is c.self.invariant
    (rw (sym c.may_examine.ensures.value ∙ c.if-not-may_examine.false, c.looked.ensures, c.section_at-word.ensures.value, c.mark_at-mark.ensures, row, ← c.self.view_is))
