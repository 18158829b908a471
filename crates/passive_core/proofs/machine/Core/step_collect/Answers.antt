use Rattle.std.proofs.Common.{◌<◌, length, [], sym, ◌∙◌, rules}
use Rattle.std.proofs.lemmas.List.{get_or_read}
use Rattle.passive_core.specs.Types.{Collect}
use Rattle.passive_core.proofs.Entering.{step_left}
use Rattle.passive_core.proofs.machine.Core.step_collect.Goals as goal

pub invariant_of-self : goal.invariant_of-self
invariant_of-self c =
    let low : c.args.t < length c.self.inside.counts.items = search rules in
    let row = get_or_read c.self.inside.counts.items c.args.t c.index_mut.result.now low c.index_mut.ensures.value [] in
    let low2 : c.args.t < length c.self.inside.marks.items = search rules in
    let row2 = get_or_read c.self.inside.marks.items c.args.t c.index_mut-2.result.now low2 c.index_mut-2.ensures.value [] in
    step_left (Collect c.args.t c.args.c) c.self.view_is c.self.invariant
    (rw (sym c.may_collect.ensures.value ∙ c.if-not-may_collect.false, c.collected.ensures, c.count_at-word.ensures, c.mark_at-mark.ensures, row, row2, ← c.self.view_is))
