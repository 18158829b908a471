use Rattle.std.proofs.Common.{◌<◌, length, [], sym, ◌∙◌, rules}
use Rattle.std.proofs.lemmas.List.{get_or_read}
use Rattle.passive_core.specs.Types.{PassiveLook}
use Rattle.passive_core.proofs.Entering.{step_left}
use Rattle.passive_core.proofs.machine.Core.step_passive_look.Goals as goal

pub invariant_of-self : goal.invariant_of-self
invariant_of-self c =
    let low : c.args.t < length c.self.inside.marks.items = search rules in
    let row = get_or_read c.self.inside.marks.items c.args.t c.index_mut.result.now low c.index_mut.ensures.value [] in
    step_left (PassiveLook c.args.t c.args.c) c.self.view_is c.self.invariant
    (rw (sym c.may_look_passive.ensures.value ∙ c.if-not-may_look_passive.false, c.cleared.ensures, c.passive_at-word.ensures, c.mark_at-mark.ensures, row, ← c.self.view_is))
