use Rattle.std.proofs.Common.{◌<◌, length, [], sym, ◌∙◌, rules}
use Rattle.std.proofs.lemmas.List.{get_or_read}
use Rattle.passive_core.specs.Types.{PassiveAdd}
use Rattle.passive_core.proofs.Entering.{step_left}
use Rattle.passive_core.proofs.machine.Core.step_passive_add.Goals as goal

pub invariant_of-self : goal.invariant_of-self
invariant_of-self c =
    let low : c.in-Some.t < length c.self.inside.passive.items = search rules in
    let row = get_or_read c.self.inside.passive.items c.in-Some.t c.index_mut.result.now low c.index_mut.ensures.value [] in
    step_left (PassiveAdd c.args.c c.args.number) c.self.view_is c.self.invariant
    (rw (sym c.in-Some.ensures.value, sym c.may_add.ensures ∙ c.if-not-may_add.false, c.passive_at-word.ensures, row, ← c.self.view_is))
