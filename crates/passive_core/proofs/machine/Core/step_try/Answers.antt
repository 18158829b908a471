use Rattle.std.proofs.Common.{◌<◌, length, [], sym, ◌∙◌, rules}
use Rattle.std.proofs.lemmas.List.{get_or_read}
use Rattle.passive_core.specs.Types.{Try}
use Rattle.passive_core.proofs.Entering.{step_left}
use Rattle.passive_core.proofs.machine.Core.step_try.Goals as goal

pub invariant_of-self : goal.invariant_of-self
invariant_of-self c =
    let low : c.args.t < length c.self.inside.passive.items = search rules in
    let row = get_or_read c.self.inside.passive.items c.args.t c.index_mut.result.now low c.index_mut.ensures.value [] in
    step_left (Try c.args.c c.args.t c.args.number) c.self.view_is c.self.invariant (rw (sym c.may_try.ensures.value ∙ c.if-not-may_try.false, c.passive_at-word.ensures, row, ← c.self.view_is))
