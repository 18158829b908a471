use Rattle.std.proofs.Common.{◌<◌, ◌≤◌, length, [], sym, subst, ◌∙◌, arith, rules}
use Rattle.std.proofs.lemmas.List.{get_or_read}
use Rattle.protocol.specs.Common.{Holds, passive_at}
use Rattle.passive_core.specs.Types.{TakeBack}
use Rattle.protocol.proofs.keeps.CountKeeps.{trying_tells}
use Rattle.passive_core.proofs.Entering.{step_left}
use Rattle.passive_core.proofs.machine.Core.step_take_back.Goals.{In-Trying}
use Rattle.passive_core.proofs.machine.Core.step_take_back.Goals as goal

-- the hand's CPU and slot are known, and the word isn't 0
tried : (c : In-Trying) → (c.args.c < c.args.self.now.settings.cpus) × (c.in-Trying.t < c.args.self.now.settings.slots) × (1 ≤ passive_at c.args.self.now.passive c.args.c c.in-Trying.t)
tried c = trying_tells c.args.self.now c.args.c c.in-Trying.t c.in-Trying.field-1 (subst Holds c.self.view_is c.self.invariant) (sym c.hand_at.ensures ∙ c.in-Trying.is)

pub passive_at-word-requires-clause-slot : goal.passive_at-word-requires-clause-slot
passive_at-word-requires-clause-slot c = (tried (goal.at.passive_at-word-requires-clause-slot c).In-Trying).1

pub passive_at-word-requires-clause-cpu : goal.passive_at-word-requires-clause-cpu
passive_at-word-requires-clause-cpu c = (tried (goal.at.passive_at-word-requires-clause-cpu c).In-Trying).0

pub overflow_sub-word : goal.overflow_sub-word
overflow_sub-word c = omega (arith, (tried (goal.at.overflow_sub-word c).In-Trying).2, c.passive_at-word.ensures)

pub index_mut-requires : goal.index_mut-requires
index_mut-requires c =
    let low : c.in-Trying.t < c.args.self.now.settings.slots = (tried (goal.at.index_mut-requires c).In-Trying).1 in
    search (rules, low)

pub invariant_of-self : goal.invariant_of-self
invariant_of-self c =
    let low : c.in-Trying.t < length c.self.inside.passive.items = search (rules, (tried (goal.at.invariant_of-self c).In-Trying).1) in
    let row = get_or_read c.self.inside.passive.items c.in-Trying.t c.index_mut.result.now low c.index_mut.ensures.value [] in
    step_left (TakeBack c.args.c) c.self.view_is c.self.invariant (rw (sym c.hand_at.ensures ∙ c.in-Trying.is, c.passive_at-word.ensures, row, ← c.self.view_is))
