use Rattle.std.proofs.Common.{◌<◌, length, [], sym, subst, ◌∙◌, arith, rules}
use Rattle.std.proofs.lemmas.List.{get_or_read}
use Rattle.protocol.specs.Common.{Holds}
use Rattle.passive_core.specs.Types.{CountAdd}
use Rattle.passive_core.proofs.Entering.{step_left}
use Rattle.passive_core.proofs.machine.Core.step_count_add.Goals as goal
use Rattle.protocol.proofs.counts.Bounds.{counted_room}

pub overflow_add-word : goal.overflow_add-word
overflow_add-word c = omega (
  arith,
  counted_room c.args.self.now c.args.c c.in-Some-slot_of.t c.in-Some.found (subst Holds c.self.view_is c.self.invariant)
      (sym c.in-Some.ensures.value) (sym c.in-Some-slot_of.ensures.value),
  c.count_at-word.ensures,
)

pub invariant_of-self : goal.invariant_of-self
invariant_of-self c =
    let low : c.in-Some-slot_of.t < length c.self.inside.counts.items = search rules in
    let row = get_or_read c.self.inside.counts.items c.in-Some-slot_of.t c.index_mut.result.now low c.index_mut.ensures.value [] in
    let low2 : c.in-Some-slot_of.t < length c.self.inside.nets.items = search rules in
    let row2 = get_or_read c.self.inside.nets.items c.in-Some-slot_of.t c.index_mut-2.result.now low2 c.index_mut-2.ensures.value [] in
    step_left (CountAdd c.args.c) c.self.view_is c.self.invariant
    (rw (
      sym c.in-Some.ensures.value,
      sym c.in-Some-slot_of.ensures.value,
      sym c.may_count.ensures ∙ c.if-not-may_count.false,
      c.count_at-word.ensures,
      c.net_at-net.ensures,
      row,
      row2,
      ← c.self.view_is,
    ))
