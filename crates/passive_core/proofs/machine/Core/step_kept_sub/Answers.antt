use Rattle.std.proofs.Common.{sym, ap, subst, ◌∙◌, arith}
use Rattle.protocol.specs.Common.{Holds, is_iface_slot}
use Rattle.passive_core.specs.Types.{KeptSub}
use Rattle.passive_core.proofs.Entering.{step_left}
use Rattle.passive_core.proofs.machine.Core.step_kept_sub.Goals as goal
use Rattle.protocol.proofs.counts.Bounds.{driver_positive}

pub overflow_sub-total : goal.overflow_sub-total
overflow_sub-total c = omega (
  arith,
  driver_positive c.args.self.now c.args.t c.in-Some.number c.in-Some-slot_of.driver (subst Holds c.self.view_is c.self.invariant)
      (sym c.in-Some.ensures.value) (sym c.in-Some-slot_of.ensures.value) (sym c.is_drained.ensures.value ∙ c.if-not-is_drained.false),
  c.total_at-total.ensures,
)

pub invariant_of-self : goal.invariant_of-self
invariant_of-self c =
    step_left (KeptSub c.args.t) c.self.view_is c.self.invariant
    (rw (
      sym c.in-Some.ensures.value,
      sym c.in-Some-slot_of.ensures.value,
      ap is_iface_slot (sym c.slot_at.ensures.value) ∙ (sym c.is_iface_slot.ensures ∙ c.if-not-is_iface_slot.false),
      sym c.is_drained.ensures.value ∙ c.if-not-is_drained.false,
      c.total_at-total.ensures,
      ← c.self.view_is,
    ))
