use Rattle.std.proofs.Common.{◌≡◌, ◌∙◌, ap, arith, subst}
use Rattle.protocol.specs.Common.{State, Holds}
use Rattle.passive_core.specs.Common.{tallies_below}
use Rattle.passive_core.proofs.Audits.{audit_right, tallies_more, tallies_none}
use Rattle.passive_core.proofs.machine.Core.balances.Goals as goal
use Rattle.passive_core.proofs.machine.Core.balances.Goals.{in-Vacant, in-Live+in_ok-balance-in-Live+in_ok-push-in-Live}

pub returns-clause-tally : goal.returns-clause-tally
returns-clause-tally c =
    let end : c.loop-t.t ≡ c.args.self.now.settings.slots = omega (arith, c.loop-t-test.false, c.loop-t.auto.t-end, ap (λ (x : State). x.settings.slots) c.self.view_is) in
    audit_right c.args.self.now c.loop-t.list.items (subst Holds c.self.view_is c.self.invariant) c.requires (c.loop-t.invariant ∙ ap (tallies_below c.args.self.now) end)

pub loop-t-preserved : goal.loop-t-preserved
loop-t-preserved c = elim c.match-slot_at.branch [
  | in-Vacant w ↦ rw w.list-is (tallies_none c.args.self.now c.loop-t.t c.slot_at.result c.loop-t.list.items c.slot_at.ensures.value w.in-Vacant.is c.loop-t.invariant)
  | in-Live+in_ok-balance-in-Live+in_ok-push-in-Live w ↦
      rw (w.list-is, w.in_ok-push-in-Live.ensures.items) (tallies_more c.args.self.now c.loop-t.t c.slot_at.result w.in-Live.entry c.loop-t.list.items w.in_ok-balance-in-Live.field-0
      c.slot_at.ensures.value w.in-Live.is c.loop-t.invariant w.in_ok-balance-in-Live.ensures)
]
