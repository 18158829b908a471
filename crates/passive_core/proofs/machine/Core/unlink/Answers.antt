use Rattle.std.proofs.Common.{get_or, refl, sym, ap, ◌∙◌}
use Rattle.protocol.specs.Common.{State, at_rest}
use Rattle.registry_values.specs.Common.{slot_at, slot_before}
use Rattle.passive_core.specs.Common.{state_shown}
use Rattle.passive_core.specs.Types.{Unpublish, Done}
use Rattle.protocol.proofs.keeps.Keeping.{step_holds}
use Rattle.passive_core.proofs.machine.Core.unlink.Goals as goal
use Rattle.passive_core.proofs.machine.Core.unlink.Goals.{in-Some, in-None}

pub invariant_of-self-2 : goal.invariant_of-self-2
invariant_of-self-2 c =
    let live = ap (λ (x : State). slot_at x.slots c.args.t) c.self.view_is ∙ c.requires.live in
    let rest = ap (λ (x : State). at_rest x.due) c.self.view_is ∙ c.requires.rest in
    let link = c.link_at-link.ensures ∙ ap (λ (x : State). get_or x.next c.args.t 0) (sym c.self.view_is) in
    let before = c.slot_before-before.ensures.value ∙ ap (λ (x : State). slot_before x.slots x.next c.args.t) (sym c.self.view_is) in
    elim c.match-before.branch [
      | in-Some w ↦
          let some = sym before ∙ w.in-Some.is in
          rw w.self-inside-is (step_holds (state_shown c.self.inside) _ (Unpublish c.args.t) Done c.self.invariant (rw (live, rest, some, c.in_ok-grow.ensures.ok, link) refl))
      | in-None w ↦
          let none = sym before ∙ w.in-None.is in
          rw w.self-inside-is (step_holds (state_shown c.self.inside) _ (Unpublish c.args.t) Done c.self.invariant (rw (live, rest, none, c.in_ok-grow.ensures.ok, link) refl))
    ]

pub returns : goal.returns
returns c =
    let rest = c.requires.rest in
    let link = sym c.link_at-link.ensures in
    let before = sym c.slot_before-before.ensures.value in
    elim c.match-before.branch [
      | in-Some w ↦ rw (w.self-inside-is, c.requires.live, rest, before ∙ w.in-Some.is, link, ← c.self.view_is, c.in_ok-grow.ensures.ok) refl
      | in-None w ↦ rw (w.self-inside-is, c.requires.live, rest, before ∙ w.in-None.is, link, ← c.self.view_is, c.in_ok-grow.ensures.ok) refl
    ]
