use Rattle.std.proofs.Common.{length, refl, sym, ap, subst, ◌∙◌}
use Rattle.protocol.specs.Common.{State, Holds, hand_at, live_at, may_confirm}
use Rattle.registry_values.specs.Common.{slot_at}
use Rattle.passive_core.specs.Common.{state_shown}
use Rattle.passive_core.specs.Types.{Confirm, Word}
use Rattle.protocol.proofs.keeps.CountKeeps.{trying_tells}
use Rattle.protocol.proofs.keeps.Keeping.{step_holds}
use Rattle.passive_core.proofs.machine.Core.confirm.Goals as goal

pub may_confirm-requires : goal.may_confirm-requires
may_confirm-requires c = (trying_tells c.args.self.now c.args.c c.args.t c.args.number (subst Holds c.self.view_is c.self.invariant) c.requires).0

pub live_at-word-requires : goal.live_at-word-requires
live_at-word-requires c = (trying_tells c.args.self.now c.args.c c.args.t c.args.number (subst Holds c.self.view_is c.self.invariant) c.requires).1

pub invariant_of-self : goal.invariant_of-self
invariant_of-self c =
    let hand = ap (λ (x : State). hand_at x c.args.c) c.self.view_is ∙ c.requires in
    let test = ap (λ (x : State). may_confirm x c.args.c c.args.number (slot_at x.slots c.args.t)) c.self.view_is ∙ (sym c.may_confirm.ensures ∙ c.if-not-may_confirm.false) in
    let word = c.live_at-word.ensures ∙ ap (λ (x : State). live_at x.lives c.args.t) (sym c.self.view_is) in
    let now = c.changes-now.ensures.value ∙ ap (λ (x : State). length x.history) (sym c.self.view_is) in
    step_holds (state_shown c.self.inside) _ (Confirm c.args.c) (Word c.live_at-word.result) c.self.invariant (rw (hand, test, word, now) refl)
