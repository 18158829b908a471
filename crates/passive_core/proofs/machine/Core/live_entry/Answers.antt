use Rattle.std.proofs.Common.{sym, subst, ◌∙◌}
use Rattle.passive_core.specs.Common.{IsLookupNow}
use Rattle.protocol.specs.Common.{Holds}
use Rattle.passive_core.proofs.Attaching.{place_is, place_live, no_place_lookup}
use Rattle.passive_core.proofs.machine.Core.live_entry.Goals as goal

pub returns-in_err-t-clause-answer : goal.returns-in_err-t-clause-answer
returns-in_err-t-clause-answer c =
    subst (IsLookupNow c.args.self.now c.args.key) (sym c.from_residual.ensures)
    (no_place_lookup c.args.self.now c.args.key (subst Holds c.self.view_is c.self.invariant) (sym c.live_place.ensures.value ∙ c.in_err-t.was))

pub returns-in-Live-clause-answer : goal.returns-in-Live-clause-answer
returns-in-Live-clause-answer c =
    let on : Holds c.args.self.now = subst Holds c.self.view_is c.self.invariant in
    (place_is c.args.self.now c.args.key c.in_ok-t.t c.in-Live.entry on (sym c.live_place.ensures.value ∙ c.in_ok-t.was) (sym c.slot_at.ensures.value ∙ c.in-Live.is)).0

pub returns-in-Live-clause-live : goal.returns-in-Live-clause-live
returns-in-Live-clause-live c =
    let on : Holds c.args.self.now = subst Holds c.self.view_is c.self.invariant in
    (place_is c.args.self.now c.args.key c.in_ok-t.t c.in-Live.entry on (sym c.live_place.ensures.value ∙ c.in_ok-t.was) (sym c.slot_at.ensures.value ∙ c.in-Live.is)).1

pub returns-in_default : goal.returns-in_default
returns-in_default c =
    let on : Holds c.args.self.now = subst Holds c.self.view_is c.self.invariant in
    absurd (place_live c.args.self.now c.args.key c.in_ok-t.t c.slot_at.result on (sym c.live_place.ensures.value ∙ c.in_ok-t.was) c.slot_at.ensures.value c.in_default.not-Live)
