use Rattle.std.proofs.Common.{◌≡◌, ℕ, ◌+◌, None, sym, ap, subst, ◌∙◌, arith}
use Rattle.protocol.specs.Common.{Holds, held_at, total_at}
use Rattle.registry_values.specs.Common.{bias, slot_at, stage_of}
use Rattle.passive_core.specs.Types.{Stage}
use Rattle.passive_core.specs.Common.{Settles, IsWork, MakesOnly}
use Rattle.passive_core.proofs.Advancing.{drained_from, gathered_total, gathered_words, settled_free, settled_held}
use Rattle.protocol.proofs.Occupied.{is_retired_tells}
use Rattle.passive_core.proofs.Making.{only_none}
use Rattle.passive_core.proofs.machine.Core.settle.Goals as goal

pub overflow_sub-held : goal.overflow_sub-held
overflow_sub-held c =
    let s = c.args.self.now in
    let on : Holds s = subst Holds c.self.view_is c.self.invariant in
    let e = is_retired_tells (slot_at s.slots c.args.t) c.requires.retired in
    omega (arith, gathered_total s c.args.t e.0 on c.requires.rest e.1 c.requires.collected, c.total_at-held.ensures)

pub returns-then-held-ne0-clause-stage : goal.returns-then-held-ne0-clause-stage
returns-then-held-ne0-clause-stage c = λ e is.
    let s = c.args.self.now in
    let on : Holds s = subst Holds c.self.view_is c.self.invariant in
    let k : ℕ = held_at s.locals s.hands s.keeps s.due e.number c.args.t in
    let total : total_at s.totals c.args.t ≡ bias + k = gathered_total s c.args.t e on c.requires.rest is c.requires.collected in
    c.settled-stage.ensures ∙ ap (stage_of c.args.t None None) (omega (arith, total, c.total_at-held.ensures))

pub returns-then-held-ne0-clause-after : goal.returns-then-held-ne0-clause-after
returns-then-held-ne0-clause-after c =
    let s = c.args.self.now in
    let on : Holds s = subst Holds c.self.view_is c.self.invariant in
    let e = is_retired_tells (slot_at s.slots c.args.t) c.requires.retired in
    let total = gathered_total s c.args.t e.0 on c.requires.rest e.1 c.requires.collected in
    subst (Settles s s c.args.t) (sym c.settled-stage.ensures) (settled_held s c.args.t _ c.if-held-ne0.true (omega (arith, total, c.total_at-held.ensures)))

pub returns-then-held-ne0-clause-emptied : goal.returns-then-held-ne0-clause-emptied
returns-then-held-ne0-clause-emptied c = gathered_words c.args.self.now c.args.t (subst Holds c.self.view_is c.self.invariant) c.requires.retired c.requires.collected

pub free-requires-clause-drained : goal.free-requires-clause-drained
free-requires-clause-drained c =
    let s = c.args.self.now in
    let on : Holds s = subst Holds c.self.view_is c.self.invariant in
    let e = is_retired_tells (slot_at s.slots c.args.t) c.requires.retired in
    let total = gathered_total s c.args.t e.0 on c.requires.rest e.1 c.requires.collected in
    drained_from s c.args.t c.requires.rest c.requires.retired c.requires.passed c.requires.clear c.requires.collected (omega (arith, total, c.total_at-held.ensures, c.if-held-ne0.false))

pub returns-clause-stage : goal.returns-clause-stage
returns-clause-stage c = λ e is.
    let s = c.args.self.now in
    let on : Holds s = subst Holds c.self.view_is c.self.invariant in
    let k : ℕ = held_at s.locals s.hands s.keeps s.due e.number c.args.t in
    let total : total_at s.totals c.args.t ≡ bias + k = gathered_total s c.args.t e on c.requires.rest is c.requires.collected in
    c.settled-stage.ensures ∙ ap (stage_of c.args.t None None) (omega (arith, total, c.total_at-held.ensures))

pub returns-clause-after : goal.returns-clause-after
returns-clause-after c =
    subst (Settles c.args.self.now c.free.new.self c.args.t) (sym c.settled-stage.ensures) (settled_free c.args.self.now c.free.new.self c.args.t _ c.if-held-ne0.false c.free.ensures.after)

pub returns-clause-emptied : goal.returns-clause-emptied
returns-clause-emptied c = gathered_words c.args.self.now c.args.t (subst Holds c.self.view_is c.self.invariant) c.requires.retired c.requires.collected

pub returns-then-held-ne0-clause-made : goal.returns-then-held-ne0-clause-made
returns-then-held-ne0-clause-made c = only_none (IsWork c.settled-stage.result c.args.t) c.args.self.now

pub returns-clause-made : goal.returns-clause-made
returns-clause-made c =
    subst (λ (x : Stage). MakesOnly (IsWork x c.args.t) c.args.self.now c.free.new.self) (sym (c.settled-stage.ensures ∙ ap (stage_of c.args.t None None) c.if-held-ne0.false)) c.free.ensures.made
