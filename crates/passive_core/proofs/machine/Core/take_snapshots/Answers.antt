use Rattle.std.proofs.Common.{◌≡◌, ◌<◌, refl, sym, ap, subst, ◌∙◌, arith}
use Rattle.protocol.specs.Common.{Holds, State}
use Rattle.passive_core.proofs.Attaching.{snap_allowed, snap_turns, snapping, snapping_ends, snapping_starts}
use Rattle.passive_core.specs.Common.{Makes, snapshots_from}
use Rattle.passive_core.proofs.Making.{snapshots_make}
use Rattle.passive_core.proofs.machine.Core.take_snapshots.Goals as goal

pub loop-d-init : goal.loop-d-init
loop-d-init c = snapping_starts c.args.self.now c.args.t (subst Holds c.self.view_is c.self.invariant) c.requires.due c.requires.blank

pub make-requires-clause-allowed : goal.make-requires-clause-allowed
make-requires-clause-allowed c =
    let lt : c.loop-d.d < c.args.self.now.settings.cpus = omega (arith, c.loop-d-test.true, ap (λ (x : State). x.settings.cpus) c.self.view_is) in
    rw (snap_allowed c.args.self.now c.loop-d.self c.args.t c.loop-d.d lt c.loop-d.invariant) refl

pub loop-d-preserved : goal.loop-d-preserved
loop-d-preserved c =
    let on : Holds c.args.self.now = subst Holds c.self.view_is c.self.invariant in
    let lt : c.loop-d.d < c.args.self.now.settings.cpus = omega (arith, c.loop-d-test.true, ap (λ (x : State). x.settings.cpus) c.self.view_is) in
    snap_turns c.args.self.now c.loop-d.self c.make.new.self c.args.t c.loop-d.d c.make.result on c.requires.due lt c.loop-d.invariant c.make.ensures

pub returns-clause-after : goal.returns-clause-after
returns-clause-after c =
    let on : Holds c.args.self.now = subst Holds c.self.view_is c.self.invariant in
    let cpus : c.self.inside.settings.cpus ≡ c.args.self.now.settings.cpus = ap (λ (x : State). x.settings.cpus) c.self.view_is in
    let last : c.loop-d.d ≡ c.args.self.now.settings.cpus = omega (arith, c.loop-d-test.false, c.loop-d.auto.d-end, cpus) in
    c.loop-d.invariant ∙ (ap (snapping c.args.self.now c.args.t) last ∙ snapping_ends c.args.self.now c.args.t on)

pub returns-clause-made : goal.returns-clause-made
returns-clause-made c =
    let s = c.args.self.now in
    let on : Holds s = subst Holds c.self.view_is c.self.invariant in
    let cpus : c.self.inside.settings.cpus ≡ s.settings.cpus = ap (λ (x : State). x.settings.cpus) c.self.view_is in
    let last : c.loop-d.d ≡ s.settings.cpus = omega (arith, c.loop-d-test.false, c.loop-d.auto.d-end, cpus) in
    subst (Makes s (snapshots_from c.args.t 0 s.settings.cpus)) (sym (c.loop-d.invariant ∙ (ap (snapping s c.args.t) last ∙ snapping_ends s c.args.t on)))
    (snapshots_make s c.args.t on c.requires.due c.requires.blank)
