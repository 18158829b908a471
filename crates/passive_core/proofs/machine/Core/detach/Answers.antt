use Rattle.std.proofs.Common.{refl, sym, subst}
use Rattle.passive_core.specs.Types.{Key}
use Rattle.registry_values.proofs.Answers.{handed_on}
use Rattle.passive_core.specs.Common.{IsDetachAnswer}
use Rattle.protocol.specs.Common.{Holds}
use Rattle.passive_core.proofs.Entering.{acting_idle}
use Rattle.passive_core.proofs.Attaching.{detached_is, detached_ready, detached_settings, found_live, refused_rightly, snapped_idle, snapped_told, unlinked_blank}
use Rattle.passive_core.proofs.Making.{detach_makes}
use Rattle.passive_core.proofs.machine.Core.detach.Goals as goal

pub retire-requires-clause-idle : goal.retire-requires-clause-idle
retire-requires-clause-idle c = acting_idle c.args.self.now c.args.c (subst Holds c.self.view_is c.self.invariant) c.requires.known c.requires.ready

pub take_snapshots-requires-clause-blank : goal.take_snapshots-requires-clause-blank
take_snapshots-requires-clause-blank c =
    let on : Holds c.args.self.now = subst Holds c.self.view_is c.self.invariant in
    unlinked_blank c.args.self.now c.retire.new.self c.in_ok-entry.entry on
    (found_live c.args.self.now c.live_entry.result c.in_ok-entry.entry c.in_ok-entry.ensures.found.1 c.live_entry.ensures.live) c.in_ok-retire.ensures.ok

pub make-requires-2-clause-allowed : goal.make-requires-2-clause-allowed
make-requires-2-clause-allowed c =
    let idle = acting_idle c.args.self.now c.args.c (subst Holds c.self.view_is c.self.invariant) c.requires.known c.requires.ready in
    let told = snapped_told c.args.self.now c.retire.new.self c.take_snapshots.new.self c.make.new.self c.in_ok-entry.entry c.make.result c.in_ok-retire.ensures.ok c.take_snapshots.ensures.after
    c.make.ensures in
    rw (snapped_idle c.args.self.now c.make.new.self c.in_ok-entry.entry c.args.c told idle) refl

pub returns-clause-settings : goal.returns-clause-settings
returns-clause-settings c =
    let idle = acting_idle c.args.self.now c.args.c (subst Holds c.self.view_is c.self.invariant) c.requires.known c.requires.ready in
    let told = snapped_told c.args.self.now c.retire.new.self c.take_snapshots.new.self c.make.new.self c.in_ok-entry.entry c.make.result c.in_ok-retire.ensures.ok c.take_snapshots.ensures.after
    c.make.ensures in
    let is = detached_is c.args.self.now c.make.new.self c.make-2.new.self c.in_ok-entry.entry c.args.c c.make-2.result told idle c.make-2.ensures in
    detached_settings c.args.self.now c.make-2.new.self c.in_ok-entry.entry c.args.c is

pub returns-clause-ready : goal.returns-clause-ready
returns-clause-ready c =
    let on : Holds c.args.self.now = subst Holds c.self.view_is c.self.invariant in
    let idle = acting_idle c.args.self.now c.args.c on c.requires.known c.requires.ready in
    let told = snapped_told c.args.self.now c.retire.new.self c.take_snapshots.new.self c.make.new.self c.in_ok-entry.entry c.make.result c.in_ok-retire.ensures.ok c.take_snapshots.ensures.after
    c.make.ensures in
    let is = detached_is c.args.self.now c.make.new.self c.make-2.new.self c.in_ok-entry.entry c.args.c c.make-2.result told idle c.make-2.ensures in
    detached_ready c.args.self.now c.make-2.new.self c.in_ok-entry.entry c.args.c on is

pub returns-in_err-entry-clause-answer : goal.returns-in_err-entry-clause-answer
returns-in_err-entry-clause-answer c =
    let f = c.in_err-entry.field-0.0 in
    let key : Key = record { kind = c.args.kind; name = c.args.name.now } in
    subst (IsDetachAnswer c.args.self.now c.args.c key) (sym (handed_on c.from_residual.result f c.from_residual.ensures.0 c.from_residual.ensures.1))
    (refused_rightly c.args.self.now c.args.c key c.inside.result c.live_entry.result f (sym c.inside.ensures) c.live_entry.ensures.answer c.in_err-entry.ensures.value)

pub returns-clause-made : goal.returns-clause-made
returns-clause-made c =
    let s = c.args.self.now in
    let e = c.in_ok-entry.entry in
    let on : Holds s = subst Holds c.self.view_is c.self.invariant in
    let idle = acting_idle s c.args.c on c.requires.known c.requires.ready in
    detach_makes s c.retire.new.self c.take_snapshots.new.self c.make.new.self c.make-2.new.self e c.args.c c.make.result c.make-2.result on c.requires.rest idle
    (found_live s c.live_entry.result e c.in_ok-entry.ensures.found.1 c.live_entry.ensures.live)
    c.in_ok-retire.ensures.ok c.take_snapshots.ensures.made c.make.ensures c.make-2.ensures
