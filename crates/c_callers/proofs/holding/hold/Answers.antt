-- The reference is of the registry of the keeper and the CPU as each of them releases it.
use Rattle.std.proofs.Common.{Some, ap, refl, ◌∙◌}
use Rattle.c_handles.specs.OnHandle.{held_by}
use Rattle.c_callers.proofs.Waits.{exited_here, here, of_cpu}
use Rattle.c_callers.proofs.Holds.{acquired_here, given_up_here, no_row, of_keeper, of_no_row, without_cpu}
use Rattle.c_callers.proofs.holding.hold.Goals as goal

pub release_local_locked-given_up-requires-clause-one : goal.release_local_locked-given_up-requires-clause-one
release_local_locked-given_up-requires-clause-one c = no_row c.args.nothing.value c.requires.nothing

pub release_local_locked-given_up-requires-clause-same : goal.release_local_locked-given_up-requires-clause-same
release_local_locked-given_up-requires-clause-same c = of_no_row c.of_handle-keeper.result.body c.args.nothing.value c.requires.nothing

pub release_local_locked-given_up-requires-clause-local : goal.release_local_locked-given_up-requires-clause-local
release_local_locked-given_up-requires-clause-local c =
    let w = c.args.keeper.value.words in
    let a = c.acquire_local-acquired in
    let cpu = c.of_handle-cpu.result.body in
    let first = here w cpu c.args.cpu.value (c.of_handle-cpu.ensures ∙ (c.of-4.ensures ∙ ap Some c.of-3.ensures)) c.requires.same in
    let acquired = acquired_here w cpu a.new.cpu.body c.args.entry.entry (held_by c.args.local.now) (held_by a.new.local) a.result.number first c.requires.empty a.ensures.call in
    of_keeper w c.of_handle-keeper.result.body (held_by a.new.local) c.args.keeper.value (c.of_handle-keeper.ensures ∙ (c.of-2.ensures ∙ ap Some c.of.ensures)) refl acquired.1

pub try_release_local-released-requires : goal.try_release_local-released-requires
try_release_local-released-requires c =
    let w = c.args.keeper.value.words in
    let a = c.acquire_local-acquired in
    let b = c.exit-exited in
    let d = c.release_local_locked-given_up in
    let k = c.of_handle-keeper.result.body in
    let cpu = c.of_handle-cpu.result.body in
    let first = here w cpu c.args.cpu.value (c.of_handle-cpu.ensures ∙ (c.of-4.ensures ∙ ap Some c.of-3.ensures)) c.requires.same in
    let acquired = acquired_here w cpu a.new.cpu.body c.args.entry.entry (held_by c.args.local.now) (held_by a.new.local) a.result.number first c.requires.empty a.ensures.call in
    let exited = exited_here w a.new.cpu.body b.new.cpu.body b.result acquired.0 b.ensures in
    let alone = without_cpu k d.new.keeper.body c.args.nothing.value d.result.cpus.value (held_by a.new.local) (held_by d.new.local) d.result.number c.requires.nothing d.ensures.call in
    of_cpu w b.new.cpu.body (held_by d.new.local) exited (given_up_here w k d.new.keeper.body (held_by a.new.local) (held_by d.new.local) d.result.number acquired.1 alone)
