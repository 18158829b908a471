-- The reference is released, or is put behind the handle again.
use Rattle.std.proofs.Common.{◌≡◌, Some, false, subst, sym}
use Rattle.passive_list.specs.Common.{OnPlainCpu}
use Rattle.c_handles.specs.declared.values.plain.TheConstants.{DONE}
use Rattle.c_handles.specs.Bodies.{OnLocalBody}
use Rattle.c_handles.specs.OnHandle.{held_by}
use Rattle.c_calls.specs.LocalCalls.{LocalReleases}
use Rattle.c_calls.proofs.Counted.{come_back, went}
use Rattle.c_calls.proofs.locals.release_own.Goals as goal

pub returns-in-None : goal.returns-in-None
returns-in-None c v held =
    subst (λ (b : OnPlainCpu). LocalReleases c.args.cpu.now v b DONE (held_by c.args.local.now)) (sym c.keep_room.ensures)
    (went c.args.cpu.now c.args.reference c.release_local.new.cpu c.release_local.result v (held_by c.args.local.now) c.release_local.ensures c.in-None.is held c.requires.empty)

pub returns-in-Some : goal.returns-in-Some
returns-in-Some c v held =
    let given = subst (λ (b : OnLocalBody). held_by c.give.new.self ≡ Some (record { held = b; copied = false })) c.entry-entry.ensures.same c.give.ensures in
    come_back c.args.cpu.now c.args.reference c.release_local.new.cpu c.release_local.result c.in-Some.back v _ c.release_local.ensures c.in-Some.is held given
