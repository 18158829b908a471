-- The block's reference is taken, and there is no share.
use Rattle.std.proofs.Common.{◌≡◌, None, false, refl}
use Rattle.c_handles.specs.Bodies.{local_of}
use Rattle.c_handles.specs.OnHandle.{OnHandle}
use Rattle.c_handles.proofs.OnHandle.{no_share, of_block}
use Rattle.c_handles.proofs.local_handle.LocalHandle.take_own.Goals as goal

pub returns : goal.returns
returns c =
    let h = c.self.inside in
    let i : OnHandle = (h.entry, h.block, h.share) in
    let body = c.in_ok-taken.taken.0 in
    let had = c.in_ok-taken.ensures.body in
    let none : h.share.body ≡ None = no_share h.block.body h.share.body h.entry body c.self.invariant had in
    (record { held = body; copied = false }, of_block c.args.self.now i body c.self.view_is had, refl, λ t. local_of (c.take.ensures.empty t) (none t))
