-- The block's reference is taken, or the share is given up.
use Rattle.std.proofs.Common.{Some, false, ap, refl, sym, subst, ◌∙◌}
use Rattle.c_handles.specs.declared.taken.LocalTaken.{LocalTaken}
use Rattle.c_handles.specs.OnHandle.{OnHandle, held_by}
use Rattle.c_handles.specs.Taken.{IsTaken}
use Rattle.c_handles.proofs.OnHandle.{of_block, of_nothing, of_share, taken_share}
use Rattle.c_handles.proofs.local_handle.LocalHandle.take.Goals.{in-None, in-Some-take}
use Rattle.c_handles.proofs.local_handle.LocalHandle.take.Goals as goal

pub returns-in-Some-clause-taken : goal.returns-in-Some-clause-taken
returns-in-Some-clause-taken c =
    let i : OnHandle = (c.self.inside.entry, c.self.inside.block, c.self.inside.share) in
    (record { held = c.in-Some.body; copied = false }, of_block c.args.self.now i c.in-Some.body c.self.view_is c.in-Some.ensures.body, refl)

pub returns-clause-taken : goal.returns-clause-taken
returns-clause-taken c =
    let i : OnHandle = (c.self.inside.entry, c.self.inside.block, c.self.inside.share) in
    let none = c.in_default.ensures.body in
    elim c.match-take-2.branch [
      | in-None w ↦ subst (λ (r : LocalTaken). IsTaken (held_by c.args.self.now) r) (sym w.result-is) (of_nothing c.args.self.now i c.self.view_is none w.in-None.ensures.body)
      | in-Some-take w ↦ subst (λ (r : LocalTaken). IsTaken (held_by c.args.self.now) r) (sym w.result-is)
          (taken_share (held_by c.args.self.now) w.in-Some-take.share w.give_up.result
          (λ v is. of_share c.args.self.now i v c.self.view_is none (w.in-Some-take.ensures.body ∙ ap Some is)) w.give_up.ensures)
    ]
