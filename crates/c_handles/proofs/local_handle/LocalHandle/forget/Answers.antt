-- There was a reference, in its block or shared.
use Rattle.std.proofs.Common.{false, ap, sym, ◌∙◌}
use Rattle.std.proofs.lemmas.Bool.{false≢true}
use Rattle.c_handles.specs.OnHandle.{OnHandle, held_by}
use Rattle.c_handles.proofs.OnHandle.{is_shared, of_block}
use Rattle.c_handles.proofs.local_handle.LocalHandle.forget.Goals.{in-None, in-Some-take}
use Rattle.c_handles.proofs.local_handle.LocalHandle.forget.Goals as goal

pub returns-in-Some-clause-some : goal.returns-in-Some-clause-some
returns-in-Some-clause-some c _ =
    let i : OnHandle = (c.self.inside.entry, c.self.inside.block, c.self.inside.share) in
    (record { held = c.in-Some.body; copied = false }, of_block c.args.self.now i c.in-Some.body c.self.view_is c.in-Some.ensures.body)

pub returns-clause-some : goal.returns-clause-some
returns-clause-some c was = elim c.match-take-2.branch [
  | in-None w ↦ absurd (false≢true (sym w.result-is ∙ was))
  | in-Some-take w ↦ is_shared c.args.self.now c.self.inside.block.body c.self.inside.share.body c.self.inside.entry w.in-Some-take.share (ap held_by c.self.view_is) c.self.invariant w.in-Some-take.ensures.body
]
