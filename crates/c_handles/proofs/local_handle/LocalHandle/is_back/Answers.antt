-- What its block says.
use Rattle.std.proofs.Common.{false, sym, ◌∙◌}
use Rattle.std.proofs.lemmas.Bool.{false≢true}
use Rattle.c_handles.specs.OnHandle.{OnHandle}
use Rattle.c_handles.proofs.OnHandle.{of_block}
use Rattle.c_handles.proofs.local_handle.LocalHandle.is_back.Goals.{in-None, in-Some}
use Rattle.c_handles.proofs.local_handle.LocalHandle.is_back.Goals as goal

pub returns-clause-back : goal.returns-clause-back
returns-clause-back c was =
    let i : OnHandle = (c.self.inside.entry, c.self.inside.block, c.self.inside.share) in
    elim c.match-body_mut.branch [
      | in-None w ↦ absurd (false≢true (sym w.result-is ∙ was))
      | in-Some w ↦ (record { held = w.in-Some.body.now; copied = false }, of_block c.args.self.now i w.in-Some.body.now c.self.view_is w.in-Some.ensures.value, sym w.is_back.ensures ∙ (sym w.result-is ∙ was))
    ]
