use Rattle.std.proofs.Common.{◌≡◌, ◌∙◌, ◌<◌, [], get_or, take, ap, refl, sym, subst}
use Rattle.passive_list.specs.Common.{KeptSlot, OnPlainKeeper, IsDrainedOn, is_drained_row}
use Rattle.passive_list.proofs.Rows.{row_read}
use Rattle.passive_list.proofs.Marks.{drained_tells, drained_from}
use Rattle.passive_list.proofs.keeper.Keeper.is_drained.Goals as goal

pub returns : goal.returns
returns c =
    let our = c.self.invariant.0 in
    let within = subst (λ (x : OnPlainKeeper). c.args.slot < x.words.settings.slots) (sym c.self.view_is) c.requires in
    let marks = subst (λ (x : OnPlainKeeper). take x.words.settings.cpus c.marks_of.result.now ≡ take x.words.settings.cpus (get_or x.keeper.view.marks c.args.slot [])) (sym c.self.view_is) c.marks_of.ensures in
    let row = row_read _ _ _ _ _ our.rows within c.index.ensures in
    let test = c.is_drained_row.ensures ∙ ap (λ (r : KeptSlot). is_drained_row c.self.inside.settings.cpus r c.marks_of.result.now) row in (
      λ is. subst (λ (x : OnPlainKeeper). IsDrainedOn x.keeper c.args.slot) c.self.view_is (drained_tells _ _ _ _ _ _ our.view our.rows within refl marks (sym test ∙ is)),
      λ is. test ∙ drained_from _ _ _ _ _ _ our.view our.rows within refl marks (subst (λ (x : OnPlainKeeper). IsDrainedOn x.keeper c.args.slot) (sym c.self.view_is) is),
    )
