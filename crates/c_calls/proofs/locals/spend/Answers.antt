-- The reference is of the keeper's registry.
use Rattle.std.proofs.Common.{◌<◌, ◌∙◌, sym, subst}
use Rattle.c_calls.specs.Types.{ReferenceView}
use Rattle.passive_list.specs.Common.{OnPlainKeeper}
use Rattle.c_handles.specs.Bodies.{IsReferenceOf}
use Rattle.c_calls.proofs.locals.spend.Goals as goal

pub release_under-requires-clause-reference : goal.release_under-requires-clause-reference
release_under-requires-clause-reference c =
    let own = subst (λ (x : OnPlainKeeper). IsReferenceOf x.words c.args.local) (sym c.keeper.view_is) c.requires.same in
    let is = c.into_reference.ensures in
    (is.0 ∙ own.0, subst (λ (v : ReferenceView). v.entry.slot < c.keeper.inside.keeper.words.settings.slots) (sym is.1) own.1)
