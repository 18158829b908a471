-- The reference is of the CPU's registry.
use Rattle.std.proofs.Common.{◌<◌, ◌∙◌, sym, subst}
use Rattle.c_calls.specs.Types.{ReferenceView}
use Rattle.passive_list.specs.Common.{OnPlainCpu}
use Rattle.c_handles.specs.Bodies.{IsReferenceOf}
use Rattle.c_calls.proofs.locals.release_local.Goals as goal

pub try_release_on-requires-clause-reference : goal.try_release_on-requires-clause-reference
try_release_on-requires-clause-reference c =
    let own = subst (λ (x : OnPlainCpu). IsReferenceOf x.words c.args.local) (sym c.cpu.view_is) c.requires in
    let is = c.into_reference-reference.ensures in
    (is.0 ∙ own.0, subst (λ (v : ReferenceView). v.entry.slot < c.cpu.inside.cpu.words.settings.slots) (sym is.1) own.1)
