use Rattle.std.proofs.Common.{◌≡◌, ◌<◌, sym, subst}
use Rattle.passive_list.specs.Common.{OnKeeper}
use Rattle.cpu_words.specs.Common.{IsFoundCollected, Named}
use Rattle.name_registry.proofs.GivenUp.{given_for, knows_given}
use Rattle.name_registry.proofs.releasing.release_for.Goals as goal

pub release_under-requires-clause-reference : goal.release_under-requires-clause-reference
release_under-requires-clause-reference c =
    subst (λ (w : Named). (c.args.reference.table ≡ w.table) × (c.args.reference.reference.entry.slot < w.settings.slots)) (sym c.hear_cpu.ensures.words.0) c.requires.reference

pub release_under-requires-clause-collected : goal.release_under-requires-clause-collected
release_under-requires-clause-collected c =
    subst (λ (k : OnKeeper). IsFoundCollected k.slots k.view.marks c.args.reference.reference) (sym c.hear_cpu.ensures.keeper) c.requires.collected

pub returns-clause-change : goal.returns-clause-change
returns-clause-change c =
    let hear = c.hear_cpu.ensures in
    let show = c.show_cpu.ensures in
    given_for _ _ _ _ _ _ _ _ hear.known hear.keeper hear.cpu c.release_under.ensures.change show.keeper show.cpu show.told show.log

pub returns-clause-known : goal.returns-clause-known
returns-clause-known c = knows_given _ _ _ _ _ (returns-clause-change c)
