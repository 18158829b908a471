-- A count was collected, as the reference shows or the keeper knows.
use Rattle.std.proofs.Common.{sym, subst, ◌∙◌}
use Rattle.cpu_words.specs.Common.{IsFoundCollected}
use Rattle.passive_list.specs.Common.{OnPlainKeeper}
use Rattle.c_calls.proofs.Collected.{back_found, collected_found}
use Rattle.c_calls.proofs.locals.may_give_up.Goals as goal

pub returns-then-is_back-clause-collected : goal.returns-then-is_back-clause-collected
returns-then-is_back-clause-collected c _ =
    let some = c.is_back.ensures.back c.if-is_back.true in
    (some.0, some.1, back_found c.args.keeper.now.keeper some.0.held.reference some.2)

pub returns-clause-collected : goal.returns-clause-collected
returns-clause-collected c was =
    let v = c.requires.0 in
    let at = c.is_back.ensures.same ∙ c.requires.1 in (
      v,
      c.requires.1,
      subst (λ (k : OnPlainKeeper). IsFoundCollected k.keeper.slots k.keeper.view.marks v.held.reference) c.keeper.view_is
          (collected_found c.keeper.inside.keeper.keeper c.slot.result c.number.result c.keeper.inside.keeper.words.settings.cpus v.held.reference (sym (c.number.ensures v at))
          (sym c.are_collected.ensures ∙ was)),
    )
