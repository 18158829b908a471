use Rattle.std.proofs.Common.{refl, rules}
use Rattle.cpu_words.proofs.by_cpu.Passives.{add_may}
use Rattle.cpu_words.proofs.steps.passive.passive_add.Goals as goal

pub add-requires-clause-may : goal.add-requires-clause-may
add-requires-clause-may c = rw c.passive_place-word.ensures.place (add_may _ _ _ _ _ c.requires.cpu.1 c.requires.may)

pub returns : goal.returns
returns c =
    let told = c.add.ensures.told.1 c.args.row.cpu c.args.slot c.args.number refl c.passive_place-word.ensures.place in
    record { step = search rules; change = told.0; slot = told.1; count = told.2; alone = told.3 }
