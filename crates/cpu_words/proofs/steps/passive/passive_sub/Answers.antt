use Rattle.std.proofs.Common.{refl, rules}
use Rattle.cpu_words.proofs.by_cpu.Passives.{sub_may}
use Rattle.cpu_words.proofs.steps.passive.passive_sub.Goals as goal

pub subtract-requires-clause-may : goal.subtract-requires-clause-may
subtract-requires-clause-may c = rw c.passive_place-word.ensures.place (sub_may _ _ _ _ _ c.requires.cpu.1 c.requires.may)

pub returns : goal.returns
returns c =
    let told = c.subtract.ensures.told.1 c.args.row.cpu c.args.slot c.args.number refl c.passive_place-word.ensures.place in
    record { step = search rules; change = told.0; count = told.1; alone = told.2 }
