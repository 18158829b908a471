use Rattle.std.proofs.Common.{rules}
use Rattle.cpu_words.proofs.by_cpu.Locals.{count_add_may}
use Rattle.cpu_words.proofs.steps.locals.count_add.Goals as goal

pub add-requires-clause-may : goal.add-requires-clause-may
add-requires-clause-may c = rw c.count_place-word.ensures.place (count_add_may _ _ _ _ _ c.requires.cpu c.requires.may)

pub returns : goal.returns
returns c = let told = c.add.ensures.told.1 _ _ c.requires.may in record { step = search rules; change = told.0; word = told.1; room = told.2; alone = told.3 }
