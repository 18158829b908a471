use Rattle.std.proofs.Common.{refl, rules}
use Rattle.cpu_words.proofs.by_cpu.Locals.{count_down_may}
use Rattle.cpu_words.proofs.steps.locals.count_down.Goals as goal

pub compare_exchange-requires-clause-may : goal.compare_exchange-requires-clause-may
compare_exchange-requires-clause-may c = rw c.count_place.ensures.place (count_down_may _ _ _ _ _ _ _ c.requires.cpu c.requires.may c.ranges.expected.fits refl)

pub returns : goal.returns
returns c =
    let told = c.compare_exchange.ensures.told _ _ c.requires.may in record { step = search rules; floor = told.0; net = told.1; alone = told.2; counted = told.3; collected = told.4 }
