use Rattle.std.proofs.Common.{refl, rules}
use Rattle.cpu_words.proofs.by_cpu.Passives.{load_may}
use Rattle.cpu_words.proofs.steps.passive.load_passive.Goals as goal

pub load-requires-clause-may : goal.load-requires-clause-may
load-requires-clause-may c = rw c.record_place-word.ensures.place (load_may _ _ _ _ _ _ c.requires.cpu.1 c.requires.place.1 c.requires.may)

pub returns : goal.returns
returns c =
    let told = c.load.ensures.told.2 c.args.cpu c.args.slot c.args.number c.args.k refl c.record_place-word.ensures.place in
    record { step = search rules; same = search rules; word = told.0; alone = told.1; name = told.2 }
