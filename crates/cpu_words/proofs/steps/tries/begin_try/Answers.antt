use Rattle.cpu_words.proofs.by_cpu.Trying.{try_may}
use Rattle.cpu_words.proofs.steps.tries.begin_try.Goals as goal

pub add-requires-clause-may : goal.add-requires-clause-may
add-requires-clause-may c = rw c.passive_place-word.ensures.place (try_may _ _ _ _ _ c.requires.cpu.1 c.requires.may)
