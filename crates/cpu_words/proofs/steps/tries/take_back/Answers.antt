use Rattle.cpu_words.proofs.by_cpu.Trying.{back_may}
use Rattle.cpu_words.proofs.steps.tries.take_back.Goals as goal

pub subtract-requires-clause-may : goal.subtract-requires-clause-may
subtract-requires-clause-may c = rw c.passive_place-word.ensures.place (back_may _ _ _ _ c.requires.cpu.1 c.requires.may)
