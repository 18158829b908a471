use Rattle.cpu_words.proofs.by_cpu.Trying.{end_try_may}
use Rattle.cpu_words.proofs.steps.tries.end_try.Goals as goal

pub load_either-requires-clause-may : goal.load_either-requires-clause-may
load_either-requires-clause-may c = rw c.live_place.ensures.place (end_try_may _ _ _ _ _ c.requires.cpu.1 c.requires.may)
