use Rattle.cpu_words.proofs.by_cpu.Recalling.{recall_may}
use Rattle.cpu_words.proofs.steps.recalls.recall.Goals as goal

pub load-requires-clause-may : goal.load-requires-clause-may
load-requires-clause-may c = rw c.live_place.ensures.place (recall_may _ _ _ _ c.requires.cpu.1 c.requires.may)
