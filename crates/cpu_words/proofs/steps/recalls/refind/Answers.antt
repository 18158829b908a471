use Rattle.cpu_words.proofs.by_cpu.Recalling.{refind_may}
use Rattle.cpu_words.proofs.steps.recalls.refind.Goals as goal

pub load_either-requires-clause-may : goal.load_either-requires-clause-may
load_either-requires-clause-may c = rw c.live_place.ensures.place (refind_may _ _ _ _ _ c.requires.cpu.1 c.requires.may)
