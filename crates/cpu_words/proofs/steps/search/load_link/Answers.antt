use Rattle.cpu_words.proofs.by_cpu.Searching.{load_link_may}
use Rattle.cpu_words.proofs.steps.search.load_link.Goals as goal

pub load-requires-clause-may : goal.load-requires-clause-may
load-requires-clause-may c = rw c.linked_place.ensures.place (load_link_may _ _ _ _ c.requires.cpu.1 c.requires.may)
