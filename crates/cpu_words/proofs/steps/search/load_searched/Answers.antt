use Rattle.cpu_words.proofs.by_cpu.Searching.{load_searched_may}
use Rattle.cpu_words.proofs.steps.search.load_searched.Goals as goal

pub load-requires-clause-may : goal.load-requires-clause-may
load-requires-clause-may c = rw c.record_place.ensures.place (load_searched_may _ _ _ _ _ c.requires.cpu.1 c.requires.may)
