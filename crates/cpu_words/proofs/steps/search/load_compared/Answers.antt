use Rattle.cpu_words.proofs.by_cpu.Searching.{load_compared_may}
use Rattle.cpu_words.proofs.steps.search.load_compared.Goals as goal

pub load-requires-clause-may : goal.load-requires-clause-may
load-requires-clause-may c = rw c.record_place-word.ensures.place (load_compared_may _ _ _ _ c.requires.cpu.1 c.requires.may)

pub returns-clause-value : goal.returns-clause-value
returns-clause-value c = c.load.ensures.told.2 c.args.slot c.record_place-word.ensures.place
