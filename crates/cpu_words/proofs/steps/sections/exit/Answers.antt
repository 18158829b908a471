use Rattle.cpu_words.proofs.by_cpu.Sections.{exit_may}
use Rattle.cpu_words.proofs.steps.sections.exit.Goals as goal

pub add-requires-clause-may : goal.add-requires-clause-may
add-requires-clause-may c = rw c.section_place-word.ensures.place (exit_may _ _ _ c.requires.cpu.1 c.requires.may)
