use Rattle.cpu_words.specs.Common.{Cpu, Makes, link_answer, HasLoadedLink, did}
use Rattle.cpu_words.proofs.steps.search.load_link.Given as goal

abbrev pub ghosts-load : goal.ghosts-load
ghosts-load a = record { does = λ x n. did a.event (link_answer n); tells = λ x n y. Makes a.event (link_answer n) (Cpu x) (Cpu y) × HasLoadedLink x n y }
