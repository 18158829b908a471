use Rattle.cpu_words.specs.Common.{Cpu, Makes, loaded_of, loaded_answer, HasLoadedWord, did}
use Rattle.cpu_words.proofs.steps.search.load_searched.Given as goal

abbrev pub ghosts-load : goal.ghosts-load
ghosts-load a = record { does = λ x n. did a.event (loaded_answer (loaded_of x.search n)); tells = λ x n y. Makes a.event (loaded_answer (loaded_of x.search n)) (Cpu x) (Cpu y) × HasLoadedWord x n y }
