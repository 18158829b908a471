use Rattle.cpu_words.specs.Common.{sought, HasSought}
use Rattle.cpu_words.proofs.steps.search.seek.Given as goal

abbrev pub ghosts-load : goal.ghosts-load
ghosts-load a = record { does = λ x n. sought a.event n; tells = HasSought a.event }
