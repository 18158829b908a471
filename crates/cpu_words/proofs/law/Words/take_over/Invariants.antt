use Rattle.cpu_words.specs.Common.{logged_cpu}
use Rattle.cpu_words.proofs.law.Words.take_over.Given as goal

abbrev pub ghosts-take_over : goal.ghosts-take_over
ghosts-take_over a = record { seat = logged_cpu a.cpu }
