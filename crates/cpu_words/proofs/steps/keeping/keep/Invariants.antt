use Rattle.cpu_words.proofs.steps.keeping.keep.Given as goal

abbrev pub ghosts-join : goal.ghosts-join
ghosts-join a = record { slot = a.slot }
