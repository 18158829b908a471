use Rattle.cpu_words.specs.Types.{Word}
use Rattle.cpu_words.specs.Common.{Keeper, Makes, CollectTold, did}
use Rattle.cpu_words.proofs.steps.drain.collect.Given as goal

abbrev pub ghosts-swap : goal.ghosts-swap
ghosts-swap a = record { does = λ k n. did a.event (Word n); tells = λ k n l. Makes a.event (Word n) (Keeper k) (Keeper l) × CollectTold a.event k n l }
