use Rattle.cpu_words.specs.Types.{Word}
use Rattle.cpu_words.specs.Common.{Keeper, Makes, LookedPassiveTold, did}
use Rattle.cpu_words.proofs.steps.drain.passive_look.Given as goal

abbrev pub ghosts-load : goal.ghosts-load
ghosts-load a = record { does = λ k n. did a.event (Word n); tells = λ k n l. Makes a.event (Word n) (Keeper k) (Keeper l) × LookedPassiveTold a.event k n l }
