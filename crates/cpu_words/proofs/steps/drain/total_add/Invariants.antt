use Rattle.cpu_words.specs.Types.{Done}
use Rattle.cpu_words.specs.Common.{Keeper, Makes, TotalAddTold, did}
use Rattle.cpu_words.proofs.steps.drain.total_add.Given as goal

abbrev pub ghosts-store : goal.ghosts-store
ghosts-store a = record { does = λ k n. did a.event Done; tells = λ k n l. Makes a.event Done (Keeper k) (Keeper l) × TotalAddTold a.event k n l }
