use Rattle.cpu_words.specs.Types.{Done}
use Rattle.cpu_words.specs.Common.{Keeper, Makes, KeptSubTold, did}
use Rattle.cpu_words.proofs.steps.drain.kept_sub.Given as goal

abbrev pub ghosts-subtract : goal.ghosts-subtract
ghosts-subtract a = record { does = λ k n. did a.event Done; tells = λ k n l. Makes a.event Done (Keeper k) (Keeper l) × KeptSubTold a.event k l }
