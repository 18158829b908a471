use Rattle.cpu_words.specs.Types.{Done}
use Rattle.cpu_words.specs.Common.{Keeper, Makes, LiveTold, did}
use Rattle.cpu_words.proofs.steps.publishing.hide.Given as goal

abbrev pub ghosts-store : goal.ghosts-store
ghosts-store a = record { does = λ k n. did a.event Done; tells = λ k n l. Makes a.event Done (Keeper k) (Keeper l) × LiveTold a.event n k l }
