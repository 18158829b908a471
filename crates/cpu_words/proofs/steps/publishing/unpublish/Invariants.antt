use Rattle.cpu_words.specs.Types.{Done}
use Rattle.cpu_words.specs.Common.{Keeper, Makes, UnpublishTold, did}
use Rattle.cpu_words.proofs.steps.publishing.unpublish.Given as goal

abbrev pub ghosts-store : goal.ghosts-store
ghosts-store a = record { does = λ k n. did a.event Done; tells = λ k n l. Makes a.event Done (Keeper k) (Keeper l) × UnpublishTold a.event a.word a.value k l }
