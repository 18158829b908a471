use Rattle.cpu_words.specs.Types.{Done}
use Rattle.cpu_words.specs.Common.{Keeper, Makes, RepublishTold, did}
use Rattle.cpu_words.proofs.steps.publishing.republish.Given as goal

abbrev pub ghosts-store : goal.ghosts-store
ghosts-store a = record { does = λ k n. did a.event Done; tells = λ k n l. Makes a.event Done (Keeper k) (Keeper l) × RepublishTold a.event a.word k l }
