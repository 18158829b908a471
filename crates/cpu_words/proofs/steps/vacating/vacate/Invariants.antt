use Rattle.std.specs.Prelude.{None, ◌++◌}
use Rattle.cpu_words.specs.Types.{Hear, Done}
use Rattle.cpu_words.specs.Common.{Keeper, Makes, VacateTold, did}
use Rattle.cpu_words.proofs.steps.vacating.vacate.Given as goal

abbrev pub ghosts-load : goal.ghosts-load
ghosts-load a =
    record { does = λ k n. did a.event Done ++ did (Hear None) Done; tells = λ k n l. Makes a.event Done (Keeper k) (Keeper l) × Makes (Hear None) Done (Keeper l) (Keeper l) × VacateTold a.event k l }
