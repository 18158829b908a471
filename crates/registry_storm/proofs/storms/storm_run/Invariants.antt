use Rattle.registry_storm.proofs.storms.storm_run.Given as goal

-- the registry that was just made
abbrev pub ghosts-storm_on-D-Domain : goal.ghosts-storm_on-D-Domain
ghosts-storm_on-D-Domain g a = record { table = a.blank.table; settings = a.blank.settings }

abbrev pub ghosts-storm_on-D-Ledger : goal.ghosts-storm_on-D-Ledger
ghosts-storm_on-D-Ledger g a = record { name = a.blank.changes; parts = a.blank.settings.cpus }
