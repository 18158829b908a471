use Rattle.registry_live.proofs.run.run_live.Given as goal

-- the registry that was just made
abbrev pub ghosts-run_on_blank-D-Domain : goal.ghosts-run_on_blank-D-Domain
ghosts-run_on_blank-D-Domain g a = record { table = a.blank.table; settings = a.blank.settings }

abbrev pub ghosts-run_on_blank-D-Ledger : goal.ghosts-run_on_blank-D-Ledger
ghosts-run_on_blank-D-Ledger g a = record { name = a.blank.changes; parts = a.blank.settings.cpus }
