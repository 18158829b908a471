use Rattle.call_tests.proofs.tests.registry_rows.reference_of_another_registry.Given as goal

-- the two registries that were just made
abbrev pub ghosts-shown_elsewhere-D-Domain : goal.ghosts-shown_elsewhere-D-Domain
ghosts-shown_elsewhere-D-Domain g a = record { table = a.here.table; settings = a.here.settings }

abbrev pub ghosts-shown_elsewhere-D-Ledger : goal.ghosts-shown_elsewhere-D-Ledger
ghosts-shown_elsewhere-D-Ledger g a = record { name = a.here.changes; parts = a.here.settings.cpus }

abbrev pub ghosts-shown_elsewhere-E-Domain : goal.ghosts-shown_elsewhere-E-Domain
ghosts-shown_elsewhere-E-Domain g a = record { table = a.there.table; settings = a.there.settings }

abbrev pub ghosts-shown_elsewhere-E-Ledger : goal.ghosts-shown_elsewhere-E-Ledger
ghosts-shown_elsewhere-E-Ledger g a = record { name = a.there.changes; parts = a.there.settings.cpus }
