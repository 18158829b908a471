use Rattle.script_tests.proofs.tests.calls.run_rows.Given as goal

-- the registry that was just made
abbrev pub ghosts-run_row-D-Domain : goal.ghosts-run_row-D-Domain
ghosts-run_row-D-Domain g a = record { table = a.blank.table; settings = a.blank.settings }

abbrev pub ghosts-run_row-D-Ledger : goal.ghosts-run_row-D-Ledger
ghosts-run_row-D-Ledger g a = record { name = a.blank.changes; parts = a.blank.settings.cpus }
