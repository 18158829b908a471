use Rattle.call_tests.proofs.tests.memory_tests.open_and_audit.Given as goal

-- the registry that was just made
abbrev pub ghosts-audited_again-D-Domain : goal.ghosts-audited_again-D-Domain
ghosts-audited_again-D-Domain g a = record { table = a.blank.table; settings = a.blank.settings }

abbrev pub ghosts-audited_again-D-Ledger : goal.ghosts-audited_again-D-Ledger
ghosts-audited_again-D-Ledger g a = record { name = a.blank.changes; parts = a.blank.settings.cpus }
