use Rattle.call_tests.proofs.tests.bench.on_bench.Given as goal

-- the registry that was just made
abbrev pub ghosts-on_named-D-Domain : goal.ghosts-on_named-D-Domain
ghosts-on_named-D-Domain g a = record { table = a.blank.table; settings = a.blank.settings }

abbrev pub ghosts-on_named-D-Ledger : goal.ghosts-on_named-D-Ledger
ghosts-on_named-D-Ledger g a = record { name = a.blank.changes; parts = a.blank.settings.cpus }
