use Rattle.registry_examples.proofs.packet_loop.run_packet_loop.Given as goal

-- the registry that was just made
abbrev pub ghosts-run_on-D-Domain : goal.ghosts-run_on-D-Domain
ghosts-run_on-D-Domain g a = record { table = a.blank.table; settings = a.blank.settings }

abbrev pub ghosts-run_on-D-Ledger : goal.ghosts-run_on-D-Ledger
ghosts-run_on-D-Ledger g a = record { name = a.blank.changes; parts = a.blank.settings.cpus }
