use Rattle.registry_values.specs.declared.limits.TheConstants.{MOST_CPUS}
use Rattle.call_tests.proofs.tests.table.on_table.Given as goal

-- the table that was just made
abbrev pub ghosts-on_named-D-Domain : goal.ghosts-on_named-D-Domain
ghosts-on_named-D-Domain g a = record { table = a.table.words.table; settings = a.table.words.settings }

abbrev pub ghosts-on_named-D-Ledger : goal.ghosts-on_named-D-Ledger
ghosts-on_named-D-Ledger g a = record { name = a.table.changes.name; parts = MOST_CPUS }
