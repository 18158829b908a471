use Rattle.std.proofs.Common.{◌≡◌}
use Rattle.passive_list.specs.Common.{logged_counts, with_counts}
use Rattle.passive_list.proofs.publishing.store_counts.Given as goal

-- the words of the CPUs so far are stored
abbrev pub invariant-loop-c : goal.invariant-loop-c
invariant-loop-c l = (l.seat.table ≡ l.words.table) × (l.seat.view ≡ with_counts l.fn.seat.view l.slot l.c) × (l.seat.log ≡ logged_counts l.slot l.c l.fn.seat.log)
