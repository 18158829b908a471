use Rattle.std.proofs.Common.{◌≡◌, ◌*◌, List}
use Rattle.passive_list.specs.Types.{Mark}
use Rattle.cpu_words.specs.Common.{IsShown}
use Rattle.passive_list.specs.Common.{AreSnapshots, AreWritten, LogsSnapshots}
use Rattle.passive_list.proofs.Marks.{taking}
use Rattle.passive_list.proofs.retiring.snapshots.Given as goal

-- the snapshots of the CPUs so far are taken and written, and the next one is due
abbrev pub invariant-loop-c : goal.invariant-loop-c
invariant-loop-c l = (l.seat.table ≡ l.words.table)
    × ((row : List Mark) × (l.seat.view ≡ taking l.fn.seat.view l.slot l.cpus l.c row) × AreSnapshots l.c row × AreWritten (l.slot * l.cpus) l.c row l.fn.marks l.marks)
    × IsShown l.seat.view × LogsSnapshots l.slot l.c l.fn.seat.log l.seat.log
