use Rattle.std.proofs.Common.{◌≡◌, ◌≤◌, ◌-◌, List, length}
use Rattle.cpu_words.specs.Common.{IsShownCpu}
use Rattle.passive_list.specs.Common.{HasWalkedBy, IsGoingOver, IsWritten}
use Rattle.passive_list.proofs.Walking.{EndsAtLink}
use Rattle.passive_list.proofs.walks.go_over.Given as goal
use Rattle.passive_list.specs.Types.{Entry, MOST_SLOTS}

-- the entries so far are written, and the link leads to the next one
abbrev pub invariant-loop-link : goal.invariant-loop-link
invariant-loop-link g l = record {
  table : l.seat.table ≡ l.fn.seat.table;
  cpu : l.seat.view.id ≡ l.cpu;
  is_shown : IsShownCpu l.seat.view;
  known_log : l.seat.known_log ≡ l.fn.seat.known_log;
  log : HasWalkedBy l.cpu l.count l.fn.seat.log l.seat.log;
  ends : EndsAtLink l.cpu l.link l.seat.log;
  few : l.count ≤ MOST_SLOTS;
  size : length l.row ≡ length l.fn.row;
  met : (met : List Entry) × (l.count ≡ length met) × IsGoingOver l.fn.seat.view met l.link l.seat.view × IsWritten g.W.WritesEntry.written met l.fn.row l.row;
}

abbrev pub decreases-loop-link : goal.decreases-loop-link
decreases-loop-link g l = MOST_SLOTS - l.count
