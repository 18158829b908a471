use Rattle.protocol.specs.History.{rank_at}
use Rattle.std.proofs.Common.{◌≡◌, ℕ}
use Rattle.cpu_words.specs.Common.{IsShownCpu, key_with}
use Rattle.passive_list.specs.Common.{HasSearchedFor, IsAtLink}
use Rattle.passive_list.proofs.Walking.{EndsAtLink}
use Rattle.passive_list.proofs.Visited.{HasGoneBy}
use Rattle.passive_list.proofs.lookup.look_up.Given as goal

abbrev pub invariant-loop-link : goal.invariant-loop-link
invariant-loop-link l = record {
  table : l.seat.table ≡ l.fn.seat.table;
  cpu : l.seat.view.id ≡ l.cpu;
  is_shown : IsShownCpu l.seat.view;
  known_log : l.seat.known_log ≡ l.fn.seat.known_log;
  visited : (n : ℕ) × HasSearchedFor l.cpu (key_with l.kind l.name) n l.fn.seat.log l.seat.log × HasGoneBy l.fn.seat.view n l.last l.seat.view.pass;
  ends : EndsAtLink l.cpu l.link l.seat.log;
  at : IsAtLink (key_with l.kind l.name) l.fn.seat.view l.link l.last l.seat.view;
}

abbrev pub decreases-loop-link : goal.decreases-loop-link
decreases-loop-link l = rank_at l.seat.view.pass l.last
