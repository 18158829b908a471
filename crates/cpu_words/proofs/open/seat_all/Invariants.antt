use Rattle.std.proofs.Common.{◌≡◌, ◌≤◌, vec_len, vec_capacity}
use Rattle.cpu_words.specs.Common.{AreSeats, keeper_with}
use Rattle.cpu_words.proofs.open.seat_all.Given as goal

-- the CPUs so far have their seats, and the list has room for the others
abbrev pub invariant-loop : goal.invariant-loop
invariant-loop l = (l.keeper.table ≡ l.words.table) × (l.keeper.view ≡ keeper_with l.words.settings l.counter) × AreSeats l.words.table l.words.settings l.counter l.seats.items
    × (vec_len l.seats ≡ l.counter) × (l.words.settings.cpus ≤ vec_capacity l.seats)
