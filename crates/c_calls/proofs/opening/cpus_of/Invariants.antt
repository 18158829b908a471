use Rattle.std.proofs.Common.{◌≡◌, ◌-◌, length}
use Rattle.c_calls.specs.Opening.{boxed, opened_down}
use Rattle.c_calls.proofs.Opened.{AreLeft}
use Rattle.c_calls.proofs.opening.cpus_of.Given as goal

-- the seats of the first CPUs are left, and the others have their CPUs
abbrev pub invariant-loop-seat : goal.invariant-loop-seat
invariant-loop-seat l =
    let n = l.words.value.settings.cpus in
    AreLeft l.words.value.table l.words.value.settings l.seats.items × (boxed l.cpus.items ≡ opened_down l.words.value n (n - length l.seats.items))

abbrev pub decreases-loop-seat : goal.decreases-loop-seat
decreases-loop-seat l = length l.seats.items
