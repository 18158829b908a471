use Rattle.std.proofs.Common.{◌≡◌, false}
use Rattle.c_calls.specs.LocalCalls.{some_collected}
use Rattle.c_calls.proofs.locals.are_collected.Given as goal

-- of the CPUs so far none was collected
abbrev pub invariant-loop-cpu : goal.invariant-loop-cpu
invariant-loop-cpu l = some_collected l.keeper.keeper l.slot l.cpu ≡ false
