use Rattle.std.proofs.Common.{◌≡◌, ◌<◌, ◌^◌, take}
use Rattle.std.specs.Str.Parse.{digits_value}
use Rattle.registry_language.proofs.words.number.Given as goal

-- the value of the digits so far
abbrev pub invariant-loop-b : goal.invariant-loop-b
invariant-loop-b l = record { value : l.n ≡ digits_value 10 (take l.b-index l.word); fits : l.n < 2 ^ 64 }
