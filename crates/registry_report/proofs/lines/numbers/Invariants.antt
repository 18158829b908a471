use Rattle.std.proofs.Common.{◌≡◌, map, take}
use Rattle.std.specs.Prelude.{string_bytes}
use Rattle.std.specs.Fmt.{signed_decimal}
use Rattle.registry_report.specs.Common.{spaced_words}
use Rattle.registry_report.proofs.lines.numbers.Given as goal

-- the words of the numbers so far
abbrev pub invariant-loop-number : goal.invariant-loop-number
invariant-loop-number l = string_bytes l.text ≡ spaced_words (map signed_decimal (take l.number-index l.numbers))
