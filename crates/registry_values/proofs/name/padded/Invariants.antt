use Rattle.std.proofs.Common.{◌≡◌, drop, take, length, replicate}
use Rattle.registry_values.proofs.name.padded.Given as goal

-- the bytes so far, and zeros
abbrev pub invariant-loop-i : goal.invariant-loop-i
invariant-loop-i l = record {
  size : length l.bytes ≡ 16;
  front : take l.i l.bytes ≡ take l.i l.text;
  back : drop l.i l.bytes ≡ drop l.i (replicate 16 0);
}
