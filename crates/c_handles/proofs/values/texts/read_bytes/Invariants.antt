use Rattle.std.proofs.Common.{◌≡◌}
use Rattle.c_handles.proofs.Written.{AreRead}
use Rattle.c_handles.proofs.values.texts.read_bytes.Given as goal

-- the bytes so far are read
abbrev pub invariant-loop-k : goal.invariant-loop-k
invariant-loop-k l = (l.bytes ≡ l.fn.bytes) × AreRead l.fn.bytes.bytes l.row l.k
