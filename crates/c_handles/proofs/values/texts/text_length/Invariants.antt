use Rattle.c_handles.proofs.Written.{IsLengthOf}
use Rattle.c_handles.proofs.values.texts.text_length.Given as goal

-- the length of the first k bytes is known
abbrev pub invariant-loop-k : goal.invariant-loop-k
invariant-loop-k l = IsLengthOf l.bytes l.length l.k
