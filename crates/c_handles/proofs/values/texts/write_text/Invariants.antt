use Rattle.c_handles.proofs.Written.{AreCopied}
use Rattle.c_handles.proofs.values.texts.write_text.Given as goal

-- the bytes so far are there
abbrev pub invariant-loop-k : goal.invariant-loop-k
invariant-loop-k l = AreCopied l.words l.fn.text l.text l.k
