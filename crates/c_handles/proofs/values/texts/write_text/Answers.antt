-- A text is written, and a zero after it.
use Rattle.std.proofs.Common.{refl, arith}
use Rattle.c_handles.proofs.Written.{copied_more}
use Rattle.c_handles.proofs.values.texts.write_text.Goals as goal

pub loop-k-preserved : goal.loop-k-preserved
loop-k-preserved c = copied_more _ _ _ _ _ (omega (arith, c.loop-k-test.true, c.requires, c.loop-k.invariant.size)) refl c.loop-k.invariant
