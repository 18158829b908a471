-- The text is the bytes of the two words that were given.
use Rattle.std.proofs.Common.{sym}
use Rattle.c_handles.proofs.Written.{formatted}
use Rattle.c_handles.proofs.values.texts.format.Goals as goal

pub returns : goal.returns
returns c =
    formatted c.args.name.now c.in-Some.name c.bytes_of-bytes.result _ _ c.text_length-length.result _ _ _ (sym c.in-Some.ensures.value) c.words-high.ensures.high c.words-high.ensures.low
    c.bytes_of-bytes.ensures c.text_length-length.ensures c.write_whole.ensures
