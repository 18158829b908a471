-- What C has of a local reference: its entry, the handle of its block, and the one of its share of a block.
use Rattle.std.specs.Prelude.{Option}
use Rattle.c_handles.specs.Bodies.{OnLocal, local_of}
use Rattle.c_handles.specs.declared.values.plain.CEntry.{CEntry}
use Rattle.c_handles.specs.declared.handle.LocalBlock.{LocalBlock}
use Rattle.c_handles.specs.declared.handle.LocalShare.{LocalShare}

abbrev pub OnHandle : Type 0
OnHandle = CEntry × LocalBlock × LocalShare

-- the reference that is behind it, if any
abbrev pub held_by : OnHandle → Option OnLocal
held_by h = local_of h.1.body h.2.body
