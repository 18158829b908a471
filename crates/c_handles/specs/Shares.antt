-- What the share of a local reference's block owns: what its body's box would, if there is one.
use Rattle.std.specs.Prelude.{Option}
use base.Fml.{Fml}
use denote.RawPtr.{Ptr}
use Rattle.c_handles.specs.Heap.{holds}
use Rattle.c_handles.specs.Bodies.{OnLocalBody}
use Rattle.c_handles.specs.contracts.copy_body.CopyBody.{the_row as copy_row}

abbrev pub holds_copy : Ptr → Option (Option OnLocalBody) → Fml
holds_copy = holds copy_row
