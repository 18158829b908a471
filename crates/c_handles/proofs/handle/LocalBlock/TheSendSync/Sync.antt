-- A `&` to the block of a local reference may go to another thread. It can't be read through, and is a borrow of what may go there itself.
use denote.Param.Send.{IsSync, part_keyless}
use Rattle.c_handles.specs.contracts.handle.LocalBlock.{the_row}
use Rattle.c_handles.proofs.handle.LocalBlock.TheSendSync.Send.{send}

pub sync : IsSync the_row
sync = record { shared = λ d b o κ q. part_keyless the_row send q d b o }
