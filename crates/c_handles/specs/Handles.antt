-- What a handle of each kind owns: what its body's box would, if there is one.
use Rattle.std.specs.Prelude.{Option}
use base.Fml.{Fml}
use denote.RawPtr.{Ptr}
use Rattle.passive_list.specs.Common.{OnPlainCpu, OnPlainKeeper}
use Rattle.c_handles.specs.Heap.{holds}
use Rattle.c_handles.specs.Bodies.{OnLocalBody}
use Rattle.c_handles.specs.contracts.cpu_body.CpuBody.{the_row as cpu_row}
use Rattle.c_handles.specs.contracts.keeper_body.KeeperBody.{the_row as keeper_row}
use Rattle.c_handles.specs.contracts.local_body.LocalBody.{the_row as local_row}

abbrev pub holds_cpu : Ptr → Option OnPlainCpu → Fml
holds_cpu = holds cpu_row

abbrev pub holds_keeper : Ptr → Option OnPlainKeeper → Fml
holds_keeper = holds keeper_row

abbrev pub holds_local : Ptr → Option OnLocalBody → Fml
holds_local = holds local_row
