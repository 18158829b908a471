-- What C lends a call by a pointer: the keeper's handle, or none; and beside its length that many handles of CPUs, or none.
use Rattle.std.specs.Prelude.{List, Option}
use base.Fml.{Fml}
use base.Fraction.{full_share}
use denote.RawPtr.{Ptr}
use Rattle.c_handles.specs.Heap.{lends, lends_row}
use Rattle.c_handles.specs.declared.handle.CpuHandle.{CpuHandle}
use Rattle.c_handles.specs.declared.handle.KeeperHandle.{KeeperHandle}
use Rattle.c_handles.specs.contracts.handle.CpuHandle.{the_row as cpu}
use Rattle.c_handles.specs.contracts.handle.KeeperHandle.{the_row as keeper}

abbrev pub lends_cpus : Ptr → Option (List CpuHandle) → Fml
lends_cpus = lends_row cpu full_share

abbrev pub lends_keeper : Ptr → Option KeeperHandle → Fml
lends_keeper = lends keeper full_share
