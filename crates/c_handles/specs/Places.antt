-- The places of CPUs' handles and of the keeper's, each with that at it, and its type.
use Rattle.std.specs.Prelude.{List, Some}
use denote.RattleType.{RattleType}
use Rattle.c_handles.specs.declared.rows.CpusPlace.{CpusPlace}
use Rattle.c_handles.specs.declared.handle.CpuHandle.{CpuHandle}
use Rattle.c_handles.specs.contracts.rows.CpusPlace.{the_row as place_of_cpus}
use Rattle.c_handles.specs.contracts.handle.CpuHandle.{the_row as row_of_cpu}
use Rattle.c_handles.specs.declared.keeper_place.KeeperPlace.{KeeperPlace}
use Rattle.c_handles.specs.declared.handle.KeeperHandle.{KeeperHandle}
use Rattle.c_handles.specs.contracts.keeper_place.KeeperPlace.{the_row as place_of_keeper}
use Rattle.c_handles.specs.contracts.handle.KeeperHandle.{the_row as row_of_keeper}

abbrev pub filled_cpus : CpusPlace → List CpuHandle → CpusPlace
filled_cpus p xs = record { at = p.at; value = Some xs }

abbrev pub cpus_place : RattleType
cpus_place = place_of_cpus

abbrev pub cpu_row : RattleType
cpu_row = row_of_cpu

abbrev pub filled_keeper : KeeperPlace → KeeperHandle → KeeperPlace
filled_keeper p x = record { at = p.at; value = Some x }

abbrev pub keeper_place : RattleType
keeper_place = place_of_keeper

abbrev pub keeper_row : RattleType
keeper_row = row_of_keeper
