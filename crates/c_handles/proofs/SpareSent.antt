-- A handle may go to another thread where its body may, a block that holds no value wherever; and so may the body of a CPU's handle.
use Rattle.std.specs.Prelude.{Option, Some, None}
use mir.Syntax.{Ty}
use mir.Raw.{raw}
use base.Shift.{Keyless}
use denote.RattleType.{RattleType}
use denote.Memory.{lone}
use denote.RawPtr.{Ptr, block_ptr, null_ptr, room_for}
use denote.Param.Send.{IsSend, AllSend, owning_send, struct_send, sendable}
use denote.Struct.Struct.{exits_of}
use denote.Struct.Owning.{Owning, row, shape, fields, to}
use Rattle.std_heap.proofs.GlobalAllocator.TheSendSync.{the_frees}
use Rattle.std_alloc.proofs.SendSync.{lies, quiet, crosses}
use Rattle.std_alloc.specs.contracts.room.vacant.Vacant as Vacant
use Rattle.std_heap.specs.contracts.Global as heap
use Rattle.std_heap.specs.contracts.GlobalAllocator.TheImpl.{ghosts}
use Rattle.cpu_words.proofs.law.Words.TheSendSync as words
use Rattle.passive_list.proofs.plain_cpu.PlainCpu.TheSendSync as plain
use Rattle.c_handles.specs.Heap.{holds}
use Rattle.c_handles.specs.contracts.heap.spare.Spare as Spare
use Rattle.c_handles.specs.contracts.cpu_body.CpuBody.{the_row}
use Rattle.c_handles.proofs.Turned.{Word, word}

pub keyless : (R : RattleType) → IsSend R → (p : Ptr) (o : Option R.Denot) → Keyless (holds R p o)
keyless R send p None = λ _. tt
keyless R send p (Some b) = (lies R send p b, the_frees.frees (record { memory = record { seal = tt } }) (raw (lone R.mir)) p)

-- so may a struct whose one field is a pointer
pub sent : (O : Owning) (at : Word O.D) → ((d : O.D) → Keyless (O.heap d)) → IsSend (row (word O at))
sent O at keyless = record { owned = λ d vs. ((λ vss. (tt, (tt, tt))), keyless d); leaving = λ k d w. tt }

-- a block without a value: there is room, and the right to free it
room_keyless : (τ : Ty) (p : Ptr) → Keyless (room_for τ p)
room_keyless τ (block_ptr b o) = tt
room_keyless τ null_ptr = tt

pub vacant_send : (R : RattleType) → IsSend (Vacant.the_row R heap.the_row ghosts)
vacant_send R = let O = Vacant.the_type R heap.the_row ghosts in let all : AllSend (fields O) = (search sendable, (search sendable, tt)) in
    owning_send O all (λ d. (room_keyless (raw (lone R.mir)) d.ptr, the_frees.frees d.alloc (raw (lone R.mir)) d.ptr))
    (λ k. quiet (to O) (exits_of k (fields O)) ((struct_send (shape O) all).leaving k))

-- and so may what keeps one
pub spare_send : (R : RattleType) → IsSend (Spare.the_row R)
spare_send R = search (sendable, vacant_send) depth 14

-- The body of a CPU's handle may go to another thread, with the block that it keeps.

pub cpu_send : IsSend the_row
cpu_send = search (sendable, crosses, the_frees, words.the_send, words.the_sync, plain.the_send, spare_send) depth 16
