-- The handle of a CPU may go to another thread, as its body may.
use denote.Param.Send.{IsSend}
use Rattle.c_handles.proofs.SpareSent.{keyless, sent, cpu_send}
use Rattle.c_handles.specs.contracts.cpu_body.CpuBody.{the_row as body}
use Rattle.c_handles.specs.contracts.handle.CpuHandle.{the_row, the_type}

pub send : IsSend the_row
send = sent the_type (λ h. (h.at, tt)) (λ h. keyless body cpu_send h.at h.body)
