-- A share of a local reference may go to another thread, as its body may.
use denote.Param.Send.{IsSend}
use Rattle.c_handles.proofs.SpareSent.{keyless, sent}
use Rattle.c_handles.specs.contracts.copy_body.CopyBody.{the_row as body}
use Rattle.c_handles.specs.contracts.handle.LocalShare.{the_row, the_type}
use Rattle.c_handles.proofs.copy_body.CopyBody.TheSendSync.{the_send}

pub send : IsSend the_row
send = sent the_type (λ h. (h.at, tt)) (λ h. keyless body the_send h.at h.body)
