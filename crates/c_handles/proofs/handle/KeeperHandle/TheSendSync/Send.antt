-- The handle of the keeper may go to another thread, as its body may.
use denote.Param.Send.{IsSend}
use Rattle.c_handles.proofs.SpareSent.{keyless, sent}
use Rattle.c_handles.specs.contracts.keeper_body.KeeperBody.{the_row as body}
use Rattle.c_handles.specs.contracts.handle.KeeperHandle.{the_row, the_type}
use Rattle.c_handles.proofs.keeper_body.KeeperBody.TheSendSync.{the_send}

pub send : IsSend the_row
send = sent the_type (λ h. (h.at, tt)) (λ h. keyless body the_send h.at h.body)
