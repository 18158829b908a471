-- The handle is as it was.
use Rattle.std.proofs.Common.{sym}
use Rattle.c_calls.proofs.audit.ByHandleReachesCpu.local.Goals as goal

pub returns-clause-same : goal.returns-clause-same
returns-clause-same c = λ i. record { at = c.args.lent.now.at; body = sym c.in-Some.ensures.value i }
