-- The handle is as it was.
use Rattle.std.proofs.Common.{sym}
use Rattle.c_calls.proofs.audit.ByHandleReachesCpu.is_cpu.Goals as goal

pub returns-in-Some-clause-same : goal.returns-in-Some-clause-same
returns-in-Some-clause-same c = λ i. record { at = c.args.lent.now.at; body = sym c.in-Some.ensures.value i }
