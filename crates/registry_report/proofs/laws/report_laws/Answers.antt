-- `report_laws`: its clauses `ends` and `least`.
use Rattle.registry_report.proofs.Lookups.{end_is, end_tells, least_iff}
use Rattle.registry_report.proofs.laws.report_laws.Goals as goal

pub returns-clause-ends : goal.returns-clause-ends
returns-clause-ends c = λ h legal n p. (end_tells h n p, end_is h legal n p)

pub returns-clause-least : goal.returns-clause-least
returns-clause-least c = least_iff
