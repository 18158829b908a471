-- `fresh_answers`: its clauses `fresh` and `newest`.
use Rattle.protocol.proofs.runs.Fresh.{fresh_answers, newest_recalls}
use Rattle.protocol.proofs.laws.fresh_answers.Goals as goal

pub returns-clause-fresh : goal.returns-clause-fresh
returns-clause-fresh c = fresh_answers

pub returns-clause-newest : goal.returns-clause-newest
returns-clause-newest c = newest_recalls
