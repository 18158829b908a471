use Rattle.protocol.proofs.runs.Headline.{grace_law}
use Rattle.protocol.proofs.laws.grace_law.Goals as goal

pub returns : goal.returns
returns c = grace_law
