use Rattle.protocol.proofs.runs.Headline.{invariant_suffices}
use Rattle.protocol.proofs.laws.invariant_suffices.Goals as goal

pub returns : goal.returns
returns c = invariant_suffices
