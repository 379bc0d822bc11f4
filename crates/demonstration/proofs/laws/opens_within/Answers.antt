use Rattle.demonstration.proofs.Openings.{opens_within}
use Rattle.demonstration.proofs.laws.opens_within.Goals as goal

pub returns : goal.returns
returns c = opens_within
