use Rattle.demonstration.proofs.Openings.{opens_small}
use Rattle.demonstration.proofs.laws.opens_small.Goals as goal

pub returns : goal.returns
returns c = opens_small
