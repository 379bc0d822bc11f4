use Rattle.worked_sweeps.proofs.Corners.{last_leaf}
use Rattle.worked_sweeps.proofs.centre.last_leaf.Goals as goal

pub returns : goal.returns
returns c = last_leaf
