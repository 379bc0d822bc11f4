use Rattle.worked_sweeps.proofs.Corners.{second_leaf}
use Rattle.worked_sweeps.proofs.centre.second_leaf.Goals as goal

pub returns : goal.returns
returns c = second_leaf
