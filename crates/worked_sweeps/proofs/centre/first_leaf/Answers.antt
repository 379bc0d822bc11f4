use Rattle.worked_sweeps.proofs.Corners.{first_leaf}
use Rattle.worked_sweeps.proofs.centre.first_leaf.Goals as goal

pub returns : goal.returns
returns c = first_leaf
