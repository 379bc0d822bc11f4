use Rattle.worked_sweeps.proofs.Corners.{middle_leaf}
use Rattle.worked_sweeps.proofs.centre.middle_leaf.Goals as goal

pub returns : goal.returns
returns c = middle_leaf
