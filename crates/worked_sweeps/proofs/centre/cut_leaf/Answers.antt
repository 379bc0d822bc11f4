use Rattle.worked_sweeps.proofs.Corners.{cut_leaf}
use Rattle.worked_sweeps.proofs.centre.cut_leaf.Goals as goal

pub returns : goal.returns
returns c = cut_leaf
