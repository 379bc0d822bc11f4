use Rattle.worked_sweeps.proofs.Corners.{split_leaf}
use Rattle.worked_sweeps.proofs.centre.split_leaf.Goals as goal

pub returns : goal.returns
returns c = split_leaf
