use Rattle.worked_sweeps.proofs.Corners.{merged_leaf}
use Rattle.worked_sweeps.proofs.centre.merged_leaf.Goals as goal

pub returns : goal.returns
returns c = merged_leaf
