use Rattle.spacetree.proofs.Covering.{coarse_side_is_of_leaf}
use Rattle.spacetree.proofs.laws.coarse_side_is_of_leaf.Goals as goal

pub returns : goal.returns
returns c = coarse_side_is_of_leaf
