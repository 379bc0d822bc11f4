use Rattle.spacetree.proofs.LeafLists.{one_grid_of_leaves}
use Rattle.spacetree.proofs.laws.one_grid_of_leaves.Goals as goal

pub returns : goal.returns
returns c = one_grid_of_leaves
