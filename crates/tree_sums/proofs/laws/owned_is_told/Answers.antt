use Rattle.tree_sums.proofs.Trees.{owned_is_told}
use Rattle.tree_sums.proofs.laws.owned_is_told.Goals as goal

pub returns : goal.returns
returns c = owned_is_told
