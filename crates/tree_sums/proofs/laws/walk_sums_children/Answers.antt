use Rattle.tree_sums.proofs.Walks.{walk_sums_children}
use Rattle.tree_sums.proofs.laws.walk_sums_children.Goals as goal

pub returns : goal.returns
returns c = walk_sums_children
