use Rattle.tree_sums.proofs.Trees.{cuts_are_trees}
use Rattle.tree_sums.proofs.laws.cuts_are_trees.Goals as goal

pub returns : goal.returns
returns c = cuts_are_trees
