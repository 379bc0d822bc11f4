use Rattle.tree_sums.proofs.Trees.{at_most_two_shared}
use Rattle.tree_sums.proofs.laws.at_most_two_shared.Goals as goal

pub returns : goal.returns
returns c = at_most_two_shared
