use Rattle.tree_sums.proofs.Trees.{shared_is_one_of_two}
use Rattle.tree_sums.proofs.laws.shared_is_one_of_two.Goals as goal

pub returns : goal.returns
returns c = shared_is_one_of_two
