use Rattle.tree_sums.proofs.Trees.{shared_by_own_range}
use Rattle.tree_sums.proofs.laws.shared_by_own_range.Goals as goal

pub returns : goal.returns
returns c = shared_by_own_range
