use Rattle.tree_sums.proofs.Trees.{shared_is_held_twice}
use Rattle.tree_sums.proofs.laws.shared_is_held_twice.Goals as goal

pub returns : goal.returns
returns c = shared_is_held_twice
