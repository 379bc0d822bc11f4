use Rattle.tree_sums.proofs.Bounds.{some_children_are_between}
use Rattle.tree_sums.proofs.laws.some_children_are_between.Goals as goal

pub returns : goal.returns
returns c = some_children_are_between
