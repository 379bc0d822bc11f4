use Rattle.tree_sums.proofs.Trees.{partials_are_few}
use Rattle.tree_sums.proofs.laws.partials_are_few.Goals as goal

pub returns : goal.returns
returns c = partials_are_few
