use Rattle.tree_sums.proofs.Bounds.{partials_are_between}
use Rattle.tree_sums.proofs.laws.partials_are_between.Goals as goal

pub returns : goal.returns
returns c = partials_are_between
