use Rattle.tree_sums.proofs.Bounds.{first_partials_are_between}
use Rattle.tree_sums.proofs.laws.first_partials_are_between.Goals as goal

pub returns : goal.returns
returns c = first_partials_are_between
