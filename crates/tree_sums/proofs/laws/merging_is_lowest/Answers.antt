use Rattle.tree_sums.proofs.Corrections.{merging_is_lowest}
use Rattle.tree_sums.proofs.laws.merging_is_lowest.Goals as goal

pub returns : goal.returns
returns c = merging_is_lowest
