use Rattle.tree_sums.proofs.Corrections.{above_is_told}
use Rattle.tree_sums.proofs.laws.above_is_told.Goals as goal

pub returns : goal.returns
returns c = above_is_told
