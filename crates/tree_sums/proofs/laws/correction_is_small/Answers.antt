use Rattle.tree_sums.proofs.Bounds.{correction_is_small}
use Rattle.tree_sums.proofs.laws.correction_is_small.Goals as goal

pub returns : goal.returns
returns c = correction_is_small
