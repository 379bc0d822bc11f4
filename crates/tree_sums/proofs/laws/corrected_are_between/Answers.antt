use Rattle.tree_sums.proofs.Bounds.{corrected_are_between}
use Rattle.tree_sums.proofs.laws.corrected_are_between.Goals as goal

pub returns : goal.returns
returns c = corrected_are_between
