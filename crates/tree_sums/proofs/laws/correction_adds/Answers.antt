use Rattle.tree_sums.proofs.Corrections.{correction_adds}
use Rattle.tree_sums.proofs.laws.correction_adds.Goals as goal

pub returns : goal.returns
returns c = correction_adds
