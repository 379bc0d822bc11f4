use Rattle.tree_sums.proofs.Changes.{means_make_secondary}
use Rattle.tree_sums.proofs.laws.means_make_secondary.Goals as goal

pub returns : goal.returns
returns c = means_make_secondary
