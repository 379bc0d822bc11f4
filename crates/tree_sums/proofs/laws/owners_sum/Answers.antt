use Rattle.tree_sums.proofs.Partials.{owners_sum}
use Rattle.tree_sums.proofs.laws.owners_sum.Goals as goal

pub returns : goal.returns
returns c = owners_sum
