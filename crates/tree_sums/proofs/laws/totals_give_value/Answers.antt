use Rattle.tree_sums.proofs.Changes.{totals_give_value}
use Rattle.tree_sums.proofs.laws.totals_give_value.Goals as goal

pub returns : goal.returns
returns c = totals_give_value
