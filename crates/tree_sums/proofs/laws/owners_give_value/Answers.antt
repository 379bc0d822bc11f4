use Rattle.tree_sums.proofs.Changes.{owners_give_value}
use Rattle.tree_sums.proofs.laws.owners_give_value.Goals as goal

pub returns : goal.returns
returns c = owners_give_value
