use Rattle.tree_sums.proofs.Changes.{added_give_shared}
use Rattle.tree_sums.proofs.laws.added_give_shared.Goals as goal

pub returns : goal.returns
returns c = added_give_shared
