use Rattle.tree_sums.proofs.Unheld.{unheld_is_nothing}
use Rattle.tree_sums.proofs.laws.unheld_is_nothing.Goals as goal

pub returns : goal.returns
returns c = unheld_is_nothing
