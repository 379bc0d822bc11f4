use Rattle.tree_sums.proofs.Totals.{corrected_totals_are_sums}
use Rattle.tree_sums.proofs.laws.corrected_totals_are_sums.Goals as goal

pub returns : goal.returns
returns c = corrected_totals_are_sums
