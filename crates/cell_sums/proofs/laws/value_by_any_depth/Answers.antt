use Rattle.cell_sums.proofs.Means.{value_by_any_depth}
use Rattle.cell_sums.proofs.laws.value_by_any_depth.Goals as goal

pub returns : goal.returns
returns c = value_by_any_depth
