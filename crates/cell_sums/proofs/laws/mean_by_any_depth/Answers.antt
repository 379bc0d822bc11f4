use Rattle.cell_sums.proofs.SumLaws.{mean_by_any_depth}
use Rattle.cell_sums.proofs.laws.mean_by_any_depth.Goals as goal

pub returns : goal.returns
returns c = mean_by_any_depth
