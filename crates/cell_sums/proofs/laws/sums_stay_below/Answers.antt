use Rattle.cell_sums.proofs.Bounds.{sums_stay_below}
use Rattle.cell_sums.proofs.laws.sums_stay_below.Goals as goal

pub returns : goal.returns
returns c = sums_stay_below
