use Rattle.cell_sums.proofs.Bounds.{means_are_between}
use Rattle.cell_sums.proofs.laws.means_are_between.Goals as goal

pub returns : goal.returns
returns c = means_are_between
