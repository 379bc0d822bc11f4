use Rattle.cell_sums.proofs.Bounds.{means_fit}
use Rattle.cell_sums.proofs.laws.means_fit.Goals as goal

pub returns : goal.returns
returns c = means_fit
