use Rattle.cell_sums.proofs.Means.{components_are_means}
use Rattle.cell_sums.proofs.laws.components_are_means.Goals as goal

pub returns : goal.returns
returns c = components_are_means
