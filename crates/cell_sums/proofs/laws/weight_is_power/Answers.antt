use Rattle.cell_sums.proofs.SumLaws.{weight_is_power}
use Rattle.cell_sums.proofs.laws.weight_is_power.Goals as goal

pub returns : goal.returns
returns c = weight_is_power
