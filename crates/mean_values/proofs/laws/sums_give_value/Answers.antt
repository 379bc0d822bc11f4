use Rattle.mean_values.proofs.Steps.{sums_give_value}
use Rattle.mean_values.proofs.laws.sums_give_value.Goals as goal

pub returns : goal.returns
returns c = sums_give_value
