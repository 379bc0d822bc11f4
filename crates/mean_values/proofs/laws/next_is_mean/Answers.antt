use Rattle.mean_values.proofs.NextSums.{next_is_mean}
use Rattle.mean_values.proofs.laws.next_is_mean.Goals as goal

pub returns : goal.returns
returns c = next_is_mean
