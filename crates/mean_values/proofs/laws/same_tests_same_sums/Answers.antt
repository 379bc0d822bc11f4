use Rattle.mean_values.proofs.NextSums.{next_same}
use Rattle.mean_values.proofs.laws.same_tests_same_sums.Goals as goal

pub returns : goal.returns
returns c = next_same
