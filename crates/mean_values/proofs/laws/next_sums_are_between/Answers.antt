use Rattle.mean_values.proofs.Bounds.{next_sums_are_between}
use Rattle.mean_values.proofs.laws.next_sums_are_between.Goals as goal

pub returns : goal.returns
returns c = next_sums_are_between
