use Rattle.mean_values.proofs.Lists.{leaves_make_sum}
use Rattle.mean_values.proofs.laws.leaves_make_sum.Goals as goal

pub returns : goal.returns
returns c = leaves_make_sum
