use Rattle.tree_sums.proofs.Steps.{mean_plain_step}
use Rattle.tree_sums.proofs.laws.mean_plain_step.Goals as goal

pub returns : goal.returns
returns c = mean_plain_step
