use Rattle.tree_sums.proofs.Steps.{mean_whole_step}
use Rattle.tree_sums.proofs.laws.mean_whole_step.Goals as goal

pub returns : goal.returns
returns c = mean_whole_step
